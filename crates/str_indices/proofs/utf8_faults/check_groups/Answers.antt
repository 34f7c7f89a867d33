use Rattle.str_indices.proofs.lemmas.{◌+◌, ◌-◌, ◌*◌, ◌≤◌, ◌∙◌, length, sym, ap, arith, subst, AllFollow, AreBefore, chunks_joined, chunks_rise, div-add-le, fault_after, four_after, four_joined, group_to_end, then_, unloaded, weaken}
use Rattle.str_indices.proofs.utf8_faults.check_groups.Goals as goal

pub returns-in-Err-clause-reads : goal.returns-in-Err-clause-reads
returns-in-Err-clause-reads g c =
    let so_far = c.groups.invariant in
    group_to_end c.args.from c.groups.at g.T.ByteChunk.SIZE (length c.args.probe.now.text) g.met.T.ByteChunk.lawful.least so_far.low
    (omega (arith, c.groups-test.true, c.SIZE.ensures, c.len-len.ensures.len, so_far.high, ap length c.bytes_before-before.ensures.reads.text_kept))
    c.bytes_before-before.ensures.reads so_far.reads c.in-Err.ensures.err.1

pub returns-in_default-clause-ok : goal.returns-in_default-clause-ok
returns-in_default-clause-ok g c =
    let so_far = c.groups.invariant in
    let kept = so_far.reads.text_kept ∙ c.bytes_before-before.ensures.reads.text_kept in
    let next = c.in-Ok.ensures.ok in (
      omega (arith, so_far.low, next.0),
      omega (arith, next.1, ap length kept),
      subst (λ t. AllFollow t 0 c.in-Ok.next.at) kept next.2,
    )

pub returns-in_default-clause-reads : goal.returns-in_default-clause-reads
returns-in_default-clause-reads g c =
    let so_far = c.groups.invariant in
    let next = c.in-Ok.ensures.ok in
    let size = g.T.ByteChunk.SIZE in
    let least = g.met.T.ByteChunk.lawful.least in
    let text = c.args.probe.now.text in
    let kept = so_far.reads.text_kept ∙ c.bytes_before-before.ensures.reads.text_kept in
    let more = rw c.in_default.is at c.in-Ok.ensures.none in
    let joined = chunks_joined {size = size} {to = c.in-Ok.next.at} least so_far.low next.0 so_far.reads more in
    weaken (then_ (unloaded c.args.from c.bytes_before-before.ensures.reads) joined) (omega arith) (omega arith)
    (omega (
      arith,
      div-add-le size c.args.from c.in-Ok.next.at (length text) least (omega (arith, so_far.low, next.0))
          (omega (arith, next.1, ap length kept)),
    )) (omega arith)

pub returns-in_default-clause-ok_reads : goal.returns-in_default-clause-ok_reads
returns-in_default-clause-ok_reads g c =
    let so_far = c.groups.invariant in
    let next = c.in-Ok.ensures.ok in
    let more = rw c.in_default.is at c.in-Ok.ensures.none in
    let joined = chunks_joined {size = g.T.ByteChunk.SIZE} {to = c.in-Ok.next.at} g.met.T.ByteChunk.lawful.least so_far.low next.0
    so_far.reads more in
    weaken (then_ (unloaded c.args.from c.bytes_before-before.ensures.reads) joined) (omega arith) (omega arith) (omega arith) (omega arith)

pub check_group-requires-clause-follow : goal.check_group-requires-clause-follow
check_group-requires-clause-follow g c =
    let found = rw c.in-Some.is at c.in-Ok.ensures.some in
    subst (λ t. AllFollow t 0 c.in-Ok.next.at) (sym found.1.text_kept) c.in-Ok.ensures.ok.2

pub returns-in-Err-check_group-clause-reads : goal.returns-in-Err-check_group-clause-reads
returns-in-Err-check_group-clause-reads g c =
    let so_far = c.groups.invariant in
    let next = c.in-Ok.next.at in
    let size = g.T.ByteChunk.SIZE in
    let least = g.met.T.ByteChunk.lawful.least in
    let n = length c.args.probe.now.text in
    let kept = so_far.reads.text_kept ∙ c.bytes_before-before.ensures.reads.text_kept in
    let found = rw c.in-Some.is at c.in-Ok.ensures.some in
    let joined = four_joined least so_far.low c.in-Ok.ensures.ok.0 so_far.reads found.1 in
    let low : c.args.from ≤ next = omega (arith, so_far.low, c.in-Ok.ensures.ok.0) in
    let within : next + 4 * size ≤ n = omega (arith, found.0.within, ap length kept) in
    weaken (then_ (unloaded c.args.from c.bytes_before-before.ensures.reads) joined) (omega arith) (omega arith)
    (omega (arith, four_after c.args.from next size least low, chunks_rise (next + 4 * size - c.args.from) (n - c.args.from) size least (omega (arith, within))))
    (omega arith)

pub returns-in-Err-check_group-clause-err_reads : goal.returns-in-Err-check_group-clause-err_reads
returns-in-Err-check_group-clause-err_reads g c =
    let so_far = c.groups.invariant in
    let next = c.in-Ok.next.at in
    let size = g.T.ByteChunk.SIZE in
    let least = g.met.T.ByteChunk.lawful.least in
    let fault = c.in-Err-check_group in
    let found = rw c.in-Some.is at c.in-Ok.ensures.some in
    let joined = four_joined least so_far.low c.in-Ok.ensures.ok.0 so_far.reads found.1 in
    let after = fault_after c.next_group.new.probe.text
    (subst (λ t. AllFollow t 0 next) (sym found.1.text_kept) c.in-Ok.ensures.ok.2) fault.ensures.err in
    weaken (then_ (unloaded c.args.from c.bytes_before-before.ensures.reads) joined) (omega arith) (omega arith)
    (omega (arith, chunks_rise (next - c.args.from) (fault.fault.at - c.args.from) size least (omega (arith, after))))
    (omega arith)

pub groups-preserved : goal.groups-preserved
groups-preserved g c =
    let text = c.bytes_before-before.new.probe.text in
    let so_far = c.groups.invariant in
    let next = c.in-Ok.next.at in
    let size = g.T.ByteChunk.SIZE in
    let lanes = g.T.ByteChunk.lanes in
    let least = g.met.T.ByteChunk.lawful.least in
    let after = c.in-Ok-check_group.after in
    let found = rw c.in-Some.is at c.in-Ok.ensures.some in
    let same = found.1.text_kept ∙ so_far.reads.text_kept in
    let low : c.args.from ≤ next = omega (arith, so_far.low, c.in-Ok.ensures.ok.0) in
    let joined = four_joined least so_far.low c.in-Ok.ensures.ok.0 so_far.reads found.1 in
    rw c.SIZE-in-groups.ensures (record {
      low = omega (arith, low);
      high = omega (arith, found.0.within, ap length so_far.reads.text_kept);
      follow = subst (λ t. AllFollow t 0 (next + 4 * size)) same c.in-Ok-check_group.ensures.ok.0;
      before = subst (λ t. AreBefore size t (next + 4 * size) (lanes after.one_back) (lanes after.two_back) (lanes after.three_back))
          same c.in-Ok-check_group.ensures.ok.1;
      reads = weaken joined (omega arith) (omega arith) (four_after c.args.from next size least low) (omega arith);
    })
