use Rattle.str_indices.proofs.lemmas.{◌≡◌, ◌-◌, ◌/◌, ◌≤◌, ◌∙◌, length, sym, ap, subst, arith, AllFollow, IsFault, leading_bytes, chunks_to_place, div-add-le, fault_after, one_chunk_more, passes_joined, turns_joined, weaken}
use Rattle.std.proofs.lemmas.Result.{IfErr-weaker}
use Rattle.str_indices.proofs.utf8_faults.first_fault.Goals as goal

pub returns-in-Err-check_chunks-clause-reads : goal.returns-in-Err-check_chunks-clause-reads
returns-in-Err-check_chunks-clause-reads g c =
    let size = g.T.ByteChunk.SIZE in
    let n = length c.check_groups.new.probe.text in
    let whole = length c.args.probe.now.text in
    let same = ap length (c.check_groups.ensures.reads.text_kept ∙ c.walk-2.ensures.reads.text_kept) in
    let first : c.min-first_chunk.result ≡ leading_bytes c.args.lead whole = omega (arith, c.min-first_chunk.ensures, c.len-len.ensures.len) in
    let left : n - c.min-first_chunk.result ≡ whole - leading_bytes c.args.lead whole = omega (arith, first, same) in
    let joined = passes_joined c.min-first_chunk.result c.in-Ok.at n size g.met.T.ByteChunk.lawful.least c.in-Ok.ensures.ok.0
    (omega (arith, c.in-Ok.ensures.ok.1, ap length c.check_groups.ensures.reads.text_kept)) c.walk-2.ensures.reads c.in-Ok.ensures.ok_reads
    c.check_chunks.ensures.reads in
    weaken joined (omega (arith, first)) (omega (arith, first)) (omega (arith, ap (λ k. k / size) left)) (omega arith)

pub returns-in-Err-check_chunks-clause-loads : goal.returns-in-Err-check_chunks-clause-loads
returns-in-Err-check_chunks-clause-loads g c =
    let size = g.T.ByteChunk.SIZE in
    let kept = c.check_groups.ensures.reads.text_kept in
    let after = fault_after c.check_groups.new.probe.text
    (subst (λ t. AllFollow t 0 c.in-Ok.at) (sym kept) c.in-Ok.ensures.ok.2) c.in-Err-check_chunks.ensures.err in
    let few = chunks_to_place c.min-first_chunk.result c.in-Ok.at c.in-Err-check_chunks.fault.at size g.met.T.ByteChunk.lawful.least
    c.in-Ok.ensures.ok.0 after in
    omega (
      arith,
      few,
      c.walk-2.ensures.reads.loads_within.within,
      c.in-Ok.ensures.ok_reads.loads_within.within,
      c.in-Err-check_chunks.ensures.err_reads.loads_within.within,
    )

pub returns-then-after_chunks-len-clause-reads : goal.returns-then-after_chunks-len-clause-reads
returns-then-after_chunks-len-clause-reads g c =
    let size = g.T.ByteChunk.SIZE in
    let n = length c.check_groups.new.probe.text in
    let whole = length c.args.probe.now.text in
    let same = ap length (c.check_groups.ensures.reads.text_kept ∙ c.walk-2.ensures.reads.text_kept) in
    let first : c.min-first_chunk.result ≡ leading_bytes c.args.lead whole = omega (arith, c.min-first_chunk.ensures, c.len-len.ensures.len) in
    let left : n - c.min-first_chunk.result ≡ whole - leading_bytes c.args.lead whole = omega (arith, first, same) in
    let joined = passes_joined c.min-first_chunk.result c.in-Ok.at n size g.met.T.ByteChunk.lawful.least c.in-Ok.ensures.ok.0
    (omega (arith, c.in-Ok.ensures.ok.1, ap length c.check_groups.ensures.reads.text_kept)) c.walk-2.ensures.reads c.in-Ok.ensures.ok_reads
    c.check_chunks.ensures.reads in
    weaken joined (omega (arith, first)) (omega (arith, first)) (omega (arith, ap (λ k. k / size) left)) (omega arith)

pub returns-clause-reads : goal.returns-clause-reads
returns-clause-reads g c =
    let size = g.T.ByteChunk.SIZE in
    let n = length c.check_groups.new.probe.text in
    let whole = length c.args.probe.now.text in
    let same = ap length (c.check_groups.ensures.reads.text_kept ∙ c.walk-2.ensures.reads.text_kept) in
    let first : c.min-first_chunk.result ≡ leading_bytes c.args.lead whole = omega (arith, c.min-first_chunk.ensures, c.len-len.ensures.len) in
    let left : n - c.min-first_chunk.result ≡ whole - leading_bytes c.args.lead whole = omega (arith, first, same) in
    let joined = passes_joined c.min-first_chunk.result c.in-Ok.at n size g.met.T.ByteChunk.lawful.least c.in-Ok.ensures.ok.0
    (omega (arith, c.in-Ok.ensures.ok.1, ap length c.check_groups.ensures.reads.text_kept)) c.walk-2.ensures.reads c.in-Ok.ensures.ok_reads
    c.check_chunks.ensures.reads in
    weaken (turns_joined joined c.check_rest.ensures.reads) (omega (arith, first)) (omega (arith, first))
    (omega (arith, ap (λ k. k / size) left)) (omega arith)

pub returns-clause-loads : goal.returns-clause-loads
returns-clause-loads g c =
    let size = g.T.ByteChunk.SIZE in
    let least = g.met.T.ByteChunk.lawful.least in
    let n = length c.check_groups.new.probe.text in
    let text = c.check_chunks.new.probe.text in
    let first = c.min-first_chunk.result in
    let at = c.in-Ok.at in
    let groups = c.in-Ok.ensures in
    let chunks = c.in-Ok-check_chunks.ensures.ok in
    let high : at ≤ n = omega (arith, groups.ok.1, ap length c.check_groups.ensures.reads.text_kept) in
    let all : AllFollow text 0 c.in-Ok-check_chunks.at =
    subst (λ t. AllFollow t 0 c.in-Ok-check_chunks.at) (sym c.check_chunks.ensures.reads.text_kept) chunks.2 in
    IfErr-weaker c.check_rest.result (λ fault. IsFault text fault.at) _ (λ fault is. omega (
      arith,
      one_chunk_more (n - first) fault.at size least (omega (arith, fault_after text all is, chunks.3)),
      div-add-le size first at n least groups.ok.0 high,
      c.walk-2.ensures.reads.loads_within.within,
      groups.ok_reads.loads_within.within,
      c.check_chunks.ensures.reads.loads_within.within,
      c.check_rest.ensures.reads.loads_within.within,
    )) c.check_rest.ensures.err
