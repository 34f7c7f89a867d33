use Rattle.str_indices.proofs.lemmas.{Each1-weaker, ◌+◌, ◌*◌, arith, counted_there, length, mul-le-mul_right, group_joined, subst, sum_below}
use Rattle.str_indices.proofs.place_counts.skip_chunks.Goals as goal

pub overflow_add-count : goal.overflow_add-count
overflow_add-count g c =
    let lanes = rw (c.groups.invariant.reads.text_kept, c.len-len.ensures.len) at c.add_chunks-added.ensures.lanes in
    let fits = mul-le-mul_right {m = c.args.group} {n = c.args.least} g.T.ByteChunk.SIZE c.requires.least.0 in
    let all = c.requires.fits (c.groups.at.byte + c.args.group * g.T.ByteChunk.SIZE)
    (omega (arith, rw c.SIZE.ensures at c.groups-test.true, fits)) in
    omega (arith, c.groups.invariant.searches.counted, lanes.added, c.sum_bytes.ensures, all)

pub groups-preserved : goal.groups-preserved
groups-preserved g c =
    let so_far = c.groups.invariant in
    let group = c.add_chunks-added.ensures in
    let lanes = rw (so_far.reads.text_kept, c.len-len.ensures.len) at group.lanes in
    let fits = mul-le-mul_right {m = c.args.group} {n = c.args.least} g.T.ByteChunk.SIZE c.requires.least.0 in
    let here = rw c.SIZE.ensures at c.groups-test.true in
    let text = c.args.probe.now.text in
    let before = sum_below (g.C.PlaceCounts.counted_at (length text) text) in
    rw c.SIZE-in-groups.ensures (record {
      from_low = omega (arith, so_far.from_low);
      searches = record {
        within = omega (arith, here, fits);
        counted = counted_there before (c.groups.at.byte + c.args.group * g.T.ByteChunk.SIZE) (omega arith)
            (omega (arith, so_far.searches.counted, lanes.added, c.sum_bytes.ensures));
        at_most = omega arith;
        carried = subst (λ at. g.C.PlaceCounts.carries text at c.add_chunks-added.result.carry) (omega arith)
            (rw so_far.reads.text_kept at group.carried);
      };
      reads = group_joined (omega arith) g.met.T.ByteChunk.lawful.least so_far.from_low so_far.reads group.reads;
    })

pub sum_bytes-requires : goal.sum_bytes-requires
sum_bytes-requires g c =
    let lanes = c.add_chunks-added.ensures.lanes in
    Each1-weaker _ _ (λ lane le. omega (arith, c.requires.room, g.met.T.ByteChunk.lawful.room, le)) _ lanes.small
