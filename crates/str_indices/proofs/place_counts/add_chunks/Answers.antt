use Rattle.str_indices.proofs.lemmas.{◌+◌, ◌∙◌, ap, arith, add-mul, mul-le-mul_right, nothing_added, lanes_addable, lanes_added, lanes_of_places, nothing, chunk_made, chunk_read, room_exchanged, sums_exchanged}
use Rattle.str_indices.proofs.place_counts.add_chunks.Goals as goal

pub chunks-init : goal.chunks-init
chunks-init g c = record {
  place = omega arith;
  lanes = nothing_added c.zero-lanes.ensures;
  carried = c.requires.carried;
  reads = nothing c.args.probe.now c.args.from;
}

pub add-lanes-requires : goal.add-lanes-requires
add-lanes-requires g c =
    let so_far = c.chunks.invariant in
    let same = ap (λ p. p.text) c.load-chunk.ensures.state ∙ so_far.reads.text_kept in
    let counted = g.C.PlaceCounts.counted_at c.args.end c.args.probe.now.text in
    let more = lanes_of_places counted (g.met.C.PlaceCounts.bounded.2 c.args.end c.args.probe.now.text)
    ((rw same at c.count_lanes-counted.ensures.lanes) so_far.carried) in
    let few = mul-le-mul_right {m = c.chunks.counter + 1} {n = c.args.chunks} g.C.PlaceCounts.MOST (omega arith) in
    search (lanes_addable so_far.lanes more 255 (omega (arith, few, c.requires.room)), room_exchanged)

pub chunks-preserved : goal.chunks-preserved
chunks-preserved g c =
    let so_far = c.chunks.invariant in
    let same = ap (λ p. p.text) c.load-chunk.ensures.state ∙ so_far.reads.text_kept in
    let counted = g.C.PlaceCounts.counted_at c.args.end c.args.probe.now.text in
    let more = lanes_of_places counted (g.met.C.PlaceCounts.bounded.2 c.args.end c.args.probe.now.text)
    ((rw same at c.count_lanes-counted.ensures.lanes) so_far.carried) in
    let chunk = c.count_lanes-counted.ensures in
    let reads = chunk_made c.chunks.at c.chunks.at (omega arith) c.load-chunk.ensures.state chunk.reads in
    rw c.SIZE-at.ensures (record {
      place = omega (arith, so_far.place, add-mul c.chunks.counter 1 g.T.ByteChunk.SIZE);
      lanes = lanes_added so_far.lanes more (search (c.add-lanes.ensures, sums_exchanged));
      carried = rw same at chunk.carried;
      reads = chunk_read (omega (arith, so_far.place)) so_far.reads reads;
    })
