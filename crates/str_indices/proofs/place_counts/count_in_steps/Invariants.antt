use Rattle.str_indices.proofs.lemmas.{◌≡◌, ◌+◌, ◌*◌, sum_below, AddsUp, Reads}
use Rattle.str_indices.proofs.place_counts.count_in_steps.Given as goal

abbrev pub invariant-steps : goal.invariant-steps
invariant-steps g l = record {
  place : l.at ≡ l.fn.from.byte + l.counter * l.fn.step * g.T.ByteChunk.SIZE;
  lanes : AddsUp (sum_below (g.C.PlaceCounts.counted_at l.fn.end l.initial.probe.text)) g.C.PlaceCounts.MOST g.T.ByteChunk.SIZE
      l.fn.from.byte l.at (l.counter * l.fn.step) (g.T.ByteChunk.lanes l.lanes);
  carried : g.C.PlaceCounts.carries l.initial.probe.text l.at l.carry;
  reads : Reads l.initial.probe l.probe l.fn.from.byte 0 (l.counter * l.fn.step) 0;
}
