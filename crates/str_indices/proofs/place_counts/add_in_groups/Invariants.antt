use Rattle.str_indices.proofs.lemmas.{◌≡◌, ◌+◌, ◌*◌, sum_below, AddsUp, Reads}
use Rattle.str_indices.proofs.place_counts.add_in_groups.Given as goal

abbrev pub invariant-groups : goal.invariant-groups
invariant-groups g l = record {
  place : l.at ≡ l.fn.from + l.counter * l.size * g.T.ByteChunk.SIZE;
  lanes : AddsUp (sum_below (g.C.PlaceCounts.counted_at l.fn.end l.initial.probe.text)) g.C.PlaceCounts.MOST g.T.ByteChunk.SIZE
      l.fn.from l.at (l.counter * l.size) (g.T.ByteChunk.lanes l.lanes);
  carried : g.C.PlaceCounts.carries l.initial.probe.text l.at l.carry;
  reads : Reads l.initial.probe l.probe l.fn.from 0 (l.counter * l.size) 0;
}
