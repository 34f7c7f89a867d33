use Rattle.str_indices.proofs.lemmas.Common.{◌*◌, ◌-◌, ◌<◌, ◌≤◌, HasLanes}
use Rattle.str_indices.proofs.lemmas.Rest.{window}
use Rattle.str_indices.proofs.chunk_search.sums_to_end.Given as goal

abbrev pub invariant-widths : goal.invariant-widths
invariant-widths g l = record {
  some : 0 < l.fours;
  few : l.fours ≤ 32;
  sums : HasLanes g.T.ByteChunk.SIZE (window (g.T.ByteChunk.lanes l.fn.lanes) (4 * l.fours)) (g.T.ByteChunk.lanes l.sums);
}

abbrev pub decreases-widths : goal.decreases-widths
decreases-widths g l = g.T.ByteChunk.SIZE - l.fours
