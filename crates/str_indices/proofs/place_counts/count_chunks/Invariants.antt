use Rattle.str_indices.proofs.lemmas.{◌-◌, ◌/◌, ◌≤◌, CountsOn, Reads}
use Rattle.str_indices.proofs.place_counts.count_chunks.Given as goal

abbrev pub invariant-rounds : goal.invariant-rounds
invariant-rounds g l = record {
  from_low : l.initial.at.byte ≤ l.at.byte;
  to_high : l.at.byte ≤ l.to;
  counts : CountsOn (g.C.PlaceCounts.counted_at l.end l.initial.probe.text)
      (g.C.PlaceCounts.carries l.initial.probe.text) l.at.byte l.at.count l.at.carry;
  reads : Reads l.initial.probe l.probe l.initial.at.byte 0 ((l.at.byte - l.initial.at.byte) / g.T.ByteChunk.SIZE) 0;
}

abbrev pub decreases-rounds : goal.decreases-rounds
decreases-rounds g l = l.to - l.at.byte
