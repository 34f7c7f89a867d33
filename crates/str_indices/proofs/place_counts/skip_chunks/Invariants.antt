use Rattle.str_indices.proofs.lemmas.{◌-◌, ◌/◌, ◌≤◌, Reads, SearchesOn}
use Rattle.str_indices.proofs.place_counts.skip_chunks.Given as goal

abbrev pub invariant-groups : goal.invariant-groups
invariant-groups g l = record {
  from_low : l.initial.at.byte ≤ l.at.byte;
  searches : SearchesOn g.C.PlaceCounts.counted_at g.C.PlaceCounts.carries l.initial.probe.text l.idx l.at.byte l.at.count
      l.at.carry;
  reads : Reads l.initial.probe l.probe l.initial.at.byte 0 ((l.at.byte - l.initial.at.byte) / g.T.ByteChunk.SIZE) 0;
}

abbrev pub decreases-groups : goal.decreases-groups
decreases-groups g l = l.len - l.at.byte
