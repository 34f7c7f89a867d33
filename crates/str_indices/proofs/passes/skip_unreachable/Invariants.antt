use Rattle.str_indices.proofs.lemmas.{◌-◌, ◌/◌, ◌≤◌, Reads, SearchesOn}
use Rattle.str_indices.proofs.passes.skip_unreachable.Given as goal

abbrev pub invariant-rounds : goal.invariant-rounds
invariant-rounds g l = record {
  from_low : l.initial.at.byte ≤ l.at.byte;
  searches : SearchesOn g.C.PlaceCounts.counted_at g.C.PlaceCounts.carries l.initial.probe.text l.idx l.at.byte l.at.count
      l.at.carry;
  reads : Reads l.initial.probe l.probe l.initial.at.byte 0 ((l.at.byte - l.initial.at.byte) / g.T.ByteChunk.SIZE) 0;
}

abbrev pub decreases-rounds : goal.decreases-rounds
decreases-rounds g l = l.len - l.at.byte
