use Rattle.str_indices.proofs.lemmas.{◌-◌, ◌/◌, ◌≤◌, length, AllFollow, Reads, is_open}
use Rattle.std.specs.Prelude.{IsFalse}
use Rattle.str_indices.proofs.utf8_faults.skip_ascii.Given as goal

abbrev pub invariant-groups : goal.invariant-groups
invariant-groups g l = record {
  low : l.from ≤ l.at;
  high : l.at ≤ length l.initial.probe.text;
  follow : AllFollow l.initial.probe.text 0 l.at;
  shut : IsFalse (is_open l.initial.probe.text l.at);
  reads : Reads l.initial.probe l.probe l.from 0 ((l.at - l.from) / g.T.ByteChunk.SIZE) 0;
}

abbrev pub decreases-groups : goal.decreases-groups
decreases-groups g l = length l.initial.probe.text - l.at
