use Rattle.str_indices.proofs.lemmas.{◌≡◌, ◌-◌, ◌/◌, ◌≤◌, length, true, AllFollow, Reads, is_open}
use Rattle.std.specs.Prelude.{IsFalse}
use Rattle.str_indices.proofs.utf8_faults.check_chunks.Given as goal

abbrev pub invariant-chunks : goal.invariant-chunks
invariant-chunks g l = record {
  low : l.from ≤ l.at;
  high : l.at ≤ length l.initial.probe.text;
  follow : AllFollow l.initial.probe.text 0 l.at;
  shut : l.after_ascii ≡ true → IsFalse (is_open l.initial.probe.text l.at);
  reads : Reads l.initial.probe l.probe l.from 0 ((l.at - l.from) / g.T.ByteChunk.SIZE) 0;
}

abbrev pub decreases-chunks : goal.decreases-chunks
decreases-chunks g l = l.len - l.at
