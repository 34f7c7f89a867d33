use Rattle.str_indices.proofs.lemmas.{◌≡◌, ◌+◌, take, drop, length}
use Rattle.str_indices.proofs.utf8_faults.chunk_by_turns.Given as goal

abbrev pub invariant-loop-i : goal.invariant-loop-i
invariant-loop-i g l = record {
  turned : l.probe ≡ record l.initial.probe { turns = l.initial.probe.turns + l.i };
  long : length l.bytes ≡ 64;
  filled : take l.i l.bytes ≡ take l.i (drop l.at l.initial.probe.text);
}
