use Rattle.str_indices.proofs.lemmas.{IsGreatest, IsLeast}
use Rattle.str_indices.proofs.kinds.kinds_of.Given as goal

abbrev pub invariant-loop-byte : goal.invariant-loop-byte
invariant-loop-byte l = record {
  greatest : IsGreatest l.bytes l.byte-index l.greatest;
  least : IsLeast l.bytes l.byte-index l.least_from_vt;
}
