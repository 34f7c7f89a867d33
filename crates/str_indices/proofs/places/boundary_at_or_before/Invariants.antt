use Rattle.str_indices.proofs.lemmas.{◌≡◌, ℕ, ◌+◌, ◌<◌, ◌≤◌, true, get_or, is_trailing}
use Rattle.str_indices.proofs.places.boundary_at_or_before.Given as goal

abbrev pub invariant-loop : goal.invariant-loop
invariant-loop g l = record {
  peeked : l.probe ≡ record l.initial.probe { peeks = l.initial.probe.peeks + l.counter };
  place : l.boundary + l.counter ≡ l.byte;
  trails : (j : ℕ) → l.boundary < j → j ≤ l.byte → is_trailing (get_or l.initial.probe.text j 0) ≡ true;
}
