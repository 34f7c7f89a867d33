use Rattle.str_indices.proofs.lemmas.{◌≡◌, ℕ, ◌+◌, ◌<◌, ◌≤◌, length, true, get_or, is_trailing}
use Rattle.str_indices.proofs.places.boundary_at_or_after.Given as goal

abbrev pub invariant-loop : goal.invariant-loop
invariant-loop g l = record {
  peeked : l.probe ≡ record l.initial.probe { peeks = l.initial.probe.peeks + l.counter };
  place : l.boundary ≡ l.byte + l.counter;
  within : l.boundary ≤ length l.initial.probe.text;
  trails : (j : ℕ) → l.byte ≤ j → j < l.boundary → is_trailing (get_or l.initial.probe.text j 0) ≡ true;
}
