use Rattle.std.proofs.Common.{◌≡◌, ℕ, ◌+◌, ◌<◌, false, get_or}
use Rattle.str_indices.specs.Kinds.{IsWidePair}
use Rattle.str_indices.proofs.kinds.no_wide_pair.Given as goal

abbrev pub invariant-loop-i : goal.invariant-loop-i
invariant-loop-i l = record {
  none : l.any ≡ false → (k : ℕ) → 1 + k < l.i → ¬ (IsWidePair (get_or l.bytes k 0) (get_or l.bytes (1 + k) 0));
  some : ((k : ℕ) → 1 + k < l.i → ¬ (IsWidePair (get_or l.bytes k 0) (get_or l.bytes (1 + k) 0))) → l.any ≡ false;
}
