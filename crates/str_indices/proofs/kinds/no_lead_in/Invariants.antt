use Rattle.std.proofs.Common.{◌≡◌, ◌≢◌, ℕ, ◌<◌, false, get_or}
use Rattle.str_indices.proofs.kinds.no_lead_in.Given as goal

abbrev pub invariant-loop-byte : goal.invariant-loop-byte
invariant-loop-byte l = record {
  none : l.any ≡ false → (k : ℕ) → k < l.byte-index → (get_or l.block k 0 ≢ 0xC2) × (get_or l.block k 0 ≢ 0xE2);
  some : ((k : ℕ) → k < l.byte-index → (get_or l.block k 0 ≢ 0xC2) × (get_or l.block k 0 ≢ 0xE2)) → l.any ≡ false;
}
