use Rattle.std.proofs.Common.{ℕ, ◌<◌, ◌↔◌, IsTrue, get_or}
use Rattle.positions.specs.Plain.{IsPlain}
use Rattle.positions.proofs.plain.is_plain.Given as goal

abbrev pub invariant-loop-byte : goal.invariant-loop-byte
invariant-loop-byte l = IsTrue l.plain ↔ ((k : ℕ) → k < l.byte-index → IsPlain (get_or l.bytes k 0))
