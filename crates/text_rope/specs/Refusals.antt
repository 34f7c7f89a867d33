-- Which refusal a call gives, and when. What is asked of it is checked in the order of the fields.
--     IsRefused refused text from to long memory     a call with two byte indices of a text
--     IsChangeRefused refused any part text more     a change of a part of a text, told by a range of positions
-- `refused x` says that x is the refusal that is given, and `more` is the text that comes in, in bytes.
use Rattle.std.specs.Prelude.{ℕ, ◌≢◌, ◌+◌, ◌-◌, ◌^◌, ◌<◌, ◌≤◌, ◌↔◌, ◌⊎◌, List, [], Option, IsNone, IsSome, IsSomeAnd, chars, length}
use Rattle.std.specs.declared.ops.Range as bytes
use Rattle.str_indices.specs.Relations.{IsBoundary}
use Rattle.str_indices.specs.Text.{Text, size}
use Rattle.text_rope.specs.declared.refusals.Refusal.{Refusal}
use Rattle.text_rope.specs.declared.refusals.Refusal.TheVariants.{NotOrdered, NotBoundary, TooLong, NoMemory}

-- NotOrdered where the first index is above the second, or else NotBoundary where one is inside a char or past the end, or else
-- TooLong where something is too long; and NoMemory at most where some is taken
pub record IsRefused (refused : Refusal → Type 0) (text : Text) (from to : ℕ) (long memory : Type 0) : Type 0 where
  pub not_ordered : refused NotOrdered ↔ (to < from)
  pub not_boundary : refused NotBoundary ↔ ((from ≤ to) × ¬ (IsBoundary text from × IsBoundary text to))
  pub too_long : refused TooLong ↔ ((from ≤ to) × (IsBoundary text from × IsBoundary text to) × long)
  pub no_memory : refused NoMemory → memory

-- NotOrdered where there is no part at all, or else NotBoundary where the positions name none, or else TooLong where the text
-- would have 2 ^ 63 bytes or more; and NoMemory at most where the text changes and something is left of it
pub record IsChangeRefused (refused : Refusal → Type 0) (any part : Option (bytes.Range ℕ)) (text : Text) (more : List ℕ) : Type 0 where
  pub not_ordered : refused NotOrdered ↔ IsNone any
  pub not_boundary : refused NotBoundary ↔ (IsSome any × IsNone part)
  pub too_long : refused TooLong ↔ IsSomeAnd part (λ p. 2 ^ 63 + (p.end - p.start) ≤ size text + length more)
  pub no_memory : refused NoMemory
      → IsSomeAnd part (λ p. (chars more ≢ []) ⊎ ((p.start < p.end) × (p.end - p.start < size text)))
