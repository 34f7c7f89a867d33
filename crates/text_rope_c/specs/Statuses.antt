-- The statuses of changes.
--     status_of r      the status of an answer, one of the numbers named below
--     IsStatus n x     n is the status of a refusal
use Rattle.std.specs.Prelude.{ℕ, ◌≡◌}
use Rattle.std.specs.declared.result.Result.{Result}
use Rattle.std.specs.declared.result.Result.TheVariants.{Ok, Err}
use Rattle.text_rope.specs.declared.refusals.Refusal.{Refusal}
use Rattle.text_rope.specs.declared.refusals.Refusal.TheVariants.{NotOrdered, NotBoundary, TooLong, NoMemory}

-- the statuses
abbrev pub done : ℕ
done = 0

abbrev pub not_ordered : ℕ
not_ordered = 1

abbrev pub not_boundary : ℕ
not_boundary = 2

abbrev pub too_long : ℕ
too_long = 3

abbrev pub no_memory : ℕ
no_memory = 4

abbrev pub not_utf8 : ℕ
not_utf8 = 5

abbrev pub status_of : Result (Unit {0}) Refusal → ℕ
status_of (Ok _) = done
status_of (Err NotOrdered) = not_ordered
status_of (Err NotBoundary) = not_boundary
status_of (Err TooLong) = too_long
status_of (Err NoMemory) = no_memory

-- the status is that of the refusal
abbrev pub IsStatus : ℕ → Refusal → Type 0
IsStatus n x = n ≡ status_of (Err x)
