-- Where the char at a byte index begins, where its line begins, and where the surrogate pair of a unit does.
--     IsGreatestBoundary text byte p   p is the greatest boundary at or before the byte index
--     IsGreatestEnd s text byte p      p is the greatest end at or before it, or 0 where there is none
--     IsSecondUnit text k              the text has a surrogate pair whose first unit is unit k - 1
--     IsInside w text k                k falls inside a char, where each weighs by w
use Rattle.std.specs.Prelude.{ℕ, ◌≡◌, ◌+◌, ◌<◌, ◌≤◌, ◌⊎◌, ◌∷◌, ◌++◌, sum_by}
use Rattle.str_indices.specs.Text.{Text, weight}
use Rattle.str_indices.specs.Schemes.{Scheme}
use Rattle.str_indices.specs.Relations.{IsBoundary, IsEnd}

-- p is a boundary at or before the byte index, and no greater boundary is
pub record IsGreatestBoundary (text : Text) (byte p : ℕ) : Type 0 where
  pub boundary : IsBoundary text p
  pub at_or_before : p ≤ byte
  pub greatest : (q : ℕ) → IsBoundary text q → q ≤ byte → q ≤ p

-- p is an end or 0, at or before the byte index, and no greater end is. Ends are above 0, so that p is 0 only where
-- no end is at or before the byte index.
pub record IsGreatestEnd (s : Scheme) (text : Text) (byte p : ℕ) : Type 0 where
  pub end_or_zero : IsEnd s text p ⊎ (p ≡ 0)
  pub at_or_before : p ≤ byte
  pub greatest : (q : ℕ) → IsEnd s text q → q ≤ byte → q ≤ p

-- the chars before some char of two units take k - 1 units, so that unit k is its second
pub record IsSecondUnit (text : Text) (k : ℕ) : Type 0 where
  pub front : Text
  pub character : ℕ
  pub back : Text
  pub split : text ≡ front ++ character ∷ back
  pub pair : weight character ≡ 2
  pub first_unit : sum_by weight front + 1 ≡ k

-- the chars before some char weigh less than k, and with it more
pub record IsInside (w : ℕ → ℕ) (text : Text) (k : ℕ) : Type 0 where
  pub front : Text
  pub character : ℕ
  pub back : Text
  pub split : text ≡ front ++ character ∷ back
  pub after : sum_by w front < k
  pub before : k < sum_by w front + w character
