-- The decimal digits of a number, from its last digit on.
use Rattle.idx.proofs.Common.{◌≡◌, ℕ, zero, suc, ◌+◌, ◌-◌, ◌/◌, ◌%◌, ◌^◌, ◌<◌, ◌≤◌, List, ◌∷◌, ◌++◌, length, drop, refl, ◌∙◌, arith, append_assoc, slice_set, decimal}
use Rattle.std.proofs.lemmas.Fmt.{decimal_digit, decimal_step}
use Rattle.std.proofs.lemmas.Grind.{drop-set_at}

-- the last digit of a number of two digits or more may stand before what follows the number
pub decimal_last : (n : ℕ) (rest : List ℕ) → 10 ≤ n → n < 2 ^ 64
    → decimal (n / 10) ++ ((48 + n % 10) ∷ rest) ≡ decimal n ++ rest
decimal_last n rest large small = rw (decimal_step n large small, append_assoc)

-- the first digit of a number takes its place
pub decimal_first : (n : ℕ) (rest : List ℕ) → n < 10 → (48 + n) ∷ rest ≡ decimal n ++ rest
decimal_first n rest small = rw (decimal_digit n small)

-- without its last digit a number takes one place less
pub one_place_fewer : (k n : ℕ) → 10 ≤ n → n < 10 ^ k → (2 ≤ k) × (n / 10 < 10 ^ (k - 1))
one_place_fewer zero n large small = absurd (omega arith)
one_place_fewer (suc zero) n large small = absurd (omega arith)
one_place_fewer (suc (suc j)) n large small =
    let left : suc (suc j) - 1 ≡ suc j = omega arith in
    (omega arith, rw left (omega arith))

-- an element written before the place `start` stands before what follows that place
pub drop-set_before : (xs : List ℕ) (start y : ℕ) → 1 ≤ start → start ≤ length xs
    → drop (start - 1) (slice_set xs (start - 1) y) ≡ y ∷ drop start xs
drop-set_before xs start y some within =
    let next : start - 1 + 1 ≡ start = omega arith in
    drop-set_at xs (start - 1) (start - 1) y refl (omega arith) ∙ rw next
