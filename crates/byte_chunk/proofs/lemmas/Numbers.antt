-- The numbers that words are made of, to base 256 with the lowest lane first.
--     written n f    the word whose n lanes are f 0, f 1 and so on
--     ones n         the word whose n lanes are each 1
use Rattle.byte_chunk.proofs.lemmas.Common.{◌≡◌, ℕ, zero, suc, ◌+◌, ◌*◌, ◌^◌, refl, ap, arith, pow-suc, pow-add}

abbrev pub written : ℕ → (ℕ → ℕ) → ℕ
written zero f = 0
written (suc n) f = f 0 + 256 * written n (λ i. f (suc i))

abbrev pub ones : ℕ → ℕ
ones n = written n (λ _. 1)

-- 255 in each lane is the greatest word
pub ones_pow : (n : ℕ) → 255 * ones n + 1 ≡ 256 ^ n
ones_pow zero = refl
ones_pow (suc n) = omega (arith, ones_pow n, pow-suc 256 n)

-- a lane has eight bits
pub pow_of_bytes : (n : ℕ) → 256 ^ n ≡ 2 ^ (8 * n)
pow_of_bytes zero = refl
pow_of_bytes (suc n) =
    let next : 8 * suc n ≡ 8 + 8 * n = omega arith in
    omega (arith, pow-suc 256 n, pow_of_bytes n, pow-add 2 8 (8 * n), ap (λ k. 2 ^ k) next)
