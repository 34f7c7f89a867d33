-- The formulas of a word, for the byte in one lane: they set the top bit where a test holds, and no other bit.
use Rattle.byte_chunk.proofs.lemmas.Common.{◌≡◌, ℕ, ◌+◌, ◌-◌, ◌*◌, ◌%◌, ◌<◌, ◌≤◌, true, refl, arith, bit_and, bit_or, bit_xor, ◌==◌, agree_below_at, eqb-true, and_high_numeral, nat_tests, and_shr, and_mask, and_le_l, and_le_r, is_byte, is_between}
use Rattle.std.specs.Int.Bits.{xor_self, xor_zero_l, xor_zero_r, xor_assoc}

-- the formula of `cmp_eq_byte`: the top bit of a byte that is 0
pub top_of_zero : (y : ℕ) → y < 256 → bit_and (255 - bit_or (bit_and y 127 + 127) y) 128 ≡ 128 * is_byte 0 y
top_of_zero y below = eqb-true _ _
    (agree_below_at (λ y. bit_and (255 - bit_or (bit_and y 127 + 127) y) 128 == 128 * is_byte 0 y)
    (λ _. true) 256 y refl below)

-- the exclusive or of two bytes is 0 where they are equal
pub is_byte_by_xor : (b x : ℕ) → is_byte 0 (bit_xor x b) ≡ is_byte b x
is_byte_by_xor b x = grind (arith, nat_tests, xor_self, xor_assoc x b b, xor_zero_r x, xor_zero_l b)

-- the formula of `bytes_between_127`: the top bits of three bytes, each set where one test holds
pub top_of_between : (a b : ℕ) → a < b → b ≤ 127 → (x : ℕ) → x < 256
    → bit_and (bit_and (bit_and (127 + b - bit_and x 127) (255 - x)) (bit_and x 127 + (127 - a))) 128
    ≡ 128 * is_between a b x
top_of_between a b order ascii x below =
    let low : bit_and x 127 ≡ x % 128 = and_mask x 7 in
    let p = 127 + b - bit_and x 127 in
    let q = 255 - x in
    let r = bit_and x 127 + (127 - a) in
    let s = bit_and (bit_and p q) r in
    let one : bit_and 1 1 ≡ 1 = refl in
    let top = and_high_numeral s 127 refl in
    grind (arith, nat_tests, top, and_le_l, and_le_r, and_shr (bit_and p q) r 7, and_shr p q 7)
