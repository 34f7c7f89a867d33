-- The calls of a chunk, on a word of any number of lanes.
--     nth n w i    lane i of a word, in the list of its n lanes
use Rattle.byte_chunk.proofs.lemmas.Common.{◌≡◌, ℕ, zero, suc, ◌+◌, ◌-◌, ◌*◌, ◌/◌, ◌%◌, ◌^◌, ◌<◌, ◌≤◌, List, [], ◌∷◌, ◌++◌, map, length, replicate, take, drop, set, get_or, sum, refl, sym, ap, ap₂, ◌∙◌, arith, pow-suc, bit_and, bit_or, bit_xor, fold, zip2, Each1, Each2, and_mod, and_shr, or_mod, or_shr, xor_mod, xor_shr, and_le_r, xor_lt, or_shifted, pow-add, field_of, one_shl, div_below, div-mul-add, mod-mul-add, mul_comm, mul-le-mul_right, word_lanes, is_byte, is_between}
use Rattle.std.proofs.Math.Nat.{one-le-pow, div-div-eq-div-mul, pow-succ'}
use Rattle.std.proofs.Math.Pow.{mod-mod-pow}
use Rattle.byte_chunk.proofs.lemmas.Formulas.{top_of_zero, is_byte_by_xor, top_of_between}
use Rattle.byte_chunk.proofs.lemmas.Numbers.{written, ones, ones_pow, pow_of_bytes}
use Rattle.byte_chunk.proofs.lemmas.Arithmetic.{next, made_self, made_splat, made_and, made_bits, made_add, made_sub, made_not, made_tops}

-- `load`: n bytes that are read as a number, the lowest first, stand one in each lane
pub word_load : (n w : ℕ) (bytes : List ℕ) → n ≤ length bytes → ((i : ℕ) → get_or bytes i 0 < 256)
    → w ≡ written n (λ i. get_or bytes i 0) → word_lanes n w ≡ take n bytes
unfolding word_lanes
word_load zero w bytes enough small is = refl
word_load (suc n) w [] enough small is = absurd (omega arith)
word_load (suc n) w (x ∷ bytes) enough small is =
    let byte = small 0 in
    next n w (word_load n (w / 256) bytes (omega arith) (λ i. small (suc i)) (omega arith)) (omega arith) refl

-- `splat`: b times the word of ones has b in each lane
pub word_splat : (n b : ℕ) → b < 256 → word_lanes n (b * ones n) ≡ replicate n b
unfolding word_lanes
word_splat zero b small = refl
word_splat (suc n) b small = next n (b * ones (suc n)) (word_splat n b small) (omega arith) (omega arith)

-- `zero`: the word 0 has 0 in each lane
pub word_zero : (n : ℕ) → word_lanes n 0 ≡ replicate n 0
word_zero n = ap (word_lanes n) (omega arith) ∙ word_splat n 0 (omega arith)

-- `is_zero`: the word whose lanes are all 0 is 0
pub word_is_zero : (n w : ℕ) → w < 256 ^ n → word_lanes n w ≡ replicate n 0 → w ≡ 0
unfolding word_lanes
word_is_zero zero w within none = omega arith
word_is_zero (suc n) w within none =
    let first : w % 256 ≡ 0 = cc in
    omega (arith, word_is_zero n (w / 256) (omega (arith, pow-suc 256 n)) cc)

-- `bitand`: it acts on each lane by itself
pub word_and : (n a b : ℕ) → word_lanes n (bit_and a b) ≡ zip2 bit_and (word_lanes n a) (word_lanes n b)
unfolding word_lanes
word_and zero a b = refl
word_and (suc n) a b = next n (bit_and a b) (word_and n (a / 256) (b / 256)) (and_mod a b 8) (and_shr a b 8)

-- `add`: it adds each lane by itself, where no sum is above a byte
pub word_add : (n a b : ℕ) → Each2 (λ x y. x + y ≤ 255) (word_lanes n a) (word_lanes n b)
    → word_lanes n (a + b) ≡ zip2 (λ x y. x + y) (word_lanes n a) (word_lanes n b)
unfolding word_lanes
word_add zero a b room = refl
word_add (suc n) a b (here, room) = next n (a + b) (word_add n (a / 256) (b / 256) room) (omega arith) (omega arith)

-- and the sum is a word of n lanes
pub word_add_fits : (n a b : ℕ) → a < 256 ^ n → b < 256 ^ n
    → Each2 (λ x y. x + y ≤ 255) (word_lanes n a) (word_lanes n b) → a + b < 256 ^ n
unfolding word_lanes
word_add_fits zero a b within within' room = omega arith
word_add_fits (suc n) a b within within' (here, room) =
    let power = pow-suc 256 n in
    omega (arith, word_add_fits n (a / 256) (b / 256) (omega arith) (omega arith) room)

-- `sub`: the whole is not below 0, where no lane is
pub word_sub_fits : (n a b : ℕ) → b < 256 ^ n → Each2 (λ x y. y ≤ x) (word_lanes n a) (word_lanes n b) → b ≤ a
unfolding word_lanes
word_sub_fits zero a b within room = omega arith
word_sub_fits (suc n) a b within (here, room) =
    omega (arith, word_sub_fits n (a / 256) (b / 256) (omega (arith, pow-suc 256 n)) room)

-- and each lane is subtracted by itself
pub word_sub : (n a b : ℕ) → b < 256 ^ n → Each2 (λ x y. y ≤ x) (word_lanes n a) (word_lanes n b)
    → word_lanes n (a - b) ≡ zip2 (λ x y. x - y) (word_lanes n a) (word_lanes n b)
unfolding word_lanes
word_sub zero a b within room = refl
word_sub (suc n) a b within (here, room) =
    let below : b / 256 < 256 ^ n = omega (arith, pow-suc 256 n) in
    let fits = word_sub_fits n (a / 256) (b / 256) below room in
    next n (a - b) (word_sub n (a / 256) (b / 256) below room) (omega arith) (omega arith)

-- `cmp_eq_byte`: 1 in each lane that is b, and 0 in the others
pub word_is_byte : (n w b : ℕ) → w < 256 ^ n → b < 256 → let y = bit_xor w (b * ones n) in
    word_lanes n (bit_and (256 ^ n - 1 - bit_or (bit_and y (127 * ones n) + 127 * ones n) y) (128 * ones n) / 128)
    ≡ map (is_byte b) (word_lanes n w)
word_is_byte n w b within small =
    let y = made_bits (made_self n w within) (made_splat b small) bit_xor refl xor_mod xor_shr in
    let low = made_splat 127 (omega arith) in
    let sum = made_add (made_and y low) low (λ x. omega (arith, and_le_r (bit_xor x b) 127)) in
    let tops = made_and (made_not (made_bits sum y bit_or refl or_mod or_shr)) (made_splat 128 (omega arith)) in
    (made_tops (is_byte b) tops (λ x below.
    top_of_zero (bit_xor x b) (xor_lt 8 x b below small) ∙ ap (λ k. 128 * k) (is_byte_by_xor b x))).1

-- `bytes_between_127`: 1 in each lane between a and b, and 0 in the others
pub word_is_between : (n w a b : ℕ) → w < 256 ^ n → a < b → b ≤ 127 → let low = bit_and w (127 * ones n) in
    word_lanes n (bit_and (bit_and (bit_and ((127 + b) * ones n - low) (256 ^ n - 1 - w)) (low + (127 - a) * ones n))
    (128 * ones n) / 128) ≡ map (is_between a b) (word_lanes n w)
word_is_between n w a b within order ascii =
    let it = made_self n w within in
    let low = made_and it (made_splat 127 (omega arith)) in
    let under = (made_sub (made_splat (127 + b) (omega arith)) low (λ x _. omega (arith, and_le_r x 127))).1 in
    let over = made_add low (made_splat (127 - a) (omega arith)) (λ x. omega (arith, and_le_r x 127)) in
    let tops = made_and (made_and (made_and under (made_not it)) over) (made_splat 128 (omega arith)) in
    (made_tops (is_between a b) tops (top_of_between a b order ascii)).1

-- the lanes after the first k
above : (n k m w : ℕ) → m ≡ n + k → word_lanes n (w / 256 ^ k) ≡ drop k (word_lanes m w)
unfolding word_lanes
above n zero m w all = ap₂ word_lanes (omega arith) (omega arith)
above n (suc k) zero w all = absurd (omega arith)
above n (suc k) (suc m) w all =
    rw (pow-succ' 256 k, ← div-div-eq-div-mul w 256 (256 ^ k)) (above n k m (w / 256) (omega arith))

-- all lanes but the last
below : (n w : ℕ) → word_lanes n (w % 2 ^ (8 * n)) ≡ take n (word_lanes (suc n) w)
unfolding word_lanes
below zero w = refl
below (suc n) w =
    let bits : 8 * suc n ≡ 8 * n + 8 = omega arith in
    rw bits (next n (w % 2 ^ (8 * n + 8)) (below n (w / 256)) (mod-mod-pow w (8 * n) 8) (field_of w (8 * n) 8))

-- above the lanes of a word stands 0
past : (n k m w : ℕ) → m ≡ n + k → w < 256 ^ n → word_lanes m w ≡ word_lanes n w ++ replicate k 0
unfolding word_lanes
past zero k m w all within = ap₂ word_lanes (omega arith) (omega arith) ∙ word_zero k
past (suc n) k zero w all within = absurd (omega arith)
past (suc n) k (suc m) w all within =
    next m w (past n k m (w / 256) (omega arith) (omega (arith, pow-suc 256 n))) refl refl

-- `shift_back_lex`: k lanes go, and k lanes 0 come in after the others
pub word_shift_back : (n k w : ℕ) → w < 256 ^ n → k ≤ n
    → word_lanes n (w / 2 ^ (8 * k)) ≡ drop k (word_lanes n w) ++ replicate k 0
word_shift_back n k w within few =
    let all : n ≡ n - k + k = omega arith in
    let small = rw (all, pow-add 256 (n - k) k) at within in
    ap (λ p. word_lanes n (w / p)) (sym (pow_of_bytes k))
    ∙ past (n - k) k n (w / 256 ^ k) all (div_below w (256 ^ k) (256 ^ (n - k)) (one-le-pow k 256 (omega arith)) small)
    ∙ ap (λ xs. xs ++ replicate k 0) (above (n - k) k n w all)

-- `shift_across`: the last lane of a, and then all lanes of b but its last
pub word_across : (m a b : ℕ) → a < 256 ^ suc m
    → word_lanes (suc m) (bit_or (b * 256 % 256 ^ suc m) (a / 256 ^ m))
    ≡ drop m (word_lanes (suc m) a) ++ take m (word_lanes (suc m) b)
unfolding word_lanes
word_across m a b within =
    let t = a / 256 ^ m in
    let p = b * 256 % 2 ^ (8 * m + 8) in
    let bits : 256 ^ suc m ≡ 2 ^ (8 * m + 8) = pow_of_bytes (suc m) ∙ ap (λ e. 2 ^ e) (omega arith) in
    let small : t < 256 = div_below a (256 ^ m) 256 (one-le-pow m 256 (omega arith)) (omega (arith, pow-suc 256 m)) in
    let low : p % 256 ≡ 0 = mod-mod-pow (b * 256) (8 * m) 8 ∙ omega arith in
    let high : p / 256 ≡ b % 2 ^ (8 * m) = field_of (b * 256) (8 * m) 8 ∙ ap (λ k. k % 2 ^ (8 * m)) (omega arith) in
    let joined : bit_or p t ≡ p / 256 * 256 + t = ap (λ k. bit_or k t) (omega arith) ∙ or_shifted (p / 256) 8 t small in
    ap (λ e. word_lanes (suc m) (bit_or (b * 256 % e) t)) bits
    ∙ next m (bit_or p t) {x = t % 256} (below m b) (omega arith) (omega arith)
    ∙ ap (λ xs. xs ++ take m (word_lanes (suc m) b)) (above 1 m (suc m) a (omega arith))

-- `shr`: the low 8 - k bits of each lane are its own, shifted
pub word_shr : (n k w : ℕ) → k ≤ 8
    → map (λ x. x % 2 ^ (8 - k)) (word_lanes n (w / 2 ^ k)) ≡ map (λ x. x / 2 ^ k) (word_lanes n w)
unfolding word_lanes
word_shr zero k w few = refl
word_shr (suc n) k w few =
    let up : k + (8 - k) ≡ 8 = omega arith in
    let down : 8 - k + k ≡ 8 = omega arith in
    let above : w / 2 ^ k / 256 ≡ w / 256 / 2 ^ k =
    rw (div-div-eq-div-mul w (2 ^ k) 256, div-div-eq-div-mul w 256 (2 ^ k), mul_comm (2 ^ k) 256) refl in
    ap₂ (λ x xs. x ∷ xs) (rw up at (mod-mod-pow (w / 2 ^ k) k (8 - k)) ∙ sym (rw down at (field_of w (8 - k) k)))
    (rw above (word_shr n k (w / 256) few))

-- the word with 1 in lane i alone, as a shift makes it
pub one_in_lane : (i bits : ℕ) → 8 * i < bits → 1 * 2 ^ (8 * i) % 2 ^ bits ≡ 256 ^ i
one_in_lane i bits inside = one_shl (8 * i) bits inside ∙ sym (pow_of_bytes i)

abbrev nth : ℕ → ℕ → ℕ → ℕ
nth n w i = get_or (word_lanes n w) i 0

-- another number in lane i
changed : (n i w v x : ℕ) → i < n → (nth n w i < 256 → x < 256) → v + nth n w i * 256 ^ i ≡ w + x * 256 ^ i
    → word_lanes n v ≡ set (word_lanes n w) i x
unfolding word_lanes
changed zero i w v x inside small is = absurd (omega arith)
changed (suc n) zero w v x inside small is =
    let byte = small (omega arith) in
    next n v refl (omega arith) (omega arith)
changed (suc n) (suc i) w v x inside small is =
    let l = nth n (w / 256) i in
    let both : v + 256 * (l * 256 ^ i) ≡ w + 256 * (x * 256 ^ i) =
    omega (arith, ap (λ p. l * p) (pow-suc 256 i), ap (λ p. x * p) (pow-suc 256 i)) in
    next n v (changed n i (w / 256) (v / 256) x (omega arith) small (omega arith)) (omega arith) refl

-- `inc_nth_from_end_lex_byte`: one more in lane i
pub word_inc : (n i w : ℕ) → i < n → nth n w i < 255
    → word_lanes n (w + 256 ^ i) ≡ set (word_lanes n w) i (nth n w i + 1)
word_inc n i w inside room = changed n i w (w + 256 ^ i) (nth n w i + 1) inside (λ _. omega arith) (omega arith)

-- and the sum is a word of n lanes
pub word_inc_fits : (n i w : ℕ) → i < n → w < 256 ^ n → nth n w i < 255 → w + 256 ^ i < 256 ^ n
unfolding word_lanes
word_inc_fits zero i w inside within room = absurd (omega arith)
word_inc_fits (suc n) zero w inside within room = omega (arith, pow-suc 256 n)
word_inc_fits (suc n) (suc i) w inside within room =
    let power = pow-suc 256 n in
    omega (arith, pow-suc 256 i, word_inc_fits n i (w / 256) (omega arith) (omega arith) room)

-- `dec_last_lex_byte`: the whole is not below 0
pub word_dec_fits : (n i w : ℕ) → i < n → 0 < nth n w i → 256 ^ i ≤ w
unfolding word_lanes
word_dec_fits zero i w inside room = absurd (omega arith)
word_dec_fits (suc n) zero w inside room = omega arith
word_dec_fits (suc n) (suc i) w inside room =
    omega (arith, pow-suc 256 i, word_dec_fits n i (w / 256) (omega arith) room)

-- and lane i has one less
pub word_dec : (n i w : ℕ) → i < n → 0 < nth n w i → word_lanes n (w - 256 ^ i) ≡ set (word_lanes n w) i (nth n w i - 1)
word_dec n i w inside room =
    let fits = word_dec_fits n i w inside room in
    let x = nth n w i - 1 in
    let one : nth n w i * 256 ^ i ≡ (x + 1) * 256 ^ i = ap (λ k. k * 256 ^ i) (omega arith) in
    changed n i w (w - 256 ^ i) x inside (λ byte. omega arith) (omega arith)

-- the product with the word of ones: the sum of all lanes stands in its last one
product : (n acc w most : ℕ) → Each1 (λ x. x ≤ most) (word_lanes (suc n) w) → acc + most * suc n < 256
    → let total = fold (λ a x. a + x) acc (word_lanes (suc n) w) in
    (q r : ℕ) × (r < 256 ^ n) × (total ≤ acc + most * suc n)
    × ((acc + w) * ones (suc n) ≡ q * 256 ^ suc n + total * 256 ^ n + r)
unfolding word_lanes
product zero acc w most (here, each) few = (w / 256, 0, omega arith, omega arith, omega arith)
product (suc n) acc w most (here, each) few =
    let (q, r, l, le, more) = product n (acc + w % 256) (w / 256) most each (omega arith) in
    let total = fold (λ a x. a + x) (acc + w % 256) (word_lanes (suc n) (w / 256)) in
    let o = ones (suc n) in
    let parts : w * o ≡ (w % 256 + 256 * (w / 256)) * o = ap (λ k. k * o) (omega arith) in
    let power = ap (λ k. w / 256 * k) (ones_pow (suc n)) in
    let sums = ap (λ k. total * k) (pow-suc 256 n) in
    let above = ap (λ k. (q + w / 256) * k) (pow-suc 256 (suc n)) in
    (q + w / 256, 256 * r + acc + w % 256, omega (arith, pow-suc 256 n), omega arith, omega (arith, more))

-- `sum_bytes`: so the last lane of that product is the sum of all lanes
pub word_sum : (m w most : ℕ) → most * suc m < 256 → Each1 (λ lane. lane ≤ most) (word_lanes (suc m) w)
    → w * ones (suc m) % 256 ^ suc m / 256 ^ m ≡ sum (word_lanes (suc m) w)
word_sum m w most few each =
    let total = sum (word_lanes (suc m) w) in
    let (q, r, l, le, more) = product m 0 w most each (omega arith) in
    let low : total * 256 ^ m + r < 256 ^ suc m =
    omega (arith, pow-suc 256 m, mul-le-mul_right {m = total} {n = 255} (256 ^ m) (omega arith)) in
    let is : w * ones (suc m) ≡ q * 256 ^ suc m + (total * 256 ^ m + r) = omega arith in
    ap (λ k. k % 256 ^ suc m / 256 ^ m) is
    ∙ ap (λ k. k / 256 ^ m) (mod-mul-add q (256 ^ suc m) (total * 256 ^ m + r) low) ∙ div-mul-add total (256 ^ m) r l
