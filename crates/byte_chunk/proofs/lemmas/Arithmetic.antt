-- Words that are made of the lanes of one word.
--     LaneByLane f n w r    lane i of r is f of lane i of w, for each of n lanes, and r has no more
--     Made f n w r          the same, as a record
use Rattle.byte_chunk.proofs.lemmas.Common.{◌≡◌, ℕ, zero, suc, ◌+◌, ◌-◌, ◌*◌, ◌/◌, ◌%◌, ◌^◌, ◌<◌, ◌≤◌, List, map, ◌∷◌, refl, ap, ap₂, ◌∙◌, arith, pow-suc, bit_and, and_mod, and_shr, digits_l, word_lanes}
use Rattle.byte_chunk.proofs.lemmas.Numbers.{ones, ones_pow}

abbrev pub LaneByLane : (ℕ → ℕ) → ℕ → ℕ → ℕ → Type 0
LaneByLane f zero w r = r ≡ 0
LaneByLane f (suc n) w r = (r % 256 ≡ f (w % 256)) × LaneByLane f n (w / 256) (r / 256)

-- a word's first lane, and those after it
pub next : (n w : ℕ) {q x : ℕ} {xs : List ℕ} → word_lanes n q ≡ xs → w % 256 ≡ x → w / 256 ≡ q
    → word_lanes (suc n) w ≡ x ∷ xs
unfolding word_lanes
next n w rest first behind = ap₂ (λ x xs. x ∷ xs) first (ap (digits_l 256 n) behind ∙ rest)

pub record Made (f : ℕ → ℕ) (n w r : ℕ) : Type 0 where
  pub each : LaneByLane f n w r

-- the lanes after the first
behind : {f : ℕ → ℕ} {n w r : ℕ} → Made f (suc n) w r → Made f n (w / 256) (r / 256)
behind made = record { each = made.each.1 }

-- the word itself
pub made_self : (n w : ℕ) → w < 256 ^ n → Made (λ x. x) n w w
made_self zero w within = record { each = omega arith }
made_self (suc n) w within = record { each = (refl, (made_self n (w / 256) (omega (arith, pow-suc 256 n))).each) }

-- the same number in each lane
pub made_splat : {n w : ℕ} (b : ℕ) → b < 256 → Made (λ _. b) n w (b * ones n)
made_splat {n = zero} b small = record { each = omega arith }
made_splat {n = suc n} {w = w} b small =
    let above : b * ones (suc n) / 256 ≡ b * ones n = omega arith in
    record { each = (omega arith, rw above (made_splat {n = n} {w = w / 256} b small).each) }

-- an operation on bits
pub made_bits : {f g : ℕ → ℕ} {n w a b : ℕ} → Made f n w a → Made g n w b → (op : ℕ → ℕ → ℕ) → op 0 0 ≡ 0
    → ((a b k : ℕ) → op a b % 2 ^ k ≡ op (a % 2 ^ k) (b % 2 ^ k))
    → ((a b k : ℕ) → op a b / 2 ^ k ≡ op (a / 2 ^ k) (b / 2 ^ k)) → Made (λ x. op (f x) (g x)) n w (op a b)
made_bits {n = zero} these those op none under above = record { each = ap₂ op these.each those.each ∙ none }
made_bits {n = suc n} {w} {a} {b} these those op none under above =
    let rest = made_bits {n = n} (behind these) (behind those) op none under above in
    record { each = (under a b 8 ∙ ap₂ op these.each.0 those.each.0, rw (above a b 8) rest.each) }

-- the bits that are set in both
pub made_and : {f g : ℕ → ℕ} {n w a b : ℕ} → Made f n w a → Made g n w b
    → Made (λ x. bit_and (f x) (g x)) n w (bit_and a b)
made_and these those = made_bits these those bit_and refl and_mod and_shr

-- sums, where none is above a byte
pub made_add : {f g : ℕ → ℕ} {n w a b : ℕ} → Made f n w a → Made g n w b → ((x : ℕ) → f x + g x < 256)
    → Made (λ x. f x + g x) n w (a + b)
made_add {n = zero} these those small = record { each = omega arith }
made_add {n = suc n} {w} {a} {b} these those small =
    let room = small (w % 256) in
    let rest = made_add {n = n} (behind these) (behind those) small in
    let above : (a + b) / 256 ≡ a / 256 + b / 256 = omega arith in
    record { each = (omega arith, rw above rest.each) }

-- differences, where none is below 0
pub made_sub : {f g : ℕ → ℕ} {n w a b : ℕ} → Made f n w a → Made g n w b → ((x : ℕ) → g x < 256 → g x ≤ f x)
    → (b ≤ a) × Made (λ x. f x - g x) n w (a - b)
made_sub {n = zero} these those least = (omega arith, record { each = omega arith })
made_sub {n = suc n} {w} {a} {b} these those least =
    let room = least (w % 256) (omega arith) in
    let (le, rest) = made_sub {n = n} (behind these) (behind those) least in
    let above : (a - b) / 256 ≡ a / 256 - b / 256 = omega arith in
    (omega arith, record { each = (omega arith, rw above rest.each) })

-- all bits the other way round
pub made_not : {f : ℕ → ℕ} {n w a : ℕ} → Made f n w a → Made (λ x. 255 - f x) n w (256 ^ n - 1 - a)
made_not {n = n} {a = a} these =
    let all : 256 ^ n - 1 - a ≡ 255 * ones n - a = omega (arith, ones_pow n) in
    rw all (made_sub (made_splat 255 (omega arith)) these (λ x small. omega arith)).1

-- a shift by seven bits, where no lane but for its top bit has a bit
pub made_tops : {f : ℕ → ℕ} (g : ℕ → ℕ) {n w a : ℕ} → Made f n w a → ((x : ℕ) → x < 256 → f x ≡ 128 * g x)
    → (a % 128 ≡ 0) × (word_lanes n (a / 128) ≡ map g (word_lanes n w))
unfolding word_lanes
made_tops g {n = zero} these same = (omega arith, refl)
made_tops g {n = suc n} {w} {a} these same =
    let top = same (w % 256) (omega arith) in
    let (low, rest) = made_tops g {n = n} (behind these) same in
    (omega arith, next n (a / 128) rest (omega arith) (omega arith))
