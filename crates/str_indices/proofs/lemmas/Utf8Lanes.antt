-- The faults of UTF-8 in the lanes of a vector, by sums of marks and by look-ups in tables.
use Rattle.str_indices.proofs.lemmas.Common.{◌≡◌, ℕ, ◌+◌, ◌<◌, ◌≤◌, ◌↔◌, Bool, true, false, not, ◌&&◌, ◌==◌, List, length, get_or, map, replicate, refl, sym, ◌∙◌, arith, zip2, Each2, Each1-from_get_or, get_or_past, cases_lt, inl, inr, get_or-replicate, length-replicate, eqb-true, nat_tests, is_byte, flag, flag-le, HasLanes, ◌-◌, ◌*◌, ◌/◌, ◌||◌, cond, max, nat_le, nat_lt, ap₂, agree_below_at, bit_and, is_trailing, ◌%◌, ◌^◌, [], ◌∷◌, ◌++◌, ap, Each1, zip2_splat, Each1-weaker, ltb-true, ltb-false, get_or_append_left, get_or-append-add, length-append}
use Rattle.std.proofs.lemmas.Bool.{eq-eqb, agree_below, true≢false, false≢true, lt-leb}
use Rattle.std.proofs.lemmas.Simd.{Each1-get_or, mask_l-mod, length-zip2, SwzOk, SwzOk-from_below, swz_l, length-swz_l, get_or-swz_l_below, pick_l_whole}
use Rattle.str_indices.proofs.lemmas.Lanes.{lanes_map, lanes_same, lanes_zip2, Each2-lanes, lanes_and}
use Rattle.str_indices.specs.Utf8.{AreBytes, may_follow}
use Rattle.str_indices.specs.Utf8Lanes.{ShowsFaults, is_masked, is_long, is_due, may_lead, keeps_min, keeps_max, IsNibbles}
use Rattle.std.proofs.lemmas.Nat.Bits.{and_pow, bit_at_or}
use Rattle.std.specs.Int.Bits.{bit_or, bit_xor}
use Rattle.std.specs.Int.{bit_at, is_in_range}
use Rattle.str_indices.specs.declared.utf8_lanes.TheConstants.{BEFORE_HIGH, BEFORE_LOW, AFTER_HIGH}
use Rattle.std.specs.Prelude.{if◌then◌else◌}
use Rattle.std.specs.Str.Lossy.{second_byte_min, second_byte_max}
use Rattle.std.proofs.Common.{Fits, w8, zero, suc, eqb, leb, leb-false}
use Rattle.std.proofs.lemmas.Nat.{and_le_r, xor_lt}
use Rattle.std.proofs.lemmas.List.{length-map}
use Rattle.std.specs.List.{range_with_len}
use Rattle.std.specs.Simd.Lanes.{sel_l, top, pick_l, mask_l}

-- Lanes of 1 and 0, and their sums, by the calls of a chunk.

-- the lanes that are a byte
pub lanes_eq : (byte : ℕ) {size : ℕ} {f : ℕ → ℕ} {xs ys : List ℕ} → HasLanes size f xs → ys ≡ map (is_byte byte) xs
    → HasLanes size (λ j. flag (f j == byte)) ys
lanes_eq byte {xs = xs} h is = lanes_same (lanes_map (is_byte byte) xs h.long is) (λ j l. rw (h.each j l) refl)

-- all lanes one number
pub lanes_filled : (n : ℕ) {size : ℕ} {xs : List ℕ} → xs ≡ replicate size n → HasLanes size (λ _. n) xs
lanes_filled n {size} is = rw is (record {
  long = length-replicate {A = ℕ} size n;
  each = λ j l. get_or-replicate {A = ℕ} size j n 0 l;
})

-- two numbers of each place fit in a lane, added
pub lanes_room : {size : ℕ} {f g : ℕ → ℕ} {xs ys : List ℕ} → HasLanes size f xs → HasLanes size g ys
    → ((j : ℕ) → f j + g j ≤ 255) → Each2 (λ a b. a + b ≤ 255) xs ys
lanes_room h k few = Each2-lanes (λ a b. a + b ≤ 255) h k (λ j l. few j)

module _ (p q : ℕ → Bool) {size : ℕ} {xs ys : List ℕ} (h : HasLanes size (λ j. flag (p j)) xs)
    (k : HasLanes size (λ j. flag (q j)) ys) where
  pub flags_room : Each2 (λ a b. a + b ≤ 255) xs ys
  flags_room = lanes_room h k (λ j. omega (arith, flag-le (p j), flag-le (q j)))

  -- of two marks the sum is 0 where neither is set
  pub flags_added : {zs : List ℕ} → zs ≡ zip2 (λ a b. a + b) xs ys
      → ShowsFaults 2 size (λ j. not (p j) && not (q j)) zs
  flags_added is = let sums = lanes_zip2 (λ a b. a + b) h k is in record {
    long = sums.long;
    small = λ j l. omega (arith, sums.each j l, flag-le (p j), flag-le (q j));
    each = λ j l. rw (sums.each j l) (none (p j) (q j));
  }
    where
      none : (s t : Bool) → (flag s + flag t == 0) ≡ (not s && not t)
      none true true = refl
      none true false = refl
      none false true = refl
      none false false = refl

module _ (m n : ℕ) {size : ℕ} {p q : ℕ → Bool} {xs ys : List ℕ} (h : ShowsFaults m size p xs)
    (k : ShowsFaults n size q ys) where
  lanes_of_faults : (most : ℕ) {right : ℕ → Bool} {lanes : List ℕ} → ShowsFaults most size right lanes
      → HasLanes size (λ j. get_or lanes j 0) lanes
  lanes_of_faults most s = record { long = s.long; each = λ j l. refl }

  pub faults_room : m + n ≤ 255 → Each2 (λ a b. a + b ≤ 255) xs ys
  faults_room few = Each2-lanes (λ a b. a + b ≤ 255) (lanes_of_faults m h) (lanes_of_faults n k)
      (λ j l. omega (arith, h.small j l, k.small j l, few))

  -- of two lanes of faults the sum is 0 where both are
  pub faults_added : {zs : List ℕ} → zs ≡ zip2 (λ a b. a + b) xs ys
      → ShowsFaults (m + n) size (λ j. p j && q j) zs
  faults_added is = let sums = lanes_zip2 (λ a b. a + b) (lanes_of_faults m h) (lanes_of_faults n k) is in record {
    long = sums.long;
    small = λ j l. omega (arith, sums.each j l, h.small j l, k.small j l);
    each = λ j l. rw (sums.each j l, ← h.each j l, ← k.each j l) (none (get_or xs j 0) (get_or ys j 0));
  }
    where
      none : (a b : ℕ) → (a + b == 0) ≡ (a == 0 && b == 0)
      none a b = grind (arith, nat_tests)

-- the lanes of faults are bytes
pub faults_are_bytes : {most size : ℕ} {right : ℕ → Bool} {xs : List ℕ} → most ≤ 255 → ShowsFaults most size right xs
    → AreBytes size xs
faults_are_bytes {xs = xs} few h = record {
  long = h.long;
  small = Each1-from_get_or (λ lane. lane < 256) xs 0 (λ j l. omega (arith, h.small j (omega (arith, h.long)), few));
}

-- and 0 where the place is right
pub faults_tell : {most size : ℕ} {p q : ℕ → Bool} {xs : List ℕ} → ShowsFaults most size p xs
    → ((j : ℕ) → j < size → p j ≡ q j) → (j : ℕ) → j < size → (get_or xs j 0 ≡ 0) ↔ (q j ≡ true)
faults_tell {xs = xs} h same j l =
    let tells = h.each j l ∙ same j l in
    (λ none. sym tells ∙ eq-eqb (get_or xs j 0) 0 none, λ right. eqb-true (get_or xs j 0) 0 (tells ∙ right))

-- a lane of bytes is below 256, and so is the 0 past the last
pub bytes_below : {size : ℕ} {xs : List ℕ} → AreBytes size xs → (j : ℕ) → get_or xs j 0 < 256
bytes_below {xs = xs} bytes j = elim (cases_lt j (length xs)) [
  | inl l ↦ Each1-get_or (λ lane. lane < 256) xs j 0 l bytes.small
  | inr past ↦ rw (get_or_past xs j 0 past) (omega arith)
]

-- lanes that hold the faults of each place
pub shows : {most size : ℕ} {f : ℕ → ℕ} {right : ℕ → Bool} {xs : List ℕ} → HasLanes size f xs
    → ((j : ℕ) → (f j ≤ most) × ((f j == 0) ≡ right j)) → ShowsFaults most size right xs
shows h faults = record {
  long = h.long;
  small = λ j l. rw (h.each j l) (faults j).0;
  each = λ j l. rw (h.each j l) (faults j).1;
}

-- One lane by itself: what the calls of a chunk and the tables say of two bytes is what may follow says. Both look only
-- at the upper four bits of the second byte, so that all cases compute.

-- whether b may follow z, in a long char or not
abbrev pub fits : Bool → ℕ → ℕ → Bool
fits long z b =
    if long then is_in_range 0x80 0xBF z && is_in_range 0x80 0xBF b
    else (if nat_lt z 0xC0 then not (is_in_range 0x80 0xBF b)
    else is_in_range 0xC2 0xF4 z && is_in_range (second_byte_min z) (second_byte_max z) b)

-- the upper four bits of b decide each bound
abbrev high : ℕ → ℕ
high b = b / 16 * 16

least_high : (s t : Bool) (b : ℕ) → b < 256
    → let least : ℕ = cond s 0xA0 (cond t 0x90 0x80) in nat_le least (high b) ≡ nat_le least b
least_high true t b few = agree_below_at (λ b. nat_le 0xA0 (high b)) (nat_le 0xA0) 256 b refl few
least_high false true b few = agree_below_at (λ b. nat_le 0x90 (high b)) (nat_le 0x90) 256 b refl few
least_high false false b few = agree_below_at (λ b. nat_le 0x80 (high b)) (nat_le 0x80) 256 b refl few

most_high : (s t : Bool) (b : ℕ) → b < 256
    → let most : ℕ = cond s 0x9F (cond t 0x8F 0xBF) in nat_le (high b) most ≡ nat_le b most
most_high true t b few = agree_below_at (λ b. nat_le (high b) 0x9F) (λ b. nat_le b 0x9F) 256 b refl few
most_high false true b few = agree_below_at (λ b. nat_le (high b) 0x8F) (λ b. nat_le b 0x8F) 256 b refl few
most_high false false b few = agree_below_at (λ b. nat_le (high b) 0xBF) (λ b. nat_le b 0xBF) 256 b refl few

fits_high : (long : Bool) (z b : ℕ) → b < 256 → fits long z (high b) ≡ fits long z b
fits_high long z b few =
    let trails : is_in_range 0x80 0xBF (high b) ≡ is_in_range 0x80 0xBF b =
    ap₂ (λ s t. s && t) (least_high false false b few) (most_high false false b few) in
    let second : is_in_range (second_byte_min z) (second_byte_max z) (high b)
    ≡ is_in_range (second_byte_min z) (second_byte_max z) b =
    ap₂ (λ s t. s && t) (least_high (z == 0xE0) (z == 0xF0) b few) (most_high (z == 0xED) (z == 0xF4) b few) in
    ap₂ (λ s t. cond long (is_in_range 0x80 0xBF z && s) (cond (nat_lt z 0xC0) (not s) (is_in_range 0xC2 0xF4 z && t)))
    trails second

-- a test that says so at each first byte and the upper four bits of each second, and looks at no more, says so at all
pub fits_of_high : (test : ℕ → ℕ → Bool) (long : Bool)
    → agree_below (λ z. agree_below (λ h. test z (h * 16)) (λ h. fits long z (h * 16)) 16) (λ _. true) 256 ≡ true
    → (z b : ℕ) → z < 256 → b < 256 → test z (high b) ≡ test z b → test z b ≡ fits long z b
fits_of_high test long all z b few few' same =
    let row = agree_below_at (λ z. agree_below (λ h. test z (h * 16)) (λ h. fits long z (h * 16)) 16) (λ _. true) 256 z
    all few in
    let above : b / 16 < 16 = omega arith in
    sym same ∙ agree_below_at (λ h. test z (h * 16)) (λ h. fits long z (h * 16)) 16 (b / 16) row above
    ∙ fits_high long z b few'

-- ---- by the tables

abbrev pub table_class : ℕ → ℕ → ℕ
table_class z b = bit_and (bit_and (get_or BEFORE_HIGH (z / 16) 0) (get_or BEFORE_LOW (bit_and z 15) 0))
    (get_or AFTER_HIGH (b / 16) 0)

abbrev looked_up : Bool → ℕ → ℕ → Bool
looked_up long z b = bit_xor (table_class z b) (128 * flag long) == 0

pub looked_up_fits : (long : Bool) (z b : ℕ) → z < 256 → b < 256 → looked_up long z b ≡ fits long z b
looked_up_fits long z b few few' =
    let same : high b / 16 ≡ b / 16 = omega arith in
    fits_of_high (looked_up long) long (all long) z b few few' (rw same refl)
  where
    all : (long : Bool) → agree_below (λ z. agree_below (λ h. looked_up long z (h * 16)) (λ h. fits long z (h * 16)) 16)
        (λ _. true) 256 ≡ true
    all true = refl
    all false = refl

-- the top bit of a byte less a bound says that it reaches the next
pub long_bit : (x y : ℕ) → x < 256 → y < 256
    → bit_and (bit_or (y - 0x60) (x - 0x70)) 128 ≡ 128 * flag (is_long x y)
long_bit x y few few' =
    let four : bit_at (x - 0x70) 7 ≡ flag (nat_le 0xF0 x) = grind (arith, nat_tests) in
    let three : bit_at (y - 0x60) 7 ≡ flag (nat_le 0xE0 y) = grind (arith, nat_tests) in
    and_pow (bit_or (y - 0x60) (x - 0x70)) 7
    ∙ rw (bit_at_or (y - 0x60) (x - 0x70) 7, four, three) (either (nat_le 0xF0 x) (nat_le 0xE0 y))
  where
    either : (s t : Bool) → max (flag t) (flag s) * 128 ≡ 128 * flag (s || t)
    either true true = refl
    either true false = refl
    either false true = refl
    either false false = refl

-- ---- by the calls of a chunk

abbrev compared : Bool → ℕ → ℕ → Bool
compared long z b = (is_due long z b && may_lead z) && (keeps_min z b && keeps_max z b)

masks_high : (b : ℕ) → b < 256
    → (bit_and (high b) 0xC0 ≡ bit_and b 0xC0) × (bit_and (high b) 0x20 ≡ bit_and b 0x20)
    × (bit_and (high b) 0x30 ≡ bit_and b 0x30)
masks_high b few = (mask 0xC0 refl, mask 0x20 refl, mask 0x30 refl)
  where
    mask : (m : ℕ) → agree_below (λ b. bit_and (high b) m == bit_and b m) (λ _. true) 256 ≡ true
        → bit_and (high b) m ≡ bit_and b m
    mask m all = eqb-true (bit_and (high b) m) (bit_and b m)
        (agree_below_at (λ b. bit_and (high b) m == bit_and b m) (λ _. true) 256 b all few)

pub compared_fits : (long : Bool) (z b : ℕ) → z < 256 → b < 256 → compared long z b ≡ fits long z b
compared_fits long z b few few' =
    let (top, five, two) = masks_high b few' in
    fits_of_high (compared long) long (all long) z b few few' (rw (top, five, two) refl)
  where
    all : (long : Bool) → agree_below (λ z. agree_below (λ h. compared long z (h * 16)) (λ h. fits long z (h * 16)) 16)
        (λ _. true) 256 ≡ true
    all true = refl
    all false = refl

-- the calls of a chunk tell by masks whether a long char goes on
pub is_long_masked : (x y : ℕ) → x < 256 → y < 256
    → (is_masked 0xF0 0xF0 x ≡ nat_le 0xF0 x) × (is_masked 0xE0 0xE0 y ≡ nat_le 0xE0 y)
is_long_masked x y few few' = (
  agree_below_at (is_masked 0xF0 0xF0) (nat_le 0xF0) 256 x refl few,
  agree_below_at (is_masked 0xE0 0xE0) (nat_le 0xE0) 256 y refl few',
)

pub short_lane : (x y : ℕ) → x < 256 → y < 256
    → flag (flag (is_masked 0xF0 0xF0 x) + flag (is_masked 0xE0 0xE0 y) == 0) ≡ flag (not (is_long x y))
short_lane x y few few' =
    let (four, three) = is_long_masked x y few few' in
    rw (four, three) (either (nat_le 0xF0 x) (nat_le 0xE0 y))
  where
    either : (s t : Bool) → flag (flag s + flag t == 0) ≡ flag (not (s || t))
    either true true = refl
    either true false = refl
    either false true = refl
    either false false = refl

-- and by sums of marks whether a trailing byte is where one is due
due_marks : (long first_trails second_trails leads : Bool) → (leads && first_trails) ≡ false
    → let both = flag (first_trails && second_trails) in
    let faults = 1 - flag (flag (not long) + both == 1) + flag (flag leads + flag second_trails + both == 1) in
    (faults ≤ 2) × ((faults == 0) ≡ cond long (first_trails && second_trails) (cond leads second_trails (not second_trails)))
due_marks long true s true e = absurd (true≢false e)
due_marks true true true false e = (omega arith, refl)
due_marks true true false false e = (omega arith, refl)
due_marks true false true true e = (omega arith, refl)
due_marks true false true false e = (omega arith, refl)
due_marks true false false true e = (omega arith, refl)
due_marks true false false false e = (omega arith, refl)
due_marks false true true false e = (omega arith, refl)
due_marks false true false false e = (omega arith, refl)
due_marks false false true true e = (omega arith, refl)
due_marks false false true false e = (omega arith, refl)
due_marks false false false true e = (omega arith, refl)
due_marks false false false false e = (omega arith, refl)

pub due_lane : (long : Bool) (z b : ℕ)
    → let both = flag (is_trailing z && is_trailing b) in
    let faults = 1 - flag (flag (not long) + both == 1)
    + flag (flag (is_masked 0xC0 0xC0 z) + flag (is_trailing b) + both == 1) in
    (faults ≤ 2) × ((faults == 0) ≡ is_due long z b)
due_lane long z b = due_marks long (is_trailing z) (is_trailing b) (is_masked 0xC0 0xC0 z) (apart (bit_and z 0xC0))
  where
    apart : (k : ℕ) → (k == 0xC0 && k == 0x80) ≡ false
    apart k = grind (arith, nat_tests)

-- of the four bytes from 0xF4 on, those that are not 0xF4 before a byte that may follow it
module _ {size : ℕ} (z b : ℕ → ℕ) {xs ys : List ℕ} (four : HasLanes size (λ j. flag (is_masked 0xFC 0xF4 (z j))) xs)
    (first : HasLanes size (λ j. flag (z j == 0xF4 && is_masked 0x30 0 (b j))) ys) where
  less : (four first small : Bool) → (first ≡ true → four ≡ true)
      → (flag (first && small) ≤ flag four)
      × (flag four - flag (first && small) ≡ flag (four && not (first && small)))
  less true true true e = (omega arith, refl)
  less true true false e = (omega arith, refl)
  less true false small e = (omega arith, refl)
  less false true small e = absurd (false≢true (e refl))
  less false false small e = (omega arith, refl)

  lane : (j : ℕ) → let last = z j == 0xF4 && is_masked 0x30 0 (b j) in
      (flag last ≤ flag (is_masked 0xFC 0xF4 (z j)))
      × (flag (is_masked 0xFC 0xF4 (z j)) - flag last ≡ flag (is_masked 0xFC 0xF4 (z j) && not last))
  lane j = less (is_masked 0xFC 0xF4 (z j)) (z j == 0xF4) (is_masked 0x30 0 (b j)) (λ e. rw (eqb-true (z j) 0xF4 e) refl)

  pub last_room : Each2 (λ a b. b ≤ a) xs ys
  last_room = Each2-lanes (λ a b. b ≤ a) four first (λ j l. (lane j).0)

  pub last_marks : {rs : List ℕ} → rs ≡ zip2 (λ a b. a - b) xs ys
      → HasLanes size (λ j. flag (is_masked 0xFC 0xF4 (z j) && not (z j == 0xF4 && is_masked 0x30 0 (b j)))) rs
  last_marks is = lanes_same (lanes_zip2 (λ a b. a - b) four first is) (λ j l. (lane j).1)

-- The lanes that show whether a trailing byte stands where one is due: the sums of marks that fit, and what they hold.

module _ {size : ℕ} (xs ys zs bs : List ℕ) {shorts firsts seconds both : List ℕ}
    (short : HasLanes size (λ j. flag (not (is_long (get_or xs j 0) (get_or ys j 0)))) shorts)
    (first : HasLanes size (λ j. flag (is_trailing (get_or zs j 0))) firsts)
    (second : HasLanes size (λ j. flag (is_trailing (get_or bs j 0))) seconds) (joined : both ≡ zip2 bit_and firsts seconds) where
  abbrev long : ℕ → Bool
  long j = is_long (get_or xs j 0) (get_or ys j 0)

  abbrev z : ℕ → ℕ
  z j = get_or zs j 0

  abbrev b : ℕ → ℕ
  b j = get_or bs j 0

  abbrev trail : ℕ → Bool
  trail j = is_trailing (z j) && is_trailing (b j)

  pairs : HasLanes size (λ j. flag (trail j)) both
  pairs = lanes_and (λ j. is_trailing (z j)) (λ j. is_trailing (b j)) first second joined

  pub short_room : Each2 (λ a b. a + b ≤ 255) shorts both
  short_room = flags_room (λ j. not (long j)) trail short pairs

  module _ {leads begun : List ℕ} (lead : HasLanes size (λ j. flag (is_masked 0xC0 0xC0 (z j))) leads)
      (is_begun : begun ≡ zip2 (λ a b. a + b) leads seconds) where
    begins : HasLanes size (λ j. flag (is_masked 0xC0 0xC0 (z j)) + flag (is_trailing (b j))) begun
    begins = lanes_zip2 (λ a b. a + b) lead second is_begun

    pub begun_room : Each2 (λ a b. a + b ≤ 255) begun both
    begun_room = lanes_room begins pairs (λ j.
        omega (arith, flag-le (is_masked 0xC0 0xC0 (z j)), flag-le (is_trailing (b j)), flag-le (trail j)))

    module _ {sums rights ones : List ℕ} (is_sum : sums ≡ zip2 (λ a b. a + b) shorts both)
        (is_right : rights ≡ map (is_byte 1) sums) (filled : ones ≡ replicate size 1) where
      abbrev right : ℕ → Bool
      right j = flag (not (long j)) + flag (trail j) == 1

      right_lanes : HasLanes size (λ j. flag (right j)) rights
      right_lanes = lanes_eq 1 (lanes_zip2 (λ a b. a + b) short pairs is_sum) is_right

      pub right_room : Each2 (λ a b. b ≤ a) ones rights
      right_room = Each2-lanes (λ a b. b ≤ a) (lanes_filled 1 filled) right_lanes (λ j l. flag-le (right j))

      module _ {wrongs alls alones : List ℕ} (is_wrong : wrongs ≡ zip2 (λ a b. a - b) ones rights)
          (is_all : alls ≡ zip2 (λ a b. a + b) begun both) (is_alone : alones ≡ map (is_byte 1) alls) where
        abbrev alone : ℕ → Bool
        alone j = flag (is_masked 0xC0 0xC0 (z j)) + flag (is_trailing (b j)) + flag (trail j) == 1

        wrong_lanes : HasLanes size (λ j. 1 - flag (right j)) wrongs
        wrong_lanes = lanes_zip2 (λ a b. a - b) (lanes_filled 1 filled) right_lanes is_wrong

        alone_lanes : HasLanes size (λ j. flag (alone j)) alones
        alone_lanes = lanes_eq 1 (lanes_zip2 (λ a b. a + b) begins pairs is_all) is_alone

        pub wrong_room : Each2 (λ a b. a + b ≤ 255) wrongs alones
        wrong_room = lanes_room wrong_lanes alone_lanes (λ j. omega (arith, flag-le (right j), flag-le (alone j)))

        pub due_shown : {faults : List ℕ} → faults ≡ zip2 (λ a b. a + b) wrongs alones
            → ShowsFaults 2 size (λ j. is_due (long j) (z j) (b j)) faults
        due_shown is = shows (lanes_zip2 (λ a b. a + b) wrong_lanes alone_lanes is) (λ j. due_lane (long j) (z j) (b j))

-- The lanes of vectors: shifts, masks, differences down to 0, and look-ups in tables of sixteen.

-- a vector of n bytes
abbrev pub IsVector : ℕ → List ℕ → Type 0
IsVector n lanes = (length lanes ≡ n) × Each1 (Fits w8) lanes

pub lane_below : {n : ℕ} (lanes : List ℕ) → IsVector n lanes → (j : ℕ) → j < n → get_or lanes j 0 < 256
lane_below lanes v j l = (Each1-get_or (Fits w8) lanes j 0 (omega (arith, v.0)) v.1).fits

-- ---- four bits of each lane

each_map : (u : ℕ → ℕ) (P : ℕ → Type 0) (lanes : List ℕ) → Each1 (λ lane. P (u lane)) lanes → Each1 P (map u lanes)
each_map u P [] each = tt
each_map u P (x ∷ xs) each = (each.0, each_map u P xs each.1)

nibbles : (u : ℕ → ℕ) {n : ℕ} (lanes : List ℕ) {ys : List ℕ} → IsVector n lanes
    → ((lane : ℕ) → Fits w8 lane → u lane < 16) → ys ≡ map u lanes → IsNibbles n (λ j. u (get_or lanes j 0)) ys
nibbles u lanes v small is = record {
  each = lanes_map u lanes v.0 is;
  small = rw is (each_map u (λ lane. lane < 16) lanes (Each1-weaker (Fits w8) (λ lane. u lane < 16) small lanes v.1));
}

pub high_nibbles : {n : ℕ} (lanes : List ℕ) → IsVector n lanes
    → IsNibbles n (λ j. get_or lanes j 0 / 16) (zip2 (λ a b. a / 2 ^ b) lanes (replicate n 4))
high_nibbles {n} lanes v = nibbles (λ lane. lane / 16) lanes v (λ lane fits. omega (arith, fits.fits))
    (zip2_splat (λ a b. a / 2 ^ b) lanes n 4 v.0)

pub low_nibbles : {n : ℕ} (lanes : List ℕ) → IsVector n lanes
    → IsNibbles n (λ j. bit_and (get_or lanes j 0) 15) (zip2 bit_and lanes (replicate n 15))
low_nibbles {n} lanes v = nibbles (λ lane. bit_and lane 15) lanes v (λ lane fits. omega (arith, and_le_r lane 15))
    (zip2_splat bit_and lanes n 15 v.0)

-- ---- differences down to 0: the greater of two lanes less the second

abbrev pub wrapped : ℕ → ℕ → ℕ
wrapped a b = (a + (2 ^ 8 - b)) % 2 ^ 8

abbrev pub is_less : ℕ → ℕ → ℕ
is_less a b = cond (nat_lt a b) 255 0

abbrev pub saturated : List ℕ → List ℕ → List ℕ
saturated xs ys = zip2 wrapped (sel_l (map (top 7) (zip2 is_less xs ys)) ys xs) ys

difference : (a b : ℕ) → a < 256 → b < 256 → wrapped (cond (top 7 (is_less a b)) b a) b ≡ a - b
difference a b few few' = by_test (nat_lt a b) refl
  where
    by_test : (t : Bool) → nat_lt a b ≡ t → wrapped (cond (top 7 (cond t 255 0)) b a) b ≡ a - b
    by_test true e = omega (arith, ltb-true a b e)
    by_test false e = omega (arith, ltb-false a b e)

differences : (k : ℕ) → k < 256 → (lanes : List ℕ) → Each1 (Fits w8) lanes
    → saturated lanes (replicate (length lanes) k) ≡ map (λ lane. lane - k) lanes
differences k few [] fits = refl
differences k few (x ∷ xs) fits =
    ap₂ (λ y ys. y ∷ ys) (difference x k fits.0.fits few) (differences k few xs fits.1)

saturated_lanes : (k : ℕ) → k < 256 → {n : ℕ} (lanes : List ℕ) → IsVector n lanes
    → HasLanes n (λ j. get_or lanes j 0 - k) (saturated lanes (replicate n k))
saturated_lanes k few lanes v = lanes_map (λ lane. lane - k) lanes v.0
    (ap (λ n. saturated lanes (replicate n k)) (sym v.0) ∙ differences k few lanes v.1)

pub long_lanes : {n : ℕ} (xs ys : List ℕ) → IsVector n xs → IsVector n ys
    → HasLanes n (λ j. 128 * flag (is_long (get_or xs j 0) (get_or ys j 0)))
    (zip2 bit_and (zip2 bit_or (saturated ys (replicate n 0x60)) (saturated xs (replicate n 0x70))) (replicate n 128))
long_lanes {n} xs ys v w =
    let either = lanes_zip2 bit_or (saturated_lanes 0x60 (omega arith) ys w) (saturated_lanes 0x70 (omega arith) xs v)
    refl in
    lanes_same (lanes_zip2 bit_and either (lanes_filled 128 {size = n} refl) refl)
    (λ j l. long_bit (get_or xs j 0) (get_or ys j 0) (lane_below xs v j l) (lane_below ys w j l))

-- ---- look-ups

pub table_ok : (blocks : ℕ) (at : List ℕ) → length at ≡ blocks * 16 → Each1 (λ lane. lane < 16) at
    → SwzOk w8 16 (blocks * 16) 0 at
table_ok blocks at long small = SwzOk-from_below w8 16 blocks (blocks * 16) 0 at refl (omega (arith, long)) small

looked_up_in : (tables table at : List ℕ) (n : ℕ) → length at ≡ n → Each1 (λ lane. lane < 16) at
    → ((j k : ℕ) → j < n → k < 16 → get_or tables (16 * ((0 + j) / 16) + k) 0 ≡ get_or table k 0)
    → HasLanes n (λ j. get_or table (get_or at j 0) 0) (swz_l w8 16 tables 0 at)
looked_up_in tables table at n long small copies = record {
  long = length-swz_l w8 16 tables 0 at ∙ long;
  each = λ j l.
      let below : get_or at j 0 < 16 = Each1-get_or (λ lane. lane < 16) at j 0 (omega (arith, long)) small in
      get_or-swz_l_below w8 16 tables 0 at j (omega (arith, long)) below ∙ copies j (get_or at j 0) l below;
}

pub looked_up_once : (table at : List ℕ) → length at ≡ 16 → Each1 (λ lane. lane < 16) at
    → HasLanes 16 (λ j. get_or table (get_or at j 0) 0) (swz_l w8 16 table 0 at)
looked_up_once table at long small = looked_up_in table table at 16 long small (λ j k l below.
    let first : 16 * ((0 + j) / 16) + k ≡ k = omega arith in
    ap (λ i. get_or table i 0) first)

pub looked_up_twice : (table at : List ℕ) → length table ≡ 16 → length at ≡ 32 → Each1 (λ lane. lane < 16) at
    → HasLanes 32 (λ j. get_or table (get_or at j 0) 0)
    (swz_l w8 16 (pick_l 0 (table ++ table) (range_with_len 0 32)) 0 at)
looked_up_twice table at whole long small =
    rw (pick_l_whole 0 (table ++ table) 32 (omega (arith, length-append table table, whole)))
    (looked_up_in (table ++ table) table at 32 long small (λ j k l below. elim (cases_lt j 16) [
      | inl first ↦
          let place : 16 * ((0 + j) / 16) + k ≡ k = omega arith in
          ap (λ i. get_or (table ++ table) i 0) place ∙ get_or_append_left table table 0 k (omega (arith, whole))
      | inr second ↦
          let place : 16 * ((0 + j) / 16) + k ≡ 16 + k = omega arith in
          ap (λ i. get_or (table ++ table) i 0) place ∙ append_second k
    ]))
  where
    append_second : (k : ℕ) → get_or (table ++ table) (16 + k) 0 ≡ get_or table k 0
    append_second k = ap (λ i. get_or (table ++ table) (i + k) 0) (sym whole) ∙ get_or-append-add table table k 0

-- ---- the highest bit of each lane

abbrev pub at_least : ℕ → ℕ → ℕ
at_least a b = cond (leb a b) 255 0

none_high : (xs : List ℕ) → mask_l (map (top 7) (zip2 at_least (replicate (length xs) 128) xs)) ≡ 0 → (j : ℕ) → get_or xs j 0 < 128
none_high [] e j = omega arith
none_high (x ∷ xs) e zero = go (leb 128 x) refl (omega arith)
  where
    go : (t : Bool) → leb 128 x ≡ t → ◌≡◌ {A = ℕ} (cond (top 7 (cond t 255 0)) 1 0) 0 → x < 128
    go true p q = absurd (omega arith)
    go false p q = leb-false _ _ p
none_high (x ∷ xs) e (suc j) = none_high xs (omega arith) j

all_low : (xs : List ℕ) → ((j : ℕ) → j < length xs → get_or xs j 0 < 128)
    → mask_l (map (top 7) (zip2 at_least (replicate (length xs) 128) xs)) ≡ 0
all_low [] each = refl
all_low (x ∷ xs) each =
    let rest = all_low xs (λ j l. each (suc j) (omega arith)) in
    rw (lt-leb 128 x (each 0 (omega arith))) (omega (arith, rest))

-- a vector of which none is set is ASCII
pub ascii_of_mask : (n : ℕ) (xs : List ℕ) → length xs ≡ n → n ≤ 64
    → (eqb (mask_l (map (top 7) (zip2 at_least (replicate n 128) xs)) % 2 ^ 64) 0 ≡ true)
    ↔ ((j : ℕ) → j < n → get_or xs j 0 < 128)
ascii_of_mask n xs long few =
    let lanes = zip2 at_least (replicate n 128) xs in
    let same = mask_l-mod (map (top 7) lanes) 64 (omega (arith, few, length-map lanes (top 7), length-zip2 at_least (replicate n 128) xs (length-replicate {A = ℕ} n 128 ∙ sym long), length-replicate {A = ℕ} n 128)) in
    let there = ap (λ k. mask_l (map (top 7) (zip2 at_least (replicate k 128) xs))) long in (
      λ none j l. none_high xs (there ∙ sym same ∙ eqb-true _ _ none) j,
      λ small. rw (same ∙ sym there ∙ all_low xs (λ j l. small j (omega (arith, long)))) refl,
    )

-- The faults of the lanes of a vector, by three look-ups.

-- entries of a table at four bits of each lane
entries : (table : List ℕ) {n : ℕ} {f : ℕ → ℕ} {at xs : List ℕ} → IsNibbles n f at
    → HasLanes n (λ j. get_or table (get_or at j 0) 0) xs → HasLanes n (λ j. get_or table (f j) 0) xs
entries table four looked = lanes_same looked (λ j l. ap (λ i. get_or table i 0) (four.each.each j l))

class_below : (z b : ℕ) → b < 256 → table_class z b < 256
class_below z b few =
    let high : b / 16 < 16 = omega arith in
    let entry : get_or AFTER_HIGH (b / 16) 0 < 256 = ltb-true (get_or AFTER_HIGH (b / 16) 0) 256
    (agree_below_at (λ h. nat_lt (get_or AFTER_HIGH h 0) 256) (λ _. true) 16 (b / 16) refl high) in
    omega (
      arith,
      entry,
      and_le_r (bit_and (get_or BEFORE_HIGH (z / 16) 0) (get_or BEFORE_LOW (bit_and z 15) 0))
          (get_or AFTER_HIGH (b / 16) 0),
    )

module _ {n : ℕ} (xs ys zs bs : List ℕ) (v : IsVector n zs) (w : IsVector n bs)
    {at at' at'' first second third long : List ℕ}
    (firsts : IsNibbles n (λ j. get_or zs j 0 / 16) at)
    (seconds : IsNibbles n (λ j. bit_and (get_or zs j 0) 15) at')
    (thirds : IsNibbles n (λ j. get_or bs j 0 / 16) at'')
    (one : HasLanes n (λ j. get_or BEFORE_HIGH (get_or at j 0) 0) first)
    (two : HasLanes n (λ j. get_or BEFORE_LOW (get_or at' j 0) 0) second)
    (three : HasLanes n (λ j. get_or AFTER_HIGH (get_or at'' j 0) 0) third)
    (longs : HasLanes n (λ j. 128 * flag (is_long (get_or xs j 0) (get_or ys j 0))) long) where
  pub table_faults : HasLanes n (λ j. bit_xor (table_class (get_or zs j 0) (get_or bs j 0))
      (128 * flag (is_long (get_or xs j 0) (get_or ys j 0))))
      (zip2 bit_xor (zip2 bit_and (zip2 bit_and first second) third) long)
  table_faults =
      let before = lanes_zip2 bit_and (entries BEFORE_HIGH firsts one) (entries BEFORE_LOW seconds two) refl in
      lanes_zip2 bit_xor (lanes_zip2 bit_and before (entries AFTER_HIGH thirds three) refl) longs refl

  pub table_bytes : AreBytes n (zip2 bit_xor (zip2 bit_and (zip2 bit_and first second) third) long)
  table_bytes = record {
    long = table_faults.long;
    small = Each1-from_get_or (λ lane. lane < 256) _ 0 (λ j l.
        let inside : j < n = omega (arith, table_faults.long) in
        let long : Bool = is_long (get_or xs j 0) (get_or ys j 0) in
        rw (table_faults.each j inside) (xor_lt 8 (table_class (get_or zs j 0) (get_or bs j 0)) (128 * flag long)
        (class_below (get_or zs j 0) (get_or bs j 0) (lane_below bs w j inside)) (omega (arith, flag-le long))));
  }

  pub table_tells : (j : ℕ) → j < n
      → (get_or (zip2 bit_xor (zip2 bit_and (zip2 bit_and first second) third) long) j 0 ≡ 0)
      ↔ (may_follow (get_or xs j 0) (get_or ys j 0) (get_or zs j 0) (get_or bs j 0) ≡ true)
  table_tells j l =
      let is = table_faults.each j l in
      let fits = looked_up_fits (is_long (get_or xs j 0) (get_or ys j 0)) (get_or zs j 0) (get_or bs j 0)
      (lane_below zs v j l) (lane_below bs w j l) in
      (λ none. sym fits ∙ eq-eqb _ 0 (sym is ∙ none), λ right. is ∙ eqb-true _ 0 (fits ∙ right))
