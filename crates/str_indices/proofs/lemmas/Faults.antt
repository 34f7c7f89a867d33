-- Chunks of bytes, and the lanes in which UTF-8 has a fault.
use Rattle.str_indices.proofs.lemmas.Common.{◌≡◌, ℕ, suc, ◌+◌, ◌≤◌, List, get_or, arith, refl, sym, ◌∙◌, ap, subst, inl, inr, cases_lt, nat_tests, zero, ◌-◌, ◌<◌, ◌++◌, length, take, drop, replicate, get_or-take, get_or-drop, get_or-replicate, get_or_append_left, length-append, length-drop, length-take-le, length-replicate, Each1-from_get_or, ◌↔◌, [], ◌∷◌, bit_and, and_mask, get_or-zip2, length-zip2, zip2, Each2, ◌≢◌, false_from_ne_true, ◌*◌, add-zero, true}
use Rattle.std.proofs.lemmas.Bool.{false≢true}
use Rattle.std.specs.Prelude.{IsTrue, IsFalse}
use Rattle.str_indices.specs.Utf8.{AllFollow, IsFault, after_zeros, follows, may_follow, open_start, AreBefore, AreBytes, EndsAt, IsWindow, AreAscii, AreFour, is_open, leaves_open}
use Rattle.std.proofs.lemmas.Simd.{Each1-get_or}
use Rattle.std.proofs.lemmas.List.{get_or-append_right, ext_get_or}
use Rattle.std.proofs.Common.{w8}
use Rattle.std.proofs.Math.Facts.{Fits-or}
use Rattle.std.proofs.lemmas.Nat.{and_le_l, and_le_r, or_lt}
use Rattle.std.proofs.lemmas.Nat.Bits.{and_pow}
use Rattle.std.specs.Int.Bits.{and_zero_r, bit_or, or_add_and}
use Rattle.str_indices.proofs.lemmas.Utf8.{leaves_open-AllClosed, may_follow-first}

-- Bytes that may each follow the three before them, up to a place and on from it.

module _ (bytes : List ℕ) where
  -- between a place and itself there is no byte
  pub none_follow : (at : ℕ) → AllFollow bytes at at
  none_follow at i low high = absurd (omega arith)

  -- and one byte more
  pub one_follows : {from at : ℕ} → AllFollow bytes from at → IsTrue (follows bytes at) → AllFollow bytes from (at + 1)
  one_follows {from} {at} all one i low high =
      elim (cases_lt i at) [ inl l ↦ all i low l | inr g ↦ (let e : at ≡ i = omega arith in subst (λ k. IsTrue (follows bytes k)) e one) ]

  -- up to a place and on from it
  pub both_follow : {from at to : ℕ} → AllFollow bytes from at → AllFollow bytes at to → AllFollow bytes from to
  both_follow {from} {at} all more i low high = elim (cases_lt i at) [ inl l ↦ all i low l | inr g ↦ more i g high ]

  -- up to a place before
  pub fewer_follow : {from at to : ℕ} → at ≤ to → AllFollow bytes from to → AllFollow bytes from at
  fewer_follow le all i low high = all i low (omega arith)

  -- the first byte that may not follow is after those that may
  pub fault_after : {at place : ℕ} → AllFollow bytes 0 at → IsFault bytes place → at ≤ place
  fault_after {at} {place} all fault =
      elim (cases_lt place at) [ inl l ↦ absurd (false≢true (sym fault.stops ∙ all place (omega arith) l)) | inr g ↦ g ]

  -- a byte after the three bytes 0
  pub byte_after_zeros : (i : ℕ) → get_or (after_zeros bytes) (i + 3) 0 ≡ get_or bytes i 0
  byte_after_zeros i = ap (λ k. get_or (after_zeros bytes) k 0) (let e : i + 3 ≡ suc (suc (suc i)) = omega arith in e)

  -- the rule at a place, of four bytes
  pub follows_is : {x y z byte : ℕ} (i : ℕ) → x ≡ get_or (after_zeros bytes) i 0 → y ≡ get_or (after_zeros bytes) (i + 1) 0
      → z ≡ get_or (after_zeros bytes) (i + 2) 0 → byte ≡ get_or bytes i 0 → may_follow x y z byte ≡ follows bytes i
  follows_is i is_x is_y is_z is = rw (is_x, is_y, is_z, is, byte_after_zeros i) refl

  -- a char goes on three bytes after its first at most
  pub open_start-near : (at : ℕ) → at ≤ open_start bytes at + 3
  open_start-near at = grind (arith, nat_tests)

-- Lanes that are neighbouring bytes, or end with one.

-- lanes that are each a byte, by their places
pub are_bytes : {size : ℕ} (lanes : List ℕ) → length lanes ≡ size → ((j : ℕ) → j < size → get_or lanes j 0 < 256)
    → AreBytes size lanes
are_bytes lanes long each = record {
  long = long;
  small = Each1-from_get_or (λ lane. lane < 256) lanes 0 (λ i l. each i (omega (arith, long)));
}

-- each lane is a byte
pub lane_below : {size : ℕ} {lanes : List ℕ} → AreBytes size lanes → (j : ℕ) → j < size → get_or lanes j 0 < 256
lane_below {size} {lanes} are j l = Each1-get_or (λ lane. lane < 256) lanes j 0 (omega (arith, are.long)) are.small

-- a chunk that was loaded
pub window_loaded : (bytes : List ℕ) (at size : ℕ) (lanes : List ℕ) → ((i : ℕ) → get_or bytes i 0 < 256)
    → at + size ≤ length bytes → lanes ≡ take size (drop at bytes) → IsWindow size bytes (at + 3) lanes
window_loaded bytes at size lanes below within loaded =
    let long : length lanes ≡ size = rw loaded (omega (arith, length-take-le size (drop at bytes), length-drop at bytes)) in
    let is : (j : ℕ) → j < size → get_or lanes j 0 ≡ get_or bytes (at + j) 0 =
    λ j l. rw (loaded, get_or-take size (drop at bytes) j 0 l, get_or-drop at bytes j 0) refl in
    record {
      are = are_bytes lanes long (λ j l. subst (λ b. b < 256) (sym (is j l)) (below (at + j)));
      each = λ j l. is j l ∙ ap (λ k. get_or (after_zeros bytes) k 0) (let e : suc (suc (suc (at + j))) ≡ at + 3 + j = omega arith in e);
    }

-- the last lane of a window
pub window_ends : {size at : ℕ} {bytes lanes : List ℕ} → 4 ≤ size → IsWindow size bytes at lanes
    → EndsAt size bytes (at + size - 1) lanes
window_ends {size} {at} {bytes} {lanes} some is = record {
  are = is.are;
  last = is.each (size - 1) (omega arith) ∙ ap (λ k. get_or (after_zeros bytes) k 0) (omega arith);
}

-- the lane before, and all lanes but the last
pub window_back : {size at : ℕ} {bytes before lanes shifted : List ℕ} → 4 ≤ size → EndsAt size bytes at before
    → IsWindow size bytes (at + 1) lanes → shifted ≡ drop (size - 1) before ++ take (size - 1) lanes
    → IsWindow size bytes at shifted
window_back {size} {at} {bytes} {before} {lanes} {shifted} some ends is across =
    let front = drop (size - 1) before in
    let one : length front ≡ 1 = omega (arith, length-drop (size - 1) before, ends.are.long) in
    let rest : length (take (size - 1) lanes) ≡ size - 1 = omega (arith, length-take-le (size - 1) lanes, is.are.long) in
    let long : length shifted ≡ size = rw across (omega (arith, length-append front (take (size - 1) lanes), one, rest)) in
    let each : (j : ℕ) → j < size → get_or shifted j 0 ≡ get_or (after_zeros bytes) (at + j) 0 =
    elim [
      | zero ↦ λ l. rw (across, get_or_append_left front (take (size - 1) lanes) 0 0 (omega (arith, one)), get_or-drop (size - 1) before 0 0)
          (ap (λ k. get_or before k 0) (omega arith) ∙ ends.last ∙ ap (λ k. get_or (after_zeros bytes) k 0) (omega arith))
      | suc j ↦ λ l. rw (across, get_or-append_right front (take (size - 1) lanes) 1 (suc j) 0 one (omega arith))
          (ap (λ k. get_or (take (size - 1) lanes) k 0) (let e : suc j - 1 ≡ j = omega arith in e) ∙ get_or-take (size - 1) lanes j 0 (omega arith) ∙ is.each j (omega arith) ∙ ap (λ k. get_or (after_zeros bytes) k 0) (omega arith))
    ] in
    record {
      are = are_bytes shifted long (elim [
        | zero ↦ λ l. subst (λ b. b < 256) (sym (each 0 l ∙ sym (ends.last ∙ ap (λ k. get_or (after_zeros bytes) k 0) (omega arith)))) (lane_below ends.are (size - 1) (omega arith))
        | suc j ↦ λ l. subst (λ b. b < 256) (sym (each (suc j) l ∙ sym (is.each j (omega arith) ∙ ap (λ k. get_or (after_zeros bytes) k 0) (omega arith)))) (lane_below is.are j (omega arith))
      ]);
      each = each;
    }

-- a chunk of one byte ends with it
pub splat_ends : {size at byte : ℕ} {bytes lanes : List ℕ} → 4 ≤ size → byte < 256 → lanes ≡ replicate size byte
    → byte ≡ get_or (after_zeros bytes) at 0 → EndsAt size bytes at lanes
splat_ends {size} {at} {byte} {bytes} {lanes} some small filled is = record {
  are = are_bytes lanes (rw filled (length-replicate size byte)) (λ j l. rw (filled, get_or-replicate size j byte 0 l) small);
  last = rw (filled, get_or-replicate size (size - 1) byte 0 (omega arith)) is;
}

-- a window, and lanes that end, at another name of the same place
pub window_at : {size at at' : ℕ} {bytes lanes : List ℕ} → at ≡ at' → IsWindow size bytes at lanes → IsWindow size bytes at' lanes
window_at {size} {at} {at'} {bytes} {lanes} same is = subst (λ k. IsWindow size bytes k lanes) same is

pub ends_at : {size at at' : ℕ} {bytes lanes : List ℕ} → at ≡ at' → EndsAt size bytes at lanes → EndsAt size bytes at' lanes
ends_at {size} {at} {at'} {bytes} {lanes} same is = subst (λ k. EndsAt size bytes k lanes) same is

-- The three chunks that are shifted back from a chunk, and what is before the next one.
module _ {size at : ℕ} {bytes before_one before_two before_three here one two three : List ℕ} (some : 4 ≤ size)
    (before : AreBefore size bytes at before_one before_two before_three) (is : IsWindow size bytes (at + 3) here)
    (back_one : one ≡ drop (size - 1) before_one ++ take (size - 1) here)
    (back_two : two ≡ drop (size - 1) before_two ++ take (size - 1) one)
    (back_three : three ≡ drop (size - 1) before_three ++ take (size - 1) two) where
  pub window_one : IsWindow size bytes (at + 2) one
  window_one = window_back some before.one_back (window_at (omega arith) is) back_one

  pub window_two : IsWindow size bytes (at + 1) two
  window_two = window_back some before.two_back (window_at (omega arith) window_one) back_two

  pub window_three : IsWindow size bytes at three
  window_three = window_back some before.three_back window_two back_three

  pub before_next : AreBefore size bytes (at + size) here one two
  before_next = record {
    one_back = ends_at (omega arith) (window_ends some is);
    two_back = ends_at (omega arith) (window_ends some window_one);
    three_back = ends_at (omega arith) (window_ends some window_two);
  }

-- Lanes of two chunks taken together, and lanes of which the first are kept.

-- a relation of the lanes of two chunks, by their places
by_places : (R : ℕ → ℕ → Type 0) (xs ys : List ℕ) → length xs ≡ length ys
    → ((j : ℕ) → j < length xs → R (get_or xs j 0) (get_or ys j 0)) → Each2 R xs ys
by_places R [] [] same each = tt
by_places R [] (y ∷ ys) same each = absurd (omega arith)
by_places R (x ∷ xs) [] same each = absurd (omega arith)
by_places R (x ∷ xs) (y ∷ ys) same each =
    (each 0 (omega arith), by_places R xs ys (omega arith) (λ j l. each (suc j) (omega arith)))

or_of_bytes : (a b : ℕ) → a < 256 → b < 256 → bit_or a b < 256
or_of_bytes a b below below' = (Fits-or {w = w8} (record { fits = below }) (record { fits = below' })).fits

module _ {size : ℕ} {xs ys : List ℕ} (are : AreBytes size xs) (are' : AreBytes size ys) where
  lane : (f : ℕ → ℕ → ℕ) {zs : List ℕ} → zs ≡ zip2 f xs ys → (j : ℕ) → j < size
      → get_or zs j 0 ≡ f (get_or xs j 0) (get_or ys j 0)
  lane f is j l = rw is (get_or-zip2 f xs ys j 0 0 0 (omega (arith, are.long)) (omega (arith, are'.long)))

  module _ {both : List ℕ} (is_both : both ≡ zip2 bit_and xs ys) where
    long_both : length both ≡ size
    long_both = rw is_both (length-zip2 bit_and xs ys (are.long ∙ sym are'.long) ∙ are.long)

    -- the bits that are set in both are no more than those of the first
    pub both_below : Each2 (λ a b. b ≤ a) xs both
    both_below = by_places (λ a b. b ≤ a) xs both (are.long ∙ sym long_both)
        (λ j l. rw (lane bit_and is_both j (omega (arith, are.long))) (and_le_l (get_or xs j 0) (get_or ys j 0)))

    module _ {less : List ℕ} (is_less : less ≡ zip2 (λ a b. a - b) xs both) where
      long_less : length less ≡ size
      long_less = rw is_less (length-zip2 (λ (a b : ℕ). a - b) xs both (are.long ∙ sym long_both) ∙ are.long)

      less_lane : (j : ℕ) → j < size → get_or less j 0 ≡ get_or xs j 0 - bit_and (get_or xs j 0) (get_or ys j 0)
      less_lane j l = rw (is_less, get_or-zip2 (λ (a b : ℕ). a - b) xs both j 0 0 0 (omega (arith, are.long)) (omega (arith, long_both)), lane bit_and is_both j l) refl

      or_lane : (j : ℕ) → j < size → get_or less j 0 + get_or ys j 0 ≡ bit_or (get_or xs j 0) (get_or ys j 0)
      or_lane j l = omega (arith, less_lane j l, or_add_and (get_or xs j 0) (get_or ys j 0), and_le_l (get_or xs j 0) (get_or ys j 0))

      or_below : (j : ℕ) → j < size → get_or less j 0 + get_or ys j 0 < 256
      or_below j l = rw (or_lane j l) (or_of_bytes _ _ (lane_below are j l) (lane_below are' j l))

      -- the other bits of the first have room for the second
      pub less_has_room : Each2 (λ a b. a + b ≤ 255) less ys
      less_has_room = by_places (λ a b. a + b ≤ 255) less ys (long_less ∙ sym are'.long)
          (λ j l. omega (arith, or_below j (omega (arith, long_less))))

      module _ {either : List ℕ} (is_either : either ≡ zip2 (λ a b. a + b) less ys) where
        either_lane : (j : ℕ) → j < size → get_or either j 0 ≡ get_or less j 0 + get_or ys j 0
        either_lane j l = rw is_either (get_or-zip2 (λ (a b : ℕ). a + b) less ys j 0 0 0 (omega (arith, long_less)) (omega (arith, are'.long)))

        -- the bits that are set in one of the two are bytes
        pub either_bytes : AreBytes size either
        either_bytes = are_bytes either
            (rw is_either (length-zip2 (λ (a b : ℕ). a + b) less ys (long_less ∙ sym are'.long) ∙ long_less))
            (λ j l. rw (either_lane j l) (or_below j l))

        -- and lane by lane those of `bit_or`
        pub either_lanes : either ≡ zip2 bit_or xs ys
        either_lanes = ext_get_or 0 either (zip2 bit_or xs ys)
            (either_bytes.long ∙ sym (length-zip2 bit_or xs ys (are.long ∙ sym are'.long) ∙ are.long))
            (λ j l. let l' : j < size = omega (arith, l, either_bytes.long) in
            either_lane j l' ∙ or_lane j l' ∙ sym (lane bit_or {zs = zip2 bit_or xs ys} refl j l'))

-- a lane of either is ASCII just where both are
pub or_ascii : {size : ℕ} {xs ys zs : List ℕ} → AreBytes size xs → AreBytes size ys → zs ≡ zip2 bit_or xs ys
    → (j : ℕ) → j < size → (get_or zs j 0 < 128) ↔ ((get_or xs j 0 < 128) × (get_or ys j 0 < 128))
or_ascii {size} {xs} {ys} {zs} are are' is j l =
    let a = get_or xs j 0 in
    let b = get_or ys j 0 in
    let e : get_or zs j 0 ≡ bit_or a b = lane are are' bit_or is j l in
    let sum = or_add_and a b in (
      λ small. (omega (arith, small, e, sum, and_le_r a b), omega (arith, small, e, sum, and_le_l a b)),
      λ both. rw e (or_lt 7 a b both.0 both.1),
    )

-- lanes that are all 0
pub zero_lanes : {size : ℕ} (lanes : List ℕ) → length lanes ≡ size → ((j : ℕ) → j < size → get_or lanes j 0 ≡ 0)
    → lanes ≡ replicate size 0
zero_lanes {size} lanes long each =
    ext_get_or 0 lanes (replicate size 0) (rw (length-replicate {A = ℕ} size 0) long)
    (λ i l. let l' : i < size = omega (arith, long) in each i l' ∙ sym (get_or-replicate {A = ℕ} size i 0 0 l'))

-- lanes without a highest bit are ASCII
module _ {size : ℕ} {lanes mask masked : List ℕ} (are : AreBytes size lanes) (filled : mask ≡ replicate size 0x80)
    (is : masked ≡ zip2 bit_and lanes mask) where
  long_filled : length mask ≡ size
  long_filled = rw filled (length-replicate {A = ℕ} size 0x80)

  high_bit : (j : ℕ) → j < size → get_or masked j 0 ≡ bit_and (get_or lanes j 0) 0x80
  high_bit j l = rw (is, get_or-zip2 bit_and lanes mask j 0 0 0 (omega (arith, are.long)) (omega (arith, long_filled)), filled, get_or-replicate {A = ℕ} size j 0x80 0 l) refl

  pub ascii_lanes : (masked ≡ replicate size 0) ↔ ((j : ℕ) → j < size → get_or lanes j 0 < 128)
  ascii_lanes = (
    λ zeros j l.
        let none : get_or masked j 0 ≡ 0 = rw zeros (get_or-replicate {A = ℕ} size j 0 0 l) in
        omega (arith, high_bit j l, none, and_pow (get_or lanes j 0) 7, lane_below are j l),
    λ small. zero_lanes masked (rw is (length-zip2 bit_and lanes mask (are.long ∙ sym long_filled) ∙ are.long))
        (λ j l. omega (arith, high_bit j l, and_pow (get_or lanes j 0) 7, small j l)),
  )

module _ {size kept : ℕ} {lanes mask masked : List ℕ} (are : AreBytes size lanes) (few : kept ≤ size)
    (filled : mask ≡ replicate kept 0xFF ++ replicate (size - kept) 0) (is : masked ≡ zip2 bit_and lanes mask) where
  long_mask : length mask ≡ size
  long_mask = rw filled (omega (arith, length-append {A = ℕ} (replicate kept 0xFF) (replicate (size - kept) 0), length-replicate {A = ℕ} kept 0xFF, length-replicate {A = ℕ} (size - kept) 0))

  masked_lane : (j : ℕ) → j < size → get_or masked j 0 ≡ bit_and (get_or lanes j 0) (get_or mask j 0)
  masked_lane j l = rw is (get_or-zip2 bit_and lanes mask j 0 0 0 (omega (arith, are.long)) (omega (arith, long_mask)))

  kept_lane : (j : ℕ) → j < kept → get_or masked j 0 ≡ get_or lanes j 0
  kept_lane j l =
      let l' : j < size = omega arith in
      let ones : get_or mask j 0 ≡ 0xFF =
      rw (filled, get_or_append_left {A = ℕ} (replicate kept 0xFF) (replicate (size - kept) 0) 0 j (omega (arith, length-replicate {A = ℕ} kept 0xFF))) (get_or-replicate {A = ℕ} kept j 0xFF 0 l) in
      rw (masked_lane j l', ones) (omega (arith, and_mask (get_or lanes j 0) 8, lane_below are j l'))

  left_out_lane : (j : ℕ) → kept ≤ j → j < size → get_or masked j 0 ≡ 0
  left_out_lane j le l =
      let none : get_or mask j 0 ≡ 0 =
      rw (filled, get_or-append_right {X = ℕ} (replicate kept 0xFF) (replicate (size - kept) 0) kept j 0 (length-replicate {A = ℕ} kept 0xFF) le) (get_or-replicate {A = ℕ} (size - kept) (j - kept) 0 0 (omega arith)) in
      rw (masked_lane j l, none) (and_zero_r (get_or lanes j 0))

  -- where no lane is left, those that were kept are 0
  pub kept_zero : masked ≡ replicate size 0 → (j : ℕ) → j < kept → get_or lanes j 0 ≡ 0
  kept_zero zeros j l = sym (kept_lane j l) ∙ rw zeros (get_or-replicate {A = ℕ} size j 0 0 (omega arith))

  -- and where those are 0, no lane is left
  pub zero_kept : ((j : ℕ) → j < kept → get_or lanes j 0 ≡ 0) → masked ≡ replicate size 0
  zero_kept each = zero_lanes masked (rw is (length-zip2 bit_and lanes mask (are.long ∙ sym long_mask) ∙ are.long))
      (λ j l. elim (cases_lt j kept) [ inl k ↦ kept_lane j k ∙ each j k | inr g ↦ left_out_lane j g l ])

-- A chunk of bytes and the lanes of its faults.

-- The lanes three, two and one byte back of a chunk, its own, and those of its faults.
module _ (faults : List ℕ) {size at : ℕ} {bytes three two one here : List ℕ} (is_three : IsWindow size bytes at three)
    (is_two : IsWindow size bytes (at + 1) two) (is_one : IsWindow size bytes (at + 2) one)
    (is_here : IsWindow size bytes (at + 3) here)
    (shows : (j : ℕ) → j < size → ((get_or faults j 0 ≡ 0) ↔ IsTrue (may_follow (get_or three j 0) (get_or two j 0) (get_or one j 0) (get_or here j 0)))) where
  at_lane : (j : ℕ) → j < size → may_follow (get_or three j 0) (get_or two j 0) (get_or one j 0) (get_or here j 0) ≡ follows bytes (at + j)
  at_lane j l =
      let all = after_zeros bytes in
      let e1 : at + 1 + j ≡ at + j + 1 = omega arith in
      let e2 : at + 2 + j ≡ at + j + 2 = omega arith in
      let e3 : at + 3 + j ≡ at + j + 3 = omega arith in
      rw (is_three.each j l, is_two.each j l, is_one.each j l, is_here.each j l, e1, e2, e3) refl

  lane_follows : (j : ℕ) → j < size → get_or faults j 0 ≡ 0 → IsTrue (follows bytes (at + j))
  lane_follows j l none = sym (at_lane j l) ∙ (shows j l).0 none

  follow_before : (n : ℕ) → n ≤ size → ((j : ℕ) → j < n → get_or faults j 0 ≡ 0) → AllFollow bytes at (at + n)
  follow_before n few none i low high =
      let e : at + (i - at) ≡ i = omega arith in
      subst (λ k. IsTrue (follows bytes k)) e (lane_follows (i - at) (omega arith) (none (i - at) (omega arith)))

  -- a chunk without a fault
  pub chunk_follows : faults ≡ replicate size 0 → AllFollow bytes at (at + size)
  chunk_follows zeros = follow_before size (omega arith) (λ j l. rw zeros (get_or-replicate {A = ℕ} size j 0 0 l))

  -- and one whose first fault is in a lane
  pub chunk_fault : (lane : ℕ) → lane < size → at + size ≤ length bytes → ((j : ℕ) → j < lane → get_or faults j 0 ≡ 0)
      → get_or faults lane 0 ≢ 0 → AllFollow bytes 0 at → IsFault bytes (at + lane)
  chunk_fault lane l within none some so_far = record {
    within = omega (arith, within);
    follow = both_follow bytes so_far (follow_before lane (omega arith) none);
    stops = false_from_ne_true _ (λ t. some ((shows lane l).1 (at_lane lane l ∙ t)));
  }

-- ASCII follows wherever no char goes on.

-- in a char no byte is ASCII but the first
no_ascii : (x y z b : ℕ) → leaves_open x y z ≡ true → b < 128 → IsFalse (may_follow x y z b)
no_ascii x y z b goes_on small = grind (arith, nat_tests)

module _ (bytes : List ℕ) where
  -- an ASCII byte where no char goes on follows, and leaves none open
  one_ascii : (i : ℕ) → IsFalse (is_open bytes i) → get_or bytes i 0 < 128
      → IsTrue (follows bytes i) × IsFalse (is_open bytes (i + 1))
  one_ascii i shut small =
      let all = after_zeros bytes in
      let closed = (leaves_open-AllClosed (get_or all i 0) (get_or all (i + 1) 0) (get_or all (i + 2) 0)).0 shut in
      let byte : get_or all (i + 3) 0 < 128 = rw (byte_after_zeros bytes i) small in
      let e : i + 1 + 1 ≡ i + 2 = omega arith in
      let e' : i + 1 + 2 ≡ i + 3 = omega arith in
      let x = get_or all i 0 in
      let y = get_or all (i + 1) 0 in
      let z = get_or all (i + 2) 0 in
      let shut' : IsFalse (leaves_open y z (get_or all (i + 3) 0)) = (leaves_open-AllClosed y z (get_or all (i + 3) 0)).1 (record {
        fourth = omega (arith, closed.third);
        third = omega (arith, closed.second);
        second = omega (arith, byte);
      }) in
      ((may_follow-first x y z (get_or all (i + 3) 0) closed).1 (inl byte), rw (e, e') shut')

  -- where a char goes on, it does not follow
  pub open_ascii : (i : ℕ) → is_open bytes i ≡ true → get_or bytes i 0 < 128 → IsFalse (follows bytes i)
  open_ascii i goes_on small =
      let all = after_zeros bytes in
      let byte : get_or all (i + 3) 0 < 128 = rw (byte_after_zeros bytes i) small in
      no_ascii (get_or all i 0) (get_or all (i + 1) 0) (get_or all (i + 2) 0) (get_or all (i + 3) 0) goes_on byte

  -- and so do some ASCII bytes
  pub ascii_follow : (at n : ℕ) → IsFalse (is_open bytes at) → ((i : ℕ) → at ≤ i → i < at + n → get_or bytes i 0 < 128)
      → AllFollow bytes at (at + n) × IsFalse (is_open bytes (at + n))
  ascii_follow at zero shut each = rw (add-zero at) (none_follow bytes at, shut)
  ascii_follow at (suc n) shut each =
      let before = ascii_follow at n shut (λ i low high. each i low (omega arith)) in
      let one = one_ascii (at + n) before.1 (each (at + n) (omega arith) (omega arith)) in
      let e : at + n + 1 ≡ at + suc n = omega arith in
      rw (sym e) (one_follows bytes before.0 one.0, one.1)

  pub window_ascii : {size at : ℕ} {lanes : List ℕ} → IsWindow size bytes (at + 3) lanes
      → ((j : ℕ) → j < size → get_or lanes j 0 < 128) → (i : ℕ) → at ≤ i → i < at + size → get_or bytes i 0 < 128
  window_ascii {size} {at} {lanes} is small i low high =
      let e : at + 3 + (i - at) ≡ i + 3 = omega arith in
      let lane = is.each (i - at) (omega arith) ∙ ap (λ k. get_or (after_zeros bytes) k 0) e ∙ byte_after_zeros bytes i in
      subst (λ b. b < 128) lane (small (i - at) (omega arith))

  -- four chunks of ASCII
  pub group_ascii : {size at : ℕ} {first second third fourth : List ℕ} → AreFour size bytes at first second third fourth
      → AreAscii size first second third fourth
      → (i : ℕ) → at ≤ i → i < at + 4 * size → get_or bytes i 0 < 128
  group_ascii {size} {at} four small i low high =
      elim (cases_lt i (at + size)) [
        | inl l ↦ window_ascii four.is_first (λ j k. (small j k).0) i low l
        | inr g ↦ elim (cases_lt i (at + 2 * size)) [
          | inl l ↦ window_ascii four.is_second (λ j k. (small j k).1) i g (omega arith)
          | inr g ↦ elim (cases_lt i (at + 3 * size)) [
            | inl l ↦ window_ascii four.is_third (λ j k. (small j k).2) i g (omega arith)
            | inr g ↦ window_ascii four.is_fourth (λ j k. (small j k).3) i g (omega arith)
          ]
        ]
      ]
