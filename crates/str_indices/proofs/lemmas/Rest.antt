-- The last chunk of a text, and which of its lanes a search finds.
use Rattle.str_indices.proofs.lemmas.Common.{◌≡◌, ℕ, zero, suc, ◌+◌, ◌-◌, ◌≤◌, List, [], ◌∷◌, ◌++◌, take, drop, length, get_or, refl, arith, cases_lt, inl, inr, length-append, replicate, bit_and, ◌∙◌, ap, ◌<◌, slice_set, add-one, sum, zip2, Each1, take-suc, length-replicate, length-drop, get_or-drop, drop-append-le, drop-replicate, take-replicate, take_more_set, take_rest, sum_by-replicate, sum_by-append, sum_below, CountsUpTo, HasLanes, HasLaterLanes, ◌*◌, ◌/◌, map, sym, subst, div-mul-le_self, mul-le-mul_right, nat_tests, add-zero, add-suc, Each2, get_or_past, sum_by-cons, ◌&&◌, nat_lt, flag-le, is_between}
use Rattle.std.specs.Int.Bits.{and_zero_r}
use Rattle.std.proofs.Math.Seq.{take-append-add}
use Rattle.std.proofs.lemmas.Slice.{drop-append-drop}
use Rattle.str_indices.proofs.lemmas.Lanes.{Each1-lanes, sum_below-chunk, lanes_at_most, Each2-lanes, lanes_map, lanes_same, lanes_shift, lanes_zip2, sum_lanes}
use Rattle.str_indices.proofs.lemmas.Bytes.{sum_below-add, sum_below-same, sum_below-still}

-- The last bytes of a text in one chunk, whose first lanes are left out.

-- a table of `most` bytes x and then `most` bytes y, from the last `out` bytes x on
pub left_out_and_kept : (x y : ℕ) (table : List ℕ) (most out kept size : ℕ) → table ≡ replicate most x ++ replicate most y
    → out + kept ≡ size → size ≤ most → take size (take (length table - (most - out)) (drop (most - out) table))
    ≡ replicate out x ++ replicate kept y
left_out_and_kept x y table most out kept size is whole few =
    let front : ◌≡◌ {A = List ℕ} (drop (most - out) (replicate most x)) (replicate out x) =
    drop-replicate (most - out) most x ∙ ap (λ n. replicate n x) (omega arith) in
    let split = drop-append-le {A = ℕ} (most - out) (replicate most x) (replicate most y)
    (omega (arith, length-replicate {A = ℕ} most x)) in
    let taken = take-append-add {A = ℕ} (replicate out x) (replicate most y) kept in
    let taken' = rw (length-replicate {A = ℕ} out x, whole) at taken in
    rw (take_rest table (most - out), is, split, front)
    (taken' ∙ ap (λ rest. replicate out x ++ rest) (take-replicate kept most y (omega arith)))

-- a small number shares all its bits with a byte that has them all
small_bits : (lane : ℕ) → lane ≤ 2 → bit_and lane 0xFF ≡ lane
small_bits zero le = refl
small_bits (suc zero) le = refl
small_bits (suc (suc zero)) le = refl
small_bits (suc (suc (suc n))) le = absurd (omega arith)

-- lanes that are kept stay as they are
kept_lanes : (lanes : List ℕ) (n : ℕ) → Each1 (λ lane. lane ≤ 2) lanes → length lanes ≡ n
    → zip2 bit_and lanes (replicate n 0xFF) ≡ lanes
kept_lanes [] zero small long = refl
kept_lanes [] (suc n) small long = absurd (omega arith)
kept_lanes (x ∷ xs) zero small long = absurd (omega arith)
kept_lanes (x ∷ xs) (suc n) small long = cc (small_bits x small.0, kept_lanes xs n small.1 (omega arith))

-- the lanes in front become 0, and the others stay
pub last_lanes_stay : (out kept : ℕ) (lanes : List ℕ) → Each1 (λ lane. lane ≤ 2) (drop out lanes)
    → length lanes ≡ out + kept
    → zip2 bit_and lanes (replicate out 0 ++ replicate kept 0xFF) ≡ replicate out 0 ++ drop out lanes
last_lanes_stay zero kept lanes small long = kept_lanes lanes kept small (omega arith)
last_lanes_stay (suc out) kept [] small long = absurd (omega arith)
last_lanes_stay (suc out) kept (x ∷ xs) small long =
    cc (and_zero_r x, last_lanes_stay out kept xs small (omega arith))

-- if P holds of 0 and of each of some lanes, it holds of zeros and then these lanes
after_zeros : (P : ℕ → Type 0) → P 0 → (out : ℕ) (lanes : List ℕ) → Each1 P lanes → Each1 P (replicate out 0 ++ lanes)
after_zeros P zeros zero lanes each = each
after_zeros P zeros (suc out) lanes each = (zeros, after_zeros P zeros out lanes each)

-- one byte more of a chunk that is put together
pub byte_more : (bytes text : List ℕ) (at i byte : ℕ) → i < length bytes → at + i < length text
    → byte ≡ get_or text (at + i) 0 → take i bytes ≡ take i (drop at text)
    → take (i + 1) (slice_set bytes i byte) ≡ take (i + 1) (drop at text)
byte_more bytes text at i byte room within is filled =
    let here = get_or-drop at text i 0 in
    let next = take-suc (drop at text) i 0 (grind (arith, length-drop)) in
    rw (take_more_set bytes i byte room, add-one) (cc (filled, is, here, next))

-- The last chunk before an end, whose lanes from a place on are kept: all of them, or not the first.
module _ (f : ℕ → ℕ) (end from size : ℕ) {lanes : List ℕ} (long : size ≤ end) (near : (from ≤ end) × (end ≤ from + size))
    (h : HasLaterLanes size (λ j. f (end - size + j)) lanes)
    (whole : end ≡ from + size → HasLanes size (λ j. f (end - size + j)) lanes) where
  -- a lane that is kept
  kept_lane : (k : ℕ) → size - (end - from) ≤ k → k < size → get_or lanes k 0 ≡ f (end - size + k)
  kept_lane k le below = elim (cases_lt 0 k) [
    | inl later ↦ h.each k later below
    | inr first ↦ (whole (omega arith)).each k below
  ]

  -- the lanes from a place on, by their places
  kept_from : (place : ℕ) → from ≤ place → place ≤ end
      → HasLanes (end - place) (λ j. f (place + j)) (drop (size - (end - place)) lanes)
  kept_from place le le' = record {
    long = grind (arith, length-drop, h.long);
    each = λ j l.
        let out = size - (end - place) in
        let there : end - size + (out + j) ≡ place + j = omega arith in
        get_or-drop out lanes j 0 ∙ kept_lane (out + j) (omega arith) (omega arith) ∙ ap f there;
  }

  -- the lanes that are kept, by their places
  kept : HasLanes (end - from) (λ j. f (from + j)) (drop (size - (end - from)) lanes)
  kept = kept_from from (omega arith) (omega arith)

  -- none of them is above the most that f is
  pub kept_small : (most : ℕ) → ((n : ℕ) → f n ≤ most) → Each1 (λ lane. lane ≤ most) (drop (size - (end - from)) lanes)
  kept_small most few = Each1-lanes (λ lane. lane ≤ most) kept (λ j l. few (from + j))

  module _ {last : List ℕ} (is : last ≡ replicate (size - (end - from)) 0 ++ drop (size - (end - from)) lanes) where
    -- nor is one of those after zeros
    pub rest_small : (most : ℕ) → ((n : ℕ) → f n ≤ most) → Each1 (λ lane. lane ≤ most) last
    rest_small most few =
        rw is (after_zeros (λ lane. lane ≤ most) (omega arith) (size - (end - from)) _ (kept_small most few))

    -- they add up to the count from the place on to the end
    pub rest_added : sum_below f end ≡ sum_below f from + sum last
    rest_added =
        let out = size - (end - from) in
        let add = sum_by-append (λ (a : ℕ). a) (replicate out 0) (drop out lanes) in
        let zeros = sum_by-replicate (λ (a : ℕ). a) out 0 in
        let here : from + (end - from) ≡ end = omega arith in
        let chunk = rw here at (sum_below-chunk f from kept) in
        rw is (omega (arith, add, zeros, chunk))

    -- and from any later one
    pub rest_counted : (most : ℕ) → ((n : ℕ) → f n ≤ most) → CountsUpTo (sum_below f) most size from end last
    rest_counted most few = record {
      long = rw is (grind (arith, h.long, length-append, length-drop, length-replicate {A = ℕ}));
      small = rest_small most few;
      added = rest_added;
      rest = λ place le le'.
          let out = size - (end - from) in
          let later = drop-append-drop out lanes (replicate out 0) (size - (end - place)) (omega arith)
          (length-replicate {A = ℕ} out 0) in
          let here : place + (end - place) ≡ end = omega arith in
          rw (is, later) (rw here at (sum_below-chunk f place (kept_from place le le')));
    }

-- The sums of a chunk's lanes from each lane on, and which lane they find.

-- the sum of n lanes from lane j on, where there is nothing past the last
abbrev pub window : List ℕ → ℕ → ℕ → ℕ
window lanes n j = sum_below (λ i. get_or lanes (j + i) 0) n

-- a window, and then another
window-add : (lanes : List ℕ) (m n j : ℕ) → window lanes (m + n) j ≡ window lanes m j + window lanes n (m + j)
window-add lanes m n j =
    let same = sum_below-same (λ i. get_or lanes (j + (m + i)) 0) (λ i. get_or lanes (m + j + i) 0) n
    (λ i l. ap (λ k. get_or lanes k 0) (omega arith)) in
    omega (arith, sum_below-add (λ i. get_or lanes (j + i) 0) m n, same)

-- past the last lane there is nothing
window-past : (lanes : List ℕ) (n j : ℕ) → length lanes ≤ j → window lanes n j ≡ 0
window-past lanes zero j past = refl
window-past lanes (suc n) j past = omega (arith, window-past lanes n j past, get_or_past lanes (j + n) 0 (omega arith))

-- a window over small lanes
window-le : (lanes : List ℕ) (most : ℕ) → ((i : ℕ) → get_or lanes i 0 ≤ most) → (n j : ℕ) → window lanes n j ≤ n * most
window-le lanes most small zero j = omega arith
window-le lanes most small (suc n) j = omega (arith, window-le lanes most small n j, small (j + n))

-- a window that goes to the last lane
window-all : (lanes : List ℕ) (n j : ℕ) → length lanes ≤ n → window lanes n j ≡ sum (drop j lanes)
window-all lanes n j all =
    let f = λ (i : ℕ). get_or lanes (j + i) 0 in
    let tail = length (drop j lanes) in
    let tails = sum_lanes f (drop j lanes) (λ i l. get_or-drop j lanes i 0) in
    let still = sum_below-still f tail (n - tail)
    (λ i l. get_or_past lanes (j + (tail + i)) 0 (omega (arith, length-drop j lanes))) in
    let whole : tail + (n - tail) ≡ n = omega (arith, length-drop j lanes) in
    omega (arith, tails, rw whole at still)

-- small lanes, by their places
small_lane : (most : ℕ) (lanes : List ℕ) → Each1 (λ lane. lane ≤ most) lanes → (i : ℕ) → get_or lanes i 0 ≤ most
small_lane most [] small i =
    let none : get_or {A = ℕ} [] i 0 ≡ 0 = get_or_past [] i 0 (omega arith) in omega (arith, none)
small_lane most (x ∷ lanes) small zero = small.0
small_lane most (x ∷ lanes) small (suc i) = small_lane most lanes small.1 i

module _ {size : ℕ} (lanes : List ℕ) (long : length lanes ≡ size) where
  -- windows of one lane are the lanes
  pub windows_of_one : HasLanes size (window lanes 1) lanes
  windows_of_one = record { long = long; each = λ j l. rw add-zero (omega arith) }

  -- lanes that hold windows, moved so far that each holds the next window
  pub windows_moved : (m n : ℕ) → n < size → {xs moved : List ℕ} → HasLanes size (window lanes m) xs
      → moved ≡ drop n xs ++ replicate n 0 → HasLanes size (λ j. window lanes m (n + j)) moved
  windows_moved m n small h is = lanes_shift n small (λ j past. window-past lanes m j (omega arith)) h is

  -- so too where each lane is told by its place
  pub windows_there : (m n : ℕ) {xs moved : List ℕ} → HasLanes size (window lanes m) xs
      → HasLanes size (λ j. get_or xs (n + j) 0) moved → HasLanes size (λ j. window lanes m (n + j)) moved
  windows_there m n {xs} h k = lanes_same k (λ j l. elim (cases_lt (n + j) size) [
    | inl inside ↦ h.each (n + j) inside
    | inr past ↦ omega (arith, get_or_past xs (n + j) 0 (omega (arith, h.long)), window-past lanes m (n + j) (omega arith))
  ])

  module _ (m : ℕ) {xs moved : List ℕ} (h : HasLanes size (window lanes m) xs)
      (k : HasLanes size (λ j. window lanes m (m + j)) moved) where
    -- windows of small lanes have room for one another
    pub windows_addable : Each1 (λ lane. lane ≤ 2) lanes → m < 64 → Each2 (λ a b. a + b ≤ 255) xs moved
    windows_addable small few = Each2-lanes (λ a b. a + b ≤ 255) h k
        (λ j l. omega (
          arith,
          window-le lanes 2 (small_lane 2 lanes small) m j,
          window-le lanes 2 (small_lane 2 lanes small) m (m + j),
        ))

    -- and added make windows twice as wide
    pub windows_added : {wide : List ℕ} → wide ≡ zip2 (λ a b. a + b) xs moved → HasLanes size (window lanes (m + m)) wide
    windows_added is = lanes_same (lanes_zip2 (λ a b. a + b) h k is) (λ j l. sym (window-add lanes m m j))

  -- windows that are wide enough hold the sums to the end
  pub windows_to_end : {m : ℕ} {xs : List ℕ} → size ≤ m → HasLanes size (window lanes m) xs
      → HasLanes size (λ j. sum (drop j lanes)) xs
  windows_to_end {m} wide h = lanes_same h (λ j l. window-all lanes m j (omega arith))

-- a mark is at most 1
pub between-le : (a b lane : ℕ) → is_between a b lane ≤ 1
between-le a b lane = flag-le (nat_lt a lane && nat_lt lane b)

-- from one lane on is no less than from the next on
tail-falls : (lanes : List ℕ) (j : ℕ) → sum (drop (suc j) lanes) ≤ sum (drop j lanes)
tail-falls [] zero = omega arith
tail-falls [] (suc j) = omega arith
tail-falls (x ∷ lanes) zero = omega (arith, sum_by-cons (λ (a : ℕ). a) x lanes)
tail-falls (x ∷ lanes) (suc j) = tail-falls lanes j

-- Numbers that never rise, and how many of the first are above k.
module _ (t : ℕ → ℕ) (k : ℕ) (falls : (j : ℕ) → t (suc j) ≤ t j) where
  falls-far : (i more : ℕ) → t (i + more) ≤ t i
  falls-far i zero = rw add-zero (omega arith)
  falls-far i (suc more) = rw add-suc (omega (arith, falls-far i more, falls (i + more)))

  pub falls-to : (i j : ℕ) → i ≤ j → t j ≤ t i
  falls-to i j le =
      let there : i + (j - i) ≡ j = omega arith in
      rw there at (falls-far i (j - i))

  module _ (small : (j : ℕ) → t j < 127) where
    abbrev pub above : ℕ → ℕ
    above = sum_below (λ j. is_between k 127 (t j))

    -- those before that many are above k, and the others are not
    pub front : (n : ℕ) → (above n ≤ n) × ((j : ℕ) → j < above n → k < t j) × ((j : ℕ) → above n ≤ j → j < n → t j ≤ k)
    front zero = (omega arith, λ j l. absurd (omega arith), λ j l l'. absurd (omega arith))
    front (suc n) = elim (cases_lt k (t n)) [
      | inl over ↦
          let one : is_between k 127 (t n) ≡ 1 = grind (arith, nat_tests, small n) in
          let all : above n ≡ n = elim (cases_lt (above n) n) [
            | inl less ↦
                let under : t (above n) ≤ k = (front n).2 (above n) (omega arith) less in
                let far : t n ≤ t (above n) = falls-to (above n) n (omega arith) in
                absurd (omega (arith, under, far))
            | inr le ↦ omega (arith, (front n).0)
          ] in (
            omega (arith, one, all),
            λ j l.
                let far : t n ≤ t j = falls-to j n (omega (arith, one, all)) in omega (arith, far),
            λ j l l'. absurd (omega (arith, one, all)),
          )
      | inr under ↦
          let none : is_between k 127 (t n) ≡ 0 = grind (arith, nat_tests) in (
            omega (arith, none, (front n).0),
            λ j l. (front n).1 j (omega (arith, none)),
            λ j l l'. elim (cases_lt j n) [
              | inl before ↦ (front n).2 j (omega (arith, none)) before
              | inr last ↦ subst (λ i. t i ≤ k) (omega arith) under
            ],
          )
    ]

-- how many lanes are above k, of lanes that hold the sums to the end
pub tails_above : (k : ℕ) {size : ℕ} {lanes sums : List ℕ} → HasLanes size (λ j. sum (drop j lanes)) sums
    → sum (map (is_between k 127) sums) ≡ sum_below (λ j. is_between k 127 (sum (drop j lanes))) size
tails_above k {size} {lanes} {sums} h =
    let marks = lanes_same (lanes_map (is_between k 127) sums h.long refl) (λ j l. ap (is_between k 127) (h.each j l)) in
    let all = sum_lanes (λ j. is_between k 127 (sum (drop j lanes))) (map (is_between k 127) sums)
    (λ j l. marks.each j (omega (arith, marks.long))) in
    all ∙ ap (sum_below (λ j. is_between k 127 (sum (drop j lanes)))) marks.long

-- n sums that are too great find the byte that takes the count above idx
pub record FoundBy (counted : ℕ → ℕ) (size from to idx n : ℕ) : Type 0 where
  pub some : size - (to - from) < n
  pub within : n ≤ size
  pub at_most : counted (to - size + (n - 1)) ≤ idx
  pub stopped : to - size + (n - 1) < to → idx < counted (to - size + (n - 1) + 1)

-- The place that n sums above k find, where all lanes together take the count to k + 1 above idx.
module _ {counted : ℕ → ℕ} {most size from to : ℕ} {lanes : List ℕ} (k idx n : ℕ)
    (h : CountsUpTo counted most size from to lanes) (near : (from ≤ to) × (to ≤ from + size)) (long : size ≤ to) (few : counted from ≤ idx)
    (more : k + 1 + idx ≡ counted to) (small : sum lanes < 127)
    (is : n ≡ sum_below (λ j. is_between k 127 (sum (drop j lanes))) size) where
  falls : (j : ℕ) → sum (drop (suc j) lanes) ≤ sum (drop j lanes)
  falls = tail-falls lanes

  split : (n ≤ size) × ((j : ℕ) → j < n → k < sum (drop j lanes)) × ((j : ℕ) → n ≤ j → j < size → sum (drop j lanes) ≤ k)
  split = rw is (front (λ j. sum (drop j lanes)) k falls
      (λ j.
      let first : sum (drop j lanes) ≤ sum lanes = falls-to (λ i. sum (drop i lanes)) k falls 0 j (omega arith) in
      omega (arith, first)) size)

  -- more lanes are found than are left out
  found_some : size - (to - from) < n
  found_some =
      let out = size - (to - from) in
      let here = h.rest from (omega arith) (omega arith) in
      elim (cases_lt out n) [
        | inl some ↦ some
        | inr none ↦ elim (cases_lt out size) [
          | inl inside ↦ absurd (omega (arith, here, split.2 out none inside))
          | inr past ↦ let same : from ≡ to = omega arith in absurd (omega (arith, ap counted same))
        ]
      ]

  -- no more than idx are counted before the place
  found_few : counted (to - size + (n - 1)) ≤ idx
  found_few =
      let place = to - size + (n - 1) in
      let here = h.rest place (omega (arith, found_some)) (omega (arith, found_some, split.0)) in
      let lane : size - (to - place) ≡ n - 1 = omega (arith, found_some, split.0) in
      omega (arith, rw lane at here, split.1 (n - 1) (omega (arith, found_some)))

  -- and with it more are
  found_more : to - size + (n - 1) < to → idx < counted (to - size + (n - 1) + 1)
  found_more inside =
      let next = to - size + (n - 1) + 1 in
      let lane : size - (to - next) ≡ n = omega (arith, found_some, split.0) in
      let here = rw lane at (h.rest next (omega (arith, found_some)) (omega arith)) in
      elim (cases_lt n size) [
        | inl before ↦ omega (arith, here, split.2 n (omega arith) before)
        | inr last ↦ let same : next ≡ to = omega (arith, found_some, split.0) in omega (arith, ap counted same)
      ]

  found : FoundBy counted size from to idx n
  found = record { some = found_some; within = split.0; at_most = found_few; stopped = found_more }

-- marks are small enough to be summed
pub marks_small : (a b most : ℕ) → 4 ≤ most → (lanes : List ℕ) → Each1 (λ lane. lane ≤ most) (map (is_between a b) lanes)
marks_small a b most room lanes =
    lanes_at_most (is_between a b) most (λ lane. omega (arith, room, between-le a b lane)) lanes

-- at most 126 / most lanes have a sum that can be compared
pub compared : {counted : ℕ → ℕ} {most size from to total : ℕ} {lanes : List ℕ} → CountsUpTo counted most size from to lanes
    → size ≤ 126 / most → total ≡ sum lanes → total ≤ 126
compared {most = most} {size} {lanes = lanes} h few is = omega (
  arith,
  is,
  window-all lanes size 0 (omega (arith, h.long)),
  window-le lanes most (small_lane most lanes h.small) size 0,
  mul-le-mul_right {m = size} {n = 126 / most} most few,
  div-mul-le_self 126 most,
)

-- the place is found, by the contracts of the calls of a search
pub found_place : {counted : ℕ → ℕ} {most size from to : ℕ} {lanes sums : List ℕ} {count idx total n : ℕ}
    → CountsUpTo counted most size from to lanes → (from ≤ to) × (to ≤ from + size) → size ≤ to → count ≡ counted from
    → count ≤ idx → total ≡ sum lanes → idx - count < total → size ≤ 126 / most
    → HasLanes size (λ j. sum (drop j lanes)) sums → n ≡ sum (map (is_between (total - (idx - count) - 1) 127) sums)
    → FoundBy counted size from to idx n
found_place {most = most} {lanes = lanes} {count = count} {idx = idx} {total = total} {n = n} h near long is_count few is_total
    more room tails is =
    let k = total - (idx - count) - 1 in
    found k idx n h near long (omega (arith, is_count, few)) (omega (arith, more, h.added, is_total, is_count, few))
    (omega (arith, compared h room is_total, is_total)) (is ∙ tails_above k tails)
