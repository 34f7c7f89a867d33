-- The lanes of a chunk: what each call leaves in them, and the line breaks that they find.
use Rattle.str_indices.proofs.lemmas.Common.{◌≡◌, ◌≢◌, ℕ, suc, ◌+◌, ◌-◌, ◌<◌, ◌≤◌, Bool, true, false, List, [], ◌∷◌, ◌++◌, map, take, drop, replicate, length, get_or, bit_and, refl, arith, length-drop, slice_set, ◌∙◌, sum, not, ◌==◌, ◌&&◌, Each1, Each2, zip2, nat_tests, get_or-take, get_or-drop, get_or-map, get_or_past, get_or-append-add, get_or-replicate, get_or-set_same, get_or-set_other, length-append, length-map, length-take-le, length-replicate, length-set, sum_by-cons, zip2_splat, zip2_splat_left, zip2_of_maps, map-map, Each1-replicate, Each1-from_get_or, Each2-of, get_or-zip2, length-zip2, is_byte, flag, mark, sum_below, is_trailing, is_leading, HasLanes, mark-le, ap₂, add_comm, and_comm, ◌*◌, sum_by-replicate, Each1-zip2, AddsUp, zero, add-zero, add-suc, drop_of_length-le, drop-cons, line_feed, carriage_return, is_line_feed, is_carriage_return, byte_before, starts_break, break_start, HasLaterLanes, ◌/◌, ◌%◌, ◌^◌, ap, and_mask, length-take, is_between, IsChunk, is_crlf, is_separator, ends_separator, narrow_break_at, next_line_at, separator_at, break_at, flag-le}
use Rattle.std.proofs.Math.ListN.{get_or-append}
use Rattle.str_indices.proofs.lemmas.Bytes.{sum_below-add, sum_below-front}
use Rattle.str_indices.proofs.lemmas.Passes.{parts_end}

-- The lanes of a chunk by their places: what each call of a chunk leaves in a lane, and what the lanes add up to.

-- lanes that hold f of each place add up to f summed over the places
pub sum_lanes : (f : ℕ → ℕ) (lanes : List ℕ) → ((j : ℕ) → j < length lanes → get_or lanes j 0 ≡ f j)
    → sum lanes ≡ sum_below f (length lanes)
sum_lanes f [] each = refl
sum_lanes f (x ∷ lanes) each =
    let rest = sum_lanes (λ j. f (suc j)) lanes (λ j l. each (suc j) (omega arith)) in
    omega (arith, sum_by-cons (λ y. y) x lanes, sum_below-front f (length lanes), each 0 (omega arith), rest)

-- a sum over places goes on over a chunk by the sum of the chunk's lanes
pub sum_below-chunk : (f : ℕ → ℕ) (at : ℕ) {size : ℕ} {lanes : List ℕ} → HasLanes size (λ j. f (at + j)) lanes
    → sum_below f (at + size) ≡ sum_below f at + sum lanes
sum_below-chunk f at {size} {lanes} h =
    let sums = sum_lanes (λ j. f (at + j)) lanes (λ j l. h.each j (omega (arith, h.long))) in
    grind (arith, sum_below-add f at size, h.long, sums)

-- a chunk that was loaded from a text is as long as its type says
pub length-loaded : (text : List ℕ) (at size : ℕ) (lanes : List ℕ) → at + size ≤ length text
    → lanes ≡ take size (drop at text) → length lanes ≡ size
length-loaded text at size lanes within loaded = grind (arith, length-take-le, length-drop)

-- lanes that were masked and then compared with a byte
pub masked_lanes : (mask byte size : ℕ) (lanes splat masked marks : List ℕ) → length lanes ≡ size
    → splat ≡ replicate size mask → masked ≡ zip2 bit_and lanes splat → marks ≡ map (is_byte byte) masked
    → marks ≡ map (λ lane. is_byte byte (bit_and lane mask)) lanes
masked_lanes mask byte size lanes splat masked marks long filled joined compared =
    cc (zip2_splat bit_and lanes size mask long, map-map (is_byte byte) (λ lane. bit_and lane mask) lanes)

-- if u is at most `most`, so is each lane of u
pub lanes_at_most : (u : ℕ → ℕ) (most : ℕ) → ((b : ℕ) → u b ≤ most) → (lanes : List ℕ)
    → Each1 (λ lane. lane ≤ most) (map u lanes)
lanes_at_most u most each [] = tt
lanes_at_most u most each (x ∷ lanes) = (each x, lanes_at_most u most each lanes)

-- two weights of each byte are added, lane by lane
pub weights_added : (u v : ℕ → ℕ) (lanes : List ℕ) {xs ys zs : List ℕ} → xs ≡ map u lanes → ys ≡ map v lanes
    → zs ≡ zip2 (λ a b. a + b) xs ys → zs ≡ map (λ b. u b + v b) lanes
weights_added u v lanes is_left is_right added =
    cc (added, zip2_of_maps (λ (a b : ℕ). a + b) u v lanes is_left is_right)

-- marks of two kinds have room for one another
pub marks_addable : (p q : ℕ → Bool) (lanes : List ℕ) {xs ys : List ℕ} → xs ≡ map (mark p) lanes
    → ys ≡ map (mark q) lanes → Each2 (λ a b. a + b ≤ 255) xs ys
marks_addable p q lanes {xs} {ys} is_left is_right =
    Each2-of (λ a. a ≤ 1) (λ b. b ≤ 1) (λ a b. a + b ≤ 255) (λ a b few few'. omega arith) xs ys
    (rw is_left (lanes_at_most (mark p) 1 (mark-le p) lanes)) (rw is_right (lanes_at_most (mark q) 1 (mark-le q) lanes))

module _ (test : ℕ → Bool) (lanes : List ℕ) {size : ℕ} {ones marks : List ℕ} (long : length lanes ≡ size)
    (filled : ones ≡ replicate size 1) (marked : marks ≡ map (mark test) lanes) where
  -- no mark is above 1
  pub marks_below_ones : Each2 (λ a b. b ≤ a) ones marks
  marks_below_ones = Each2-of (λ a. 1 ≤ a) (λ b. b ≤ 1) (λ a b. b ≤ a) (λ a b le le'. omega arith) ones marks
      (rw filled (Each1-replicate (λ a. 1 ≤ a) size 1 (omega arith)))
      (rw marked (lanes_at_most (mark test) 1 (mark-le test) lanes))

  -- 1 less the mark is the mark of the others
  pub others_marked : {others : List ℕ} → others ≡ zip2 (λ a b. a - b) ones marks
      → others ≡ map (mark (λ b. not (test b))) lanes
  others_marked is = rw (is, filled, marked) (zip2_splat_left (λ a b. a - b) 1 size (map (mark test) lanes)
      (grind (arith, long, length-map)) ∙ map-map (λ b. 1 - b) (mark test) lanes ∙ each lanes)
    where
      other : (b : Bool) → 1 - flag b ≡ flag (not b)
      other true = refl
      other false = refl

      each : (xs : List ℕ) → map (λ b. 1 - mark test b) xs ≡ map (mark (λ b. not (test b))) xs
      each [] = refl
      each (x ∷ xs) = cc (other (test x), each xs)

-- lanes by themselves
pub lanes_of : {size : ℕ} {xs : List ℕ} → length xs ≡ size → HasLanes size (λ j. get_or xs j 0) xs
lanes_of long = record { long = long; each = λ j l. refl }

-- lanes that hold one number of each place hold another that is the same there
pub lanes_same : {size : ℕ} {f g : ℕ → ℕ} {xs : List ℕ} → HasLanes size f xs
    → ((j : ℕ) → j < size → f j ≡ g j) → HasLanes size g xs
lanes_same h same = grind (arith, h.long, h.each, same)

-- each lane mapped
pub lanes_map : (u : ℕ → ℕ) {size : ℕ} (xs : List ℕ) {ys : List ℕ} → length xs ≡ size → ys ≡ map u xs
    → HasLanes size (λ j. u (get_or xs j 0)) ys
lanes_map u xs long is = grind (arith, length-map, λ (j : ℕ). get_or-map u xs j 0 0)

-- each byte of a chunk that was loaded from a text mapped
pub lanes_loaded : (u : ℕ → ℕ) (text : List ℕ) (at size : ℕ) {lanes counts : List ℕ} → at + size ≤ length text
    → lanes ≡ take size (drop at text) → counts ≡ map u lanes → HasLanes size (λ j. u (get_or text (at + j) 0)) counts
lanes_loaded u text at size {lanes} {counts} within loaded mapped = lanes_same
    (lanes_map u lanes (length-loaded text at size lanes within loaded) mapped)
    (λ j l. cc (get_or-take size (drop at text) j 0 l, get_or-drop at text j 0))

-- two chunks, lane by lane
pub lanes_zip2 : (u : ℕ → ℕ → ℕ) {size : ℕ} {f g : ℕ → ℕ} {xs ys zs : List ℕ} → HasLanes size f xs
    → HasLanes size g ys → zs ≡ zip2 u xs ys → HasLanes size (λ j. u (f j) (g j)) zs
lanes_zip2 u {xs = xs} {ys = ys} h k is =
    grind (arith, h.long, k.long, h.each, k.each, length-zip2 u xs ys, λ (j : ℕ). get_or-zip2 u xs ys j 0 0 0)

-- two chunks of flags, both at once
pub lanes_and : (p q : ℕ → Bool) {size : ℕ} {xs ys zs : List ℕ} → HasLanes size (λ j. flag (p j)) xs
    → HasLanes size (λ j. flag (q j)) ys → zs ≡ zip2 bit_and xs ys → HasLanes size (λ j. flag (p j && q j)) zs
lanes_and p q h k is = lanes_same (lanes_zip2 bit_and h k is) (λ j l. grind (arith, nat_tests))

-- lanes shifted back by n, where past the last there is nothing
pub lanes_shift : (n : ℕ) {size : ℕ} {f : ℕ → ℕ} {xs ys : List ℕ} → n < size → ((j : ℕ) → size ≤ j → f j ≡ 0)
    → HasLanes size f xs → ys ≡ drop n xs ++ replicate n 0 → HasLanes size (λ j. f (n + j)) ys
lanes_shift n {xs = xs} small none h is = record {
  long = grind (arith, h.long, length-drop, length-append, length-replicate {A = ℕ});
  each = λ j l.
      let past = get_or-append-add (drop n xs) (replicate n 0) (j - length (drop n xs)) 0 in
      let zeros = get_or-replicate {A = ℕ} n (j - length (drop n xs)) 0 0 in
      grind (arith, h.long, h.each, none, length-drop, get_or-drop, get_or-append, past, zeros);
}

-- one lane set
pub lanes_set : {size : ℕ} {f g : ℕ → ℕ} {xs ys : List ℕ} (k n : ℕ) → k < size → HasLanes size f xs
    → ys ≡ slice_set xs k n → n ≡ g k → ((j : ℕ) → j < size → j ≢ k → f j ≡ g j) → HasLanes size g ys
lanes_set {xs = xs} k n within h is here elsewhere =
    grind (arith, h.each, elsewhere, length-set, get_or-set_same xs k n 0, λ (j : ℕ). get_or-set_other xs k j n 0)

-- if P holds of the number of each place, it holds of each lane
pub Each1-lanes : (P : ℕ → Type 0) {size : ℕ} {f : ℕ → ℕ} {xs : List ℕ} → HasLanes size f xs
    → ((j : ℕ) → j < size → P (f j)) → Each1 P xs
Each1-lanes P {size} {f} {xs} h each = Each1-from_get_or P xs 0
    (λ j l. let inside : j < size = omega (arith, h.long) in rw (h.each j inside) (each j inside))

-- if P holds of the two numbers of each place, it holds of each two lanes of two chunks
pub Each2-lanes : (P : ℕ → ℕ → Type 0) {size : ℕ} {f g : ℕ → ℕ} {xs ys : List ℕ} → HasLanes size f xs
    → HasLanes size g ys → ((j : ℕ) → j < size → P (f j) (g j)) → Each2 P xs ys
Each2-lanes P {size} {f} {g} {xs} {ys} h k each = by_place xs ys
    (λ j l. let inside : j < size = omega (arith, h.long) in rw (h.each j inside, k.each j inside) (each j inside))
  where
    by_place : (xs ys : List ℕ) → ((j : ℕ) → j < length xs → P (get_or xs j 0) (get_or ys j 0)) → Each2 P xs ys
    by_place [] ys each = tt
    by_place (x ∷ xs) [] each = tt
    by_place (x ∷ xs) (y ∷ ys) each = (each 0 (omega arith), by_place xs ys (λ j l. each (suc j) (omega arith)))

module _ {size : ℕ} (chunk : List ℕ) (long : length chunk ≡ size) where
  -- the lanes that are one byte and whose next lane is another
  pub pair_lanes : (a b : ℕ) {firsts seconds shifted pairs : List ℕ} → 1 < size → 0 < b
      → firsts ≡ map (is_byte a) chunk → seconds ≡ map (is_byte b) chunk → shifted ≡ drop 1 seconds ++ replicate 1 0
      → pairs ≡ zip2 bit_and firsts shifted
      → HasLanes size (λ j. flag (get_or chunk j 0 == a && get_or chunk (1 + j) 0 == b)) pairs
  pair_lanes a b few some is_first is_second back both =
      let nexts = lanes_shift 1 few (λ j past. grind (arith, nat_tests, get_or_past chunk j 0))
      (lanes_map (is_byte b) chunk long is_second) back in
      lanes_and (λ j. get_or chunk j 0 == a) (λ j. get_or chunk (1 + j) 0 == b)
      (lanes_map (is_byte a) chunk long is_first) nexts both

  -- no byte of a chunk is one that no lane was found to be
  pub lane_is_not : (a : ℕ) {firsts : List ℕ} → firsts ≡ map (is_byte a) chunk → firsts ≡ replicate size 0
      → (j : ℕ) → j < size → (get_or chunk j 0 == a) ≡ false
  lane_is_not a is_first none j within =
      let here = (lanes_map (is_byte a) chunk long is_first).each j within in
      grind (arith, nat_tests, here, none, get_or-replicate {A = ℕ} size j 0 0 within)

-- 1 less the mark of a trailing byte is the mark of a leading one
pub leading_marked : (lanes : List ℕ) {size : ℕ} {ones marks others : List ℕ} → length lanes ≡ size
    → ones ≡ replicate size 1 → marks ≡ map (mark is_trailing) lanes → others ≡ zip2 (λ a b. a - b) ones marks
    → others ≡ map (mark is_leading) lanes
leading_marked lanes long filled marked is = others_marked is_trailing lanes long filled marked is

-- the marks of leading bytes, as the search takes them
pub ruleset leading_lanes = (marks_below_ones, leading_marked)

-- The two chunks of a call that adds them or takes the bits of both may be exchanged: a call's contract names them in one
-- order, and a proof may find them in the other.

exchanged : (op : ℕ → ℕ → ℕ) → ((x y : ℕ) → op x y ≡ op y x) → (xs ys : List ℕ) → zip2 op ys xs ≡ zip2 op xs ys
exchanged op same [] [] = refl
exchanged op same [] (y ∷ ys) = refl
exchanged op same (x ∷ xs) [] = refl
exchanged op same (x ∷ xs) (y ∷ ys) = ap₂ (λ l ls. l ∷ ls) (same y x) (exchanged op same xs ys)

pub bits_exchanged : {zs : List ℕ} (xs ys : List ℕ) → zs ≡ zip2 bit_and ys xs → zs ≡ zip2 bit_and xs ys
bits_exchanged xs ys is = is ∙ exchanged bit_and and_comm xs ys

pub sums_exchanged : {zs : List ℕ} (xs ys : List ℕ) → zs ≡ zip2 (λ x y. x + y) ys xs → zs ≡ zip2 (λ x y. x + y) xs ys
sums_exchanged xs ys is = is ∙ exchanged (λ x y. x + y) add_comm xs ys

pub room_exchanged : (limit : ℕ) (xs ys : List ℕ) → Each2 (λ x y. x + y ≤ limit) ys xs → Each2 (λ x y. x + y ≤ limit) xs ys
room_exchanged limit [] [] room = room
room_exchanged limit [] (y ∷ ys) room = tt
room_exchanged limit (x ∷ xs) [] room = tt
room_exchanged limit (x ∷ xs) (y ∷ ys) room = (omega (arith, room.0), room_exchanged limit xs ys room.1)

-- Lanes that hold what is counted in chunks are added, chunk after chunk, and summed once.

-- the sum of lanes that were added two by two
sum-zip2 : (xs ys : List ℕ) → length xs ≡ length ys → sum (zip2 (λ a b. a + b) xs ys) ≡ sum xs + sum ys
sum-zip2 [] [] long = refl
sum-zip2 [] (y ∷ ys) long = absurd (omega arith)
sum-zip2 (x ∷ xs) [] long = absurd (omega arith)
sum-zip2 (x ∷ xs) (y ∷ ys) long =
    let add = sum_by-cons (λ (a : ℕ). a) in
    omega (arith, add (x + y) (zip2 (λ a b. a + b) xs ys), add x xs, add y ys, sum-zip2 xs ys (omega arith))

module _ {counted : ℕ → ℕ} {most size from : ℕ} where
  -- before the first chunk all lanes are 0
  pub nothing_added : {lanes : List ℕ} → lanes ≡ replicate size 0 → AddsUp counted most size from from 0 lanes
  nothing_added zeros =
      let small = Each1-replicate (λ (lane : ℕ). lane ≤ 0 * most) size 0 (omega arith) in
      rw zeros (grind (arith, length-replicate {A = ℕ}, sum_by-replicate (λ (a : ℕ). a) size 0, small))

  -- the same number of chunks, written in another way
  pub as_many : {at m n : ℕ} {xs : List ℕ} → m ≡ n → AddsUp counted most size from at m xs
      → AddsUp counted most size from at n xs
  as_many same lanes = rw same at lanes

  module _ {at m : ℕ} {xs : List ℕ} (so_far : AddsUp counted most size from at m xs) where
    module _ {to n : ℕ} {ys : List ℕ} (more : AddsUp counted most size at to n ys) where
      -- lanes below a bound have room for one another
      pub lanes_addable : (limit : ℕ) → (m + n) * most ≤ limit → Each2 (λ a b. a + b ≤ limit) xs ys
      lanes_addable limit room = Each2-of _ _ _ (λ a b few few'. omega arith) xs ys so_far.small more.small

      -- chunks, and then more chunks
      pub lanes_added : {sums : List ℕ} → sums ≡ zip2 (λ a b. a + b) xs ys
          → AddsUp counted most size from to (m + n) sums
      lanes_added added = rw added (record {
        long = grind (arith, so_far.long, more.long, length-zip2 (λ (a b : ℕ). a + b) xs ys);
        small = Each1-zip2 (λ a b. a + b) (λ lane. lane ≤ (m + n) * most) xs ys
            (lanes_addable ((m + n) * most) (omega arith));
        added = omega (arith, so_far.added, more.added, sum-zip2 xs ys (omega (arith, so_far.long, more.long)));
      })

  -- two parts of some chunks, added; the second begins where the first ends
  module _ {m n chunks middle : ℕ} {xs ys : List ℕ} (so_far : AddsUp counted most size from middle m xs)
      (there : from + m * size ≡ middle) (more : AddsUp counted most size middle (middle + n * size) n ys)
      (all : m + n ≡ chunks) where
    pub parts_addable : (limit : ℕ) → chunks * most ≤ limit → Each2 (λ a b. a + b ≤ limit) xs ys
    parts_addable limit room = lanes_addable so_far more limit (rw all room)

    pub parts_added : {sums : List ℕ} → sums ≡ zip2 (λ a b. a + b) xs ys
        → AddsUp counted most size from (from + chunks * size) chunks sums
    parts_added added = as_many all (rw (parts_end from m n size all there) at
        (lanes_added so_far more added))

-- the lanes of one chunk, each with what f adds at its place
pub lanes_of_places : (f : ℕ → ℕ) {most size at : ℕ} {lanes : List ℕ} → ((j : ℕ) → f j ≤ most)
    → HasLanes size (λ j. f (at + j)) lanes → AddsUp (sum_below f) most size at (at + size) 1 lanes
lanes_of_places f {most} {size} {at} few h = record {
  long = h.long;
  small = Each1-lanes (λ lane. lane ≤ 1 * most) h (λ j l. omega (arith, few (at + j)));
  added = sum_below-chunk f at h;
}

-- The lanes of a chunk that say where the breaks of `Crlf` start.

-- the chunk of `text` at `at`, and one whose last lane says whether the byte before `place` is CR
pub record Loaded (text : List ℕ) (at size place : ℕ) (chunk before : List ℕ) : Type 0 where
  pub above : 0 < size
  pub within : at + size ≤ length text
  pub taken : chunk ≡ take size (drop at text)
  pub carried : drop (size - 1) before ≡ mark is_carriage_return (byte_before text place) ∷ []

-- a chunk is `Loaded` once it is loaded
pub loaded_by : {text : List ℕ} {at size place : ℕ} {chunk before : List ℕ} → chunk ≡ take size (drop at text)
    → drop (size - 1) before ≡ mark is_carriage_return (byte_before text place) ∷ [] → at + size ≤ length text
    → 4 ≤ size → Loaded text at size place chunk before
loaded_by taken carried within least = search arith

-- the place before which a lane sees a byte: `place` for the first, for the others their own
abbrev place_of : (at place lane : ℕ) → ℕ
place_of at place zero = place
place_of at place (suc j) = at + suc j

place_of-here : (at j : ℕ) → place_of at at j ≡ at + j
place_of-here at zero = rw add-zero refl
place_of-here at (suc j) = refl

place_of-later : (at place j : ℕ) → 0 < j → place_of at place j ≡ at + j
place_of-later at place zero later = absurd (omega arith)
place_of-later at place (suc j) later = refl

module _ {text : List ℕ} {at size place : ℕ} {chunk before : List ℕ} (loaded : Loaded text at size place chunk before) where
  -- 1 in each lane that passes a test
  marked : (test : ℕ → Bool) {lanes : List ℕ} → lanes ≡ map (mark test) chunk
      → HasLanes size (λ j. mark test (get_or text (at + j) 0)) lanes
  marked test made = lanes_loaded (mark test) text at size loaded.within loaded.taken made

  -- moved on by a lane, the lanes that are CR say where the byte before is
  shifted : {returns lanes : List ℕ} → returns ≡ map (mark is_carriage_return) chunk
      → lanes ≡ drop (size - 1) before ++ take (size - 1) returns
      → HasLanes size (λ j. mark is_carriage_return (byte_before text (place_of at place j))) lanes
  shifted {returns} made moved = rw (moved, loaded.carried)
      (grind (arith, loaded.above, length-take-le (size - 1) returns, (marked is_carriage_return made).long, lane))
    where
      lane : (j : ℕ) → j < size → get_or (mark is_carriage_return (byte_before text place) ∷ take (size - 1) returns) j
          0 ≡ mark is_carriage_return (byte_before text (place_of at place j))
      lane zero below = refl
      lane (suc j) below = rw add-suc (get_or-take (size - 1) returns j 0 (omega arith)
          ∙ (marked is_carriage_return made).each j (omega arith))

-- The lanes that the calls of a chunk leave, in the words of their contracts.
module _ {text : List ℕ} {at size place : ℕ} {chunk before returns : List ℕ}
    (is_returns : returns ≡ map (is_byte carriage_return) chunk) where
  -- the last lane says whether the last byte is CR
  pub last_is_return : Loaded text at size place chunk before
      → drop (size - 1) returns ≡ mark is_carriage_return (byte_before text (at + size)) ∷ []
  last_is_return loaded =
      let marks = marked loaded is_carriage_return is_returns in
      let last : at + size ≡ suc (at + (size - 1)) = omega (arith, loaded.above) in
      let empty = drop_of_length-le returns {i = suc (size - 1)} (omega (arith, marks.long)) in
      rw last (cc (drop-cons returns (size - 1) 0 (omega arith), empty, marks.each (size - 1) (omega arith)))

  module _ {feeds : List ℕ} (is_feeds : feeds ≡ map (is_byte line_feed) chunk) where
    -- no sum of the two passes a lane
    pub sums_fit : Loaded text at size place chunk before → Each2 (λ a b. a + b ≤ 255) feeds returns
    sums_fit loaded = Each2-lanes (λ a b. a + b ≤ 255) (marked loaded is_line_feed is_feeds)
        (marked loaded is_carriage_return is_returns) (λ j l. grind (arith, nat_tests))

    module _ {moved pairs both : List ℕ} (is_moved : moved ≡ drop (size - 1) before ++ take (size - 1) returns)
        (is_pairs : pairs ≡ zip2 bit_and moved feeds) (is_both : both ≡ zip2 (λ a b. a + b) feeds returns)
        (loaded : Loaded text at size place chunk before) where
      -- the lanes of the pairs CR LF
      pairs_are : HasLanes size (λ j. flag (is_carriage_return (byte_before text (place_of at place j)) && is_line_feed
          (get_or text (at + j) 0))) pairs
      pairs_are =
          lanes_and (λ j. is_carriage_return (byte_before text (place_of at place j))) (λ j. is_line_feed (get_or text (at + j) 0))
          (shifted loaded is_returns is_moved) (marked loaded is_line_feed is_feeds) is_pairs

      -- the lanes that are LF or CR
      both_are : HasLanes size (λ j. mark is_line_feed (get_or text (at + j) 0) + mark is_carriage_return
          (get_or text (at + j) 0)) both
      both_are = lanes_zip2 (λ a b. a + b) (marked loaded is_line_feed is_feeds)
          (marked loaded is_carriage_return is_returns) is_both

      -- no difference borrows
      pub pairs_fit : Each2 (λ a b. b ≤ a) both pairs
      pairs_fit = Each2-lanes (λ a b. b ≤ a) both_are pairs_are (λ j l. grind (arith, nat_tests))

      module _ {starts : List ℕ} (is_starts : starts ≡ zip2 (λ a b. a - b) both pairs) where
        -- the lanes where a break starts, if the byte before stands where the lane sees it
        starts_seen : HasLanes size (λ j. mark (starts_break (byte_before text (place_of at place j)))
            (get_or text (at + j) 0)) starts
        starts_seen = lanes_same (lanes_zip2 (λ a b. a - b) both_are pairs_are is_starts)
            (λ j l. grind (arith, nat_tests))

        pub starts_are : place ≡ at → HasLanes size (λ j. break_start text (at + j)) starts
        starts_are same = lanes_same starts_seen (λ j l. rw (same, place_of-here at j) refl)

        pub later_starts : HasLaterLanes size (λ j. break_start text (at + j)) starts
        later_starts = record {
          long = starts_seen.long;
          each = λ j later below. rw (place_of-later at place j later) at (starts_seen.each j below);
        }

-- The breaks of a chunk, lane by lane: those of one byte, then those of several, and those that cross its end.

-- the count at a byte of a chunk, if only those breaks of several bytes are seen that end in the chunk
abbrev pub inside_at : List ℕ → ℕ → ℕ → ℕ → ℕ
inside_at bytes at size j =
    narrow_break_at bytes (at + j) + next_line_at (take (at + size) bytes) (at + j) + separator_at
    (take (at + size) bytes) (at + j)

-- C2 and E2 are the bytes that are C2 without the bit in which they differ
begins_none : (b : ℕ) → is_byte 0xC2 (bit_and b 0xDF) ≡ 0 → ((b == 0xC2) ≡ false) × ((b == 0xE2) ≡ false)
begins_none b none = (is_not 0xC2 refl, is_not 0xE2 refl)
  where
    is_not : (a : ℕ) → is_byte 0xC2 (bit_and a 0xDF) ≡ 1 → (b == a) ≡ false
    is_not a one = grind (arith, nat_tests, none, one, λ (same : b ≡ a). ap (λ x. is_byte 0xC2 (bit_and x 0xDF)) same)

module _ {bytes : List ℕ} {at size : ℕ} {chunk : List ℕ} (least : 4 ≤ size)
    (is_chunk : IsChunk bytes at size chunk) where
  -- without CR the ASCII breaks are the breaks of one byte
  pub no_crlf : {ascii returns : List ℕ} → ascii ≡ map (is_between 0x09 0x0E) chunk
      → returns ≡ map (is_byte 0x0D) chunk → returns ≡ replicate size 0
      → HasLanes size (λ j. narrow_break_at bytes (at + j)) ascii
  no_crlf is_ascii is_returns none = lanes_same (lanes_map (is_between 0x09 0x0E) chunk is_chunk.long is_ascii)
      (λ j l. grind (arith, nat_tests, is_chunk.each j l, lane_is_not chunk is_chunk.long 0x0D is_returns none j l))

  module _ {ascii pairs : List ℕ} (is_ascii : ascii ≡ map (is_between 0x09 0x0E) chunk)
      (is_pairs : HasLanes size (λ j. flag (is_crlf (get_or chunk j 0) (get_or chunk (1 + j) 0))) pairs) where
    -- no lane borrows where the CRs before LF are taken off
    pub crlf_fits : Each2 (λ a b. b ≤ a) ascii pairs
    crlf_fits = Each2-lanes (λ a b. b ≤ a) (lanes_map (is_between 0x09 0x0E) chunk is_chunk.long is_ascii)
        is_pairs (λ j l. grind (arith, nat_tests))

    module _ {inside : List ℕ} (is_inside : inside ≡ zip2 (λ a b. a - b) ascii pairs) where
      -- the rest are the breaks of one byte as the chunk alone shows them
      inside_lanes : HasLanes size (narrow_break_at chunk) inside
      inside_lanes =
          let firsts = lanes_map (is_between 0x09 0x0E) chunk is_chunk.long is_ascii in
          lanes_same (lanes_zip2 (λ a b. a - b) firsts is_pairs is_inside) (λ j l. grind (arith, nat_tests))

      -- before the last lane these are the breaks of the text; in the last lane it is one more, if CR LF crosses the
      -- chunk's end
      inside_same : (j : ℕ) → j < size → (1 + j ≢ size → narrow_break_at chunk j ≡ narrow_break_at bytes (at + j)) ×
          (1 + j ≡ size → narrow_break_at chunk j ≡ narrow_break_at bytes (at + j) + flag
          (is_crlf (get_or bytes (at + (size - 1)) 0) (get_or bytes (1 + (at + (size - 1))) 0)))
      inside_same j l = grind (arith, nat_tests, is_chunk.each j l, is_chunk.each (1 + j), get_or_past chunk (1 + j) 0)

      -- if it does not, the lanes are right
      pub narrow_kept : is_crlf (get_or bytes (at + (size - 1)) 0) (get_or bytes (1 + (at + (size - 1))) 0) ≡ false
          → HasLanes size (λ j. narrow_break_at bytes (at + j)) inside
      narrow_kept none = lanes_same inside_lanes (λ j l. grind (arith, inside_same j l, ap flag none))

      -- if it does, the last lane is not 0
      pub last_is_counted : is_crlf (get_or bytes (at + (size - 1)) 0) (get_or bytes (1 + (at + (size - 1))) 0) ≡ true
          → 0 < get_or inside (size - 1) 0
      last_is_counted crosses = grind (arith, inside_lanes.each (size - 1), inside_same (size - 1), ap flag crosses)

      -- and one is taken from it
      pub narrow_crossing : {result : List ℕ}
          → is_crlf (get_or bytes (at + (size - 1)) 0) (get_or bytes (1 + (at + (size - 1))) 0) ≡ true
          → result ≡ slice_set inside (size - 1) (get_or inside (size - 1) 0 - 1)
          → HasLanes size (λ j. narrow_break_at bytes (at + j)) result
      narrow_crossing crosses is = lanes_set (size - 1) _ (omega arith) inside_lanes is
          (grind (arith, inside_lanes.each (size - 1), inside_same (size - 1), ap flag crosses))
          (λ j l other. grind (arith, inside_same j l, other))

  -- where no lane is C2 or E2, the breaks of one byte are all
  pub no_wide : {firsts narrows : List ℕ} → firsts ≡ map (λ lane. is_byte 0xC2 (bit_and lane 0xDF)) chunk
      → firsts ≡ replicate size 0 → HasLanes size (λ j. narrow_break_at bytes (at + j)) narrows
      → HasLanes size (λ j. break_at bytes (at + j)) narrows
  no_wide is_firsts none h =
      let found = rw none at (lanes_map (λ lane. is_byte 0xC2 (bit_and lane 0xDF)) chunk is_chunk.long is_firsts) in
      lanes_same h (λ j l. grind (
        arith,
        nat_tests,
        is_chunk.each j l,
        found.each j l,
        get_or-replicate {A = ℕ} size j 0 0,
        begins_none (get_or chunk j 0),
      ))

  -- a lane and past the last lane nothing, as in bytes that are seen up to the chunk's end
  lane_alone : (j : ℕ) → get_or chunk j 0 ≡ get_or (take (at + size) bytes) (at + j) 0
  lane_alone j = grind (arith, is_chunk.each j, is_chunk.long, get_or-take, get_or_past, length-take)

  module _ {narrows pairs : List ℕ} (is_narrow : HasLanes size (λ j. narrow_break_at bytes (at + j)) narrows)
      (is_pairs : HasLanes size (next_line_at chunk) pairs) where
    -- U+0085 fits beside the breaks of one byte
    pub next_lines_fit : Each2 (λ a b. a + b ≤ 255) narrows pairs
    next_lines_fit = Each2-lanes (λ a b. a + b ≤ 255) is_narrow is_pairs (λ j l. grind (arith, flag-le))

    module _ {sums : List ℕ} (is_sums : sums ≡ zip2 (λ a b. a + b) narrows pairs) where
      -- their sums
      with_next_lines : HasLanes size (λ j. narrow_break_at bytes (at + j) + next_line_at chunk j) sums
      with_next_lines = lanes_zip2 (λ a b. a + b) is_narrow is_pairs is_sums

      -- there is a lane for each byte
      pub sums_long : length sums ≡ size
      sums_long = with_next_lines.long

      -- and room for separators
      pub sums_small : Each1 (λ lane. lane < 255) sums
      sums_small = Each1-lanes (λ lane. lane < 255) with_next_lines (λ j l. grind (arith, flag-le))

      -- with them the lanes hold what is counted where no byte after the chunk is seen
      pub inside_counted : {inside : List ℕ} → HasLanes size (λ j. get_or sums j 0 + separator_at chunk j) inside
          → HasLanes size (inside_at bytes at size) inside
      inside_counted h = lanes_same h (λ j l. grind (arith, with_next_lines.each j l, lane_alone))

module _ {size : ℕ} (chunk : List ℕ) (least : 4 ≤ size) (long : length chunk ≡ size) where
  -- the lanes that begin a separator of which all three bytes are in the chunk
  pub separator_lanes : {pairs ends thirds found : List ℕ}
      → HasLanes size (λ j. flag (get_or chunk j 0 == 0xE2 && get_or chunk (1 + j) 0 == 0x80)) pairs
      → ends ≡ map (λ lane. flag (ends_separator lane)) chunk → thirds ≡ drop 2 ends ++ replicate 2 0
      → found ≡ zip2 bit_and pairs thirds → HasLanes size (separator_at chunk) found
  separator_lanes is_pairs is_ends is_thirds is_found =
      lanes_and (λ j. get_or chunk j 0 == 0xE2 && get_or chunk (1 + j) 0 == 0x80)
      (λ j. ends_separator (get_or chunk (2 + j) 0)) is_pairs
      (lanes_shift 2 (omega arith) (λ j past. rw (get_or_past chunk j 0 (omega (arith, long))) refl)
      (lanes_map (λ lane. flag (ends_separator lane)) chunk long is_ends) is_thirds) is_found

  -- they fit in lanes that have room
  pub separators_fit : (breaks : List ℕ) {found : List ℕ} → Each1 (λ lane. lane < 255) breaks
      → HasLanes size (separator_at chunk) found → Each2 (λ a b. a + b ≤ 255) breaks found
  separators_fit breaks {found} room h = Each2-of _ _ _ (λ a b small one. omega arith) breaks found room
      (Each1-lanes (λ lane. lane ≤ 1) h (λ j l. grind (arith, flag-le)))

  -- without their first byte there is none
  pub no_separators : {breaks firsts : List ℕ} → length breaks ≡ size → firsts ≡ map (is_byte 0xE2) chunk
      → firsts ≡ replicate size 0 → HasLanes size (λ j. get_or breaks j 0 + separator_at chunk j) breaks
  no_separators as_long is_firsts none = lanes_same (lanes_of as_long)
      (λ j l. rw (lane_is_not chunk long 0xE2 is_firsts none j l) (omega arith))

module _ (bytes : List ℕ) (at size : ℕ) {breaks : List ℕ} (least : 4 ≤ size)
    (counted : HasLanes size (inside_at bytes at size) breaks) where
  -- a lane has room for one more
  pub lane_small : (j : ℕ) → j < size → get_or breaks j 0 < 255
  lane_small j l = grind (arith, counted.each j l, flag-le)

  -- before the last two lanes all is counted; at the last but one a separator may cross the chunk's end, and at the
  -- last any break of several bytes
  counted_at : (j : ℕ) → (2 + j < size → inside_at bytes at size j ≡ break_at bytes (at + j)) ×
      ((2 + j ≡ size → inside_at bytes at size j + separator_at bytes (at + j) ≡ break_at bytes (at + j)) ×
      (1 + j ≡ size → inside_at bytes at size j + (next_line_at bytes (at + j) + separator_at bytes (at + j))
      ≡ break_at bytes (at + j)))
  counted_at j = grind (arith, nat_tests, get_or-take, get_or_past, length-take)

  -- where the last byte is the second of a separator
  module _ {before next : ℕ} (second : get_or bytes (at + (size - 1)) 0 ≡ 0x80)
      (is_before : before ≡ get_or bytes (at + (size - 1) - 1) 0)
      (is_next : next ≡ get_or bytes (1 + (at + (size - 1))) 0) where
    -- no break of several bytes begins at it, and a separator before it is told by the bytes beside it
    at_second : (j : ℕ) → (1 + j ≡ size → next_line_at bytes (at + j) + separator_at bytes (at + j) ≡ 0) ×
        (2 + j ≡ size → separator_at bytes (at + j) ≡ flag (is_separator before 0x80 next))
    at_second j = (λ last. grind (arith, nat_tests), λ here. grind arith)

    -- where it is none, nothing is to be done
    pub separator_kept : is_separator before 0x80 next ≡ false → HasLanes size (λ j. break_at bytes (at + j)) breaks
    separator_kept stays = lanes_same counted (λ j l. grind (arith, counted_at j, at_second j, ap flag stays))

    -- where it is one, the last lane but one gains it
    pub separator_crosses : {result : List ℕ} → is_separator before 0x80 next ≡ true
        → result ≡ slice_set breaks (size - 1 - 1) (get_or breaks (size - 1 - 1) 0 + 1)
        → HasLanes size (λ j. break_at bytes (at + j)) result
    separator_crosses crosses is = lanes_set (size - 1 - 1) _ (omega arith) counted is
        (grind (arith, counted.each, counted_at (size - 1 - 1), at_second (size - 1 - 1), ap flag crosses))
        (λ j l other. grind (arith, counted_at j, at_second j, other))

  -- where it is not
  module _ (other : get_or bytes (at + (size - 1)) 0 ≢ 0x80) where
    -- no separator begins before it
    no_separator_here : (j : ℕ) → 2 + j ≡ size → separator_at bytes (at + j) ≡ 0
    no_separator_here j here = grind (arith, nat_tests)

    -- where no break of several bytes begins at it, nothing is to be done
    pub wide_kept : next_line_at bytes (at + (size - 1)) + separator_at bytes (at + (size - 1)) ≡ 0
        → HasLanes size (λ j. break_at bytes (at + j)) breaks
    wide_kept none = lanes_same counted (λ j l. grind (arith, counted_at j, no_separator_here j))

    -- where one does, the last lane gains it
    pub wide_crosses : {result : List ℕ}
        → next_line_at bytes (at + (size - 1)) + separator_at bytes (at + (size - 1)) ≡ 1
        → result ≡ slice_set breaks (size - 1 - 0) (get_or breaks (size - 1 - 0) 0 + 1)
        → HasLanes size (λ j. break_at bytes (at + j)) result
    wide_crosses wide is = lanes_set (size - 1 - 0) _ (omega arith) counted is
        (grind (arith, counted.each (size - 1 - 0), counted_at (size - 1 - 0)))
        (λ j l elsewhere. grind (arith, counted_at j, no_separator_here j, elsewhere))

-- a byte is A8 or A9 exactly where its half is 54
half_ends : (half lane : ℕ) → half % 128 ≡ lane / 2 → is_byte 0x54 (bit_and half 0x7F) ≡ flag (ends_separator lane)
half_ends half lane same = rw (and_mask half 7, same) (grind (arith, nat_tests))

-- so for each lane: it is A8 or A9 exactly where its half is 54
pub halves_end : (lanes halves : List ℕ) → map (λ lane. lane % 2 ^ (8 - 1)) halves ≡ map (λ lane. lane / 2 ^ 1) lanes
    → map (λ lane. is_byte 0x54 (bit_and lane 0x7F)) halves ≡ map (λ lane. flag (ends_separator lane)) lanes
halves_end [] [] same = refl
halves_end [] (half ∷ halves) same = cc
halves_end (lane ∷ lanes) [] same = cc
halves_end (lane ∷ lanes) (half ∷ halves) same = cc (half_ends half lane cc, halves_end lanes halves cc)
