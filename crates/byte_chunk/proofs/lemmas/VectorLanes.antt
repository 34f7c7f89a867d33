-- The results of operations on vectors, as lists of lanes.
use Rattle.byte_chunk.proofs.lemmas.Common.{◌≡◌, ℕ, zero, suc, ◌+◌, ◌≤◌, List, [], ◌∷◌, ◌++◌, Bool, true, false, ◌&&◌, cond, eqb, ltb, map, length, replicate, take, drop, Fits, w8, w64, refl, sym, ap, ap₂, ◌∙◌, arith, bit_and, bit_or, length-append, length-drop, zip2, sel_l, top, pick_l, fold_l, Steps, Each1, Each2, append_assoc, take-append-drop, take_at, drop-append-le, length-take-le, add_comm, and_comm, le_or_l, le_or_r, zip2_splat, zip2_splat_left, zip2_of_maps, pick_l-range_with_len, sum_bound, sum_fits, bytes_below, is_byte, is_between}
use Rattle.std.specs.List.{range_with_len}

-- `is_zero`: where no lane has a bit, each lane is 0
pub no_bits : (bits : ℕ) (lanes : List ℕ) → fold_l bit_or bits lanes ≡ 0
    → (bits ≡ 0) × (lanes ≡ replicate (length lanes) 0)
no_bits bits [] none = (none, refl)
no_bits bits (lane ∷ lanes) none =
    let (both, rest) = no_bits (bit_or bits lane) lanes none in (
      omega (arith, le_or_l bits lane),
      ap₂ (λ lane lanes. lane ∷ lanes) (omega (arith, le_or_r bits lane)) rest,
    )

-- and lanes that are 0 have none
pub no_bits_of_zeros : (n : ℕ) → fold_l bit_or 0 (replicate n 0) ≡ 0
no_bits_of_zeros zero = refl
no_bits_of_zeros (suc n) = no_bits_of_zeros n

-- 1 where the mask of a lane has its top bit, by the test that the bit tells
marked : (test : ℕ → Bool) (mask_of : ℕ → ℕ) → ((lane : ℕ) → top 7 (mask_of lane) ≡ test lane) → (lanes : List ℕ)
    → sel_l {A = ℕ} (map (top 7) (map mask_of lanes)) (replicate (length lanes) 1) (replicate (length lanes) 0)
    ≡ map (λ lane. cond (test lane) 1 0) lanes
marked test mask_of same [] = refl
marked test mask_of same (lane ∷ lanes) =
    ap₂ (λ mark marks. mark ∷ marks) (ap (λ t. cond t 1 0) (same lane)) (marked test mask_of same lanes)

-- so it is with masks that are made lane by lane
marks : (test : ℕ → Bool) (mask_of : ℕ → ℕ) → ((lane : ℕ) → top 7 (mask_of lane) ≡ test lane)
    → (n : ℕ) (lanes masks : List ℕ) → length lanes ≡ n → masks ≡ map mask_of lanes
    → sel_l {A = ℕ} (map (top 7) masks) (replicate n 1) (replicate n 0) ≡ map (λ lane. cond (test lane) 1 0) lanes
marks test mask_of same n lanes masks long are = rw (are, ← long) (marked test mask_of same lanes)

-- a mask is 255 or 0, and its top bit tells which
top_of : (t : Bool) → top 7 (cond t 255 0) ≡ t
top_of true = refl
top_of false = refl

-- of two masks, where both are 255
top_of_both : (s t : Bool) → top 7 (bit_and (cond s 255 0) (cond t 255 0)) ≡ (s && t)
top_of_both true true = refl
top_of_both true false = refl
top_of_both false true = refl
top_of_both false false = refl

-- `cmp_eq_byte`: 1 in each lane that is b, and 0 in the others
pub marks_of_byte : (n b : ℕ) (lanes : List ℕ) → length lanes ≡ n
    → sel_l {A = ℕ} (map (top 7) (zip2 (λ x y. cond (eqb x y) 255 0) lanes (replicate n b))) (replicate n 1)
    (replicate n 0) ≡ map (is_byte b) lanes
marks_of_byte n b lanes long =
    let mask : ℕ → ℕ → ℕ = λ x y. cond (eqb x y) 255 0 in
    marks (λ lane. eqb lane b) (λ lane. mask lane b) (λ lane. top_of (eqb lane b)) n lanes _ long
    (zip2_splat mask lanes n b long)

-- `bytes_between_127`: 1 in each lane between a and b, and 0 in the others
pub marks_between : (n a b : ℕ) (lanes : List ℕ) → length lanes ≡ n
    → let less : ℕ → ℕ → ℕ = λ x y. cond (ltb x y) 255 0 in
    sel_l {A = ℕ} (map (top 7) (zip2 bit_and (zip2 less (replicate n a) lanes) (zip2 less lanes (replicate n b))))
    (replicate n 1) (replicate n 0) ≡ map (is_between a b) lanes
marks_between n a b lanes long =
    let less : ℕ → ℕ → ℕ = λ x y. cond (ltb x y) 255 0 in
    let above : ℕ → ℕ = less a in
    let below : ℕ → ℕ = λ lane. less lane b in
    marks (λ lane. ltb a lane && ltb lane b) (λ lane. bit_and (above lane) (below lane))
    (λ lane. top_of_both (ltb a lane) (ltb lane b)) n lanes _ long
    (zip2_of_maps bit_and above below lanes (zip2_splat_left less a n lanes long) (zip2_splat less lanes n b long))

-- `add`: sums that are at most 255 fit in a lane
pub sums_fit : (xs ys : List ℕ) → Each2 (λ x y. x + y ≤ 255) xs ys → Each2 (λ x y. Fits w8 (x + y)) xs ys
sums_fit [] ys small = tt
sums_fit (x ∷ xs) [] small = tt
sums_fit (x ∷ xs) (y ∷ ys) (here, rest) = (record { fits = omega arith }, sums_fit xs ys rest)

-- two chunks may be exchanged where a call adds them or takes the bits of both
exchanged : (op : ℕ → ℕ → ℕ) → ((x y : ℕ) → op x y ≡ op y x) → (xs ys : List ℕ) → zip2 op ys xs ≡ zip2 op xs ys
exchanged op same [] [] = refl
exchanged op same [] (y ∷ ys) = refl
exchanged op same (x ∷ xs) [] = refl
exchanged op same (x ∷ xs) (y ∷ ys) = ap₂ (λ l ls. l ∷ ls) (same y x) (exchanged op same xs ys)

pub bits_exchanged : {zs : List ℕ} (xs ys : List ℕ) → zs ≡ zip2 bit_and ys xs → zs ≡ zip2 bit_and xs ys
bits_exchanged xs ys is = is ∙ exchanged bit_and and_comm xs ys

pub sums_exchanged : {zs : List ℕ} (xs ys : List ℕ) → zs ≡ zip2 (λ x y. x + y) ys xs → zs ≡ zip2 (λ x y. x + y) xs ys
sums_exchanged xs ys is = is ∙ exchanged (λ x y. x + y) add_comm xs ys

pub room_exchanged : (limit : ℕ) (xs ys : List ℕ) → Each2 (λ x y. x + y ≤ limit) ys xs → Each2 (λ x y. x + y ≤ limit) xs ys
room_exchanged limit [] [] room = room
room_exchanged limit [] (y ∷ ys) room = tt
room_exchanged limit (x ∷ xs) [] room = tt
room_exchanged limit (x ∷ xs) (y ∷ ys) room = (omega (arith, room.0), room_exchanged limit xs ys room.1)

pub ruleset added_either_way = (sums_exchanged, room_exchanged)

-- the lanes of a vector cast to wider ones
widened : (lanes : List ℕ) → map (λ lane. lane) lanes ≡ lanes
widened [] = refl
widened (lane ∷ lanes) = ap (λ rest. lane ∷ rest) (widened lanes)

-- `sum_bytes`: no sum of at most 64 bytes is above 64 bits
pub total_fits : (lanes : List ℕ) → Each1 (Fits w8) lanes → length lanes ≤ 64
    → Steps (λ sum lane. Fits w64 (sum + lane)) (λ sum lane. sum + lane) 0 (map (λ lane. lane) lanes)
total_fits lanes fits few =
    rw (widened lanes) (sum_fits w64 0 lanes (omega (arith, sum_bound 255 lanes (bytes_below lanes fits))))

-- a shuffle that takes the n lanes from place k on, of two vectors in a row
pub shuffled_from : (k n : ℕ) (xs ys : List ℕ) → length xs ≡ n → length ys ≡ n → k ≤ n
    → pick_l 0 (xs ++ ys) (range_with_len k n) ≡ drop k xs ++ take k ys
shuffled_from k n xs ys long long' few =
    let parts : drop k (xs ++ ys) ≡ (drop k xs ++ take k ys) ++ drop k ys =
    drop-append-le k xs ys (omega arith) ∙ ap (λ l. drop k xs ++ l) (sym (take-append-drop k ys))
    ∙ sym (append_assoc (drop k xs) (take k ys) (drop k ys)) in
    pick_l-range_with_len 0 (xs ++ ys) k n (omega (arith, length-append xs ys))
    ∙ ap (take n) parts
    ∙ take_at (drop k xs ++ take k ys) (drop k ys) n
    (omega (arith, length-append (drop k xs) (take k ys), length-drop k xs, length-take-le k ys))
