-- The bytes of a text, and what its chars, boundaries and ends are in bytes.
use Rattle.str_indices.proofs.lemmas.Common.{◌≡◌, ℕ, zero, suc, ◌+◌, ◌-◌, ◌<◌, ◌≤◌, Bool, List, refl, arith, add-one, add-suc, add-zero, ap, not, sum_below, passing_before, IsSteady, ◌/◌, ◌%◌, [], ◌∷◌, ◌++◌, All, true, false, length, get_or, sym, ◌∙◌, bit_and, encode, scalar, scalar_cases, scalars, cond_both, ltb-true, ltb-false, lt-ltb, le-ltb, agree_below_at, lt-leb, le-leb, and_parts, ◌==◌, ◌&&◌, nat_le, nat_lt, len_utf8, get_or-append-add, get_or_append_left, All-nil, All-cons, length-encode, is_trailing, take, chars, IsUtf8, sum_by, encodes, len_utf8_bounds, encodes-chars, scalars-chars, encodes-append, length-append, take_at, append-nil, size, cut, flag, IsBoundary, drop, IsCharBoundary, take-append-drop, length-take-le, chars-append, IsUtf8-take, IsCharBoundary-after_ascii, inl, inr, ap₂, char_set_contains, cases_lt, ne_eqb, eqb-true, nat_tests, get_or_past, encode_ascii, line_feed, carriage_return, Scheme, break_characters, end_count, ends_up_to, ends_in_return, joins_crlf, is_line_feed, is_carriage_return, byte_before, is_middle, ◌≢◌, chars-nil, All-head, All-tail, starts_with_feed}
use Rattle.str_indices.proofs.lemmas.Texts.{size-cons, total, total_front, total-append, total_front_alone, cut_is, cut_all, cut_front, size-append, boundary-le-cut, IsBoundary-start, end_weight, ends_up_to_cut}
use Rattle.std.proofs.Math.Bool.{and-true}
use Rattle.str_indices.proofs.lemmas.Seams.{HasReturn, ends_in_return-cons, ends_in_return-one, starts_with_feed_is, end_count-cut_seam, ends_in_return-append}

-- Sums of a number at each place.

-- up to m and then n places more
pub sum_below-add : (f : ℕ → ℕ) (m n : ℕ) → sum_below f (m + n) ≡ sum_below f m + sum_below (λ j. f (m + j)) n
sum_below-add f m zero = rw add-zero (omega arith)
sum_below-add f m (suc n) = rw add-suc (omega (arith, sum_below-add f m n))

-- one place more
pub sum_below-next : (f : ℕ → ℕ) (n : ℕ) → sum_below f (n + 1) ≡ sum_below f n + f n
sum_below-next f n = rw add-one (omega arith)

-- the place 0, and then the others
pub sum_below-front : (f : ℕ → ℕ) (n : ℕ) → sum_below f (suc n) ≡ f 0 + sum_below (λ j. f (suc j)) n
sum_below-front f zero = omega arith
sum_below-front f (suc n) = omega (arith, sum_below-front f n)

-- numbers that agree below n have one sum there
pub sum_below-same : (f g : ℕ → ℕ) (n : ℕ) → ((j : ℕ) → j < n → f j ≡ g j) → sum_below f n ≡ sum_below g n
sum_below-same f g zero same = refl
sum_below-same f g (suc n) same =
    omega (arith, sum_below-same f g n (λ j h. same j (omega arith)), same n (omega arith))

-- with at most one at each place, the sum is at most the number of places
pub sum_below-le : (f : ℕ → ℕ) → ((j : ℕ) → f j ≤ 1) → (n : ℕ) → sum_below f n ≤ n
sum_below-le f one zero = omega arith
sum_below-le f one (suc n) = omega (arith, one n, sum_below-le f one n)

-- n places more add at most n
pub sum_below-more : (f : ℕ → ℕ) → ((j : ℕ) → f j ≤ 1) → (m n : ℕ) → sum_below f (m + n) ≤ sum_below f m + n
sum_below-more f one m n = omega (arith, sum_below-add f m n, sum_below-le (λ j. f (m + j)) (λ j. one (m + j)) n)

-- so it is steady, as code asks for it
pub ones_steady : (f : ℕ → ℕ) → ((j : ℕ) → f j ≤ 1) → (n : ℕ) → IsSteady (sum_below f) n
ones_steady f one n = record {
  fits = λ place within. omega (arith, sum_below-le f one place);
  near = λ at more within. omega (arith, sum_below-more f one at more);
}

-- the first place before which k are counted has no more than k before it
pub sum_below-first : (f : ℕ → ℕ) → ((j : ℕ) → f j ≤ 1) → (k at : ℕ) → ((d : ℕ) → d < at → sum_below f d < k)
    → sum_below f at ≤ k
sum_below-first f one k zero first = omega arith
sum_below-first f one k (suc n) first = omega (arith, first n (omega arith), one n)

module _ (test : ℕ → Bool) (bytes : List ℕ) where
  -- each byte passes a test or doesn't
  pub passing_or_not : (n : ℕ) → passing_before (λ b. not (test b)) bytes n + passing_before test bytes n ≡ n
  passing_or_not zero = refl
  passing_or_not (suc n) = grind (arith, passing_or_not n)

-- a sum over more places is no less
pub sum_below-le-sum_below : (f : ℕ → ℕ) (m n : ℕ) → m ≤ n → sum_below f m ≤ sum_below f n
sum_below-le-sum_below f m n le =
    let whole : m + (n - m) ≡ n = omega arith in
    omega (arith, sum_below-add f m (n - m), ap (sum_below f) whole)

-- where the sum up to a place is below k, so it is up to an earlier one
pub sum_below-earlier : (f : ℕ → ℕ) (k at d : ℕ) → sum_below f at < k → d ≤ at → sum_below f d < k
sum_below-earlier f k at d below before = omega (arith, sum_below-le-sum_below f d at before)

-- places that add nothing leave a sum as it is
pub sum_below-still : (f : ℕ → ℕ) (m n : ℕ) → ((j : ℕ) → j < n → f (m + j) ≡ 0) → sum_below f (m + n) ≡ sum_below f m
sum_below-still f m zero none = rw add-zero refl
sum_below-still f m (suc n) none = rw add-suc
    (omega (arith, sum_below-still f m n (λ j h. none j (omega arith)), none n (omega arith)))

-- The bytes of one char.

-- a byte of a char that is not its first
pub record IsTrailing (b : ℕ) : Type 0 where
  pub low : 128 ≤ b
  pub high : b < 192

-- six bits of a char under the mark of a trailing byte
trailing : (n : ℕ) → IsTrailing (128 + n % 64)
trailing n = omega arith

-- if P holds of the bytes of chars of each size, it holds of the bytes of each char
pub by_size : (P : List ℕ → Type 0) (c : ℕ) → scalar c ≡ true → (c < 128 → P (c ∷ []))
    → (128 ≤ c → c < 2048 → P ((192 + c / 64) ∷ (128 + c % 64) ∷ []))
    → (2048 ≤ c → c < 65536 → P ((224 + c / 4096) ∷ (128 + c / 64 % 64) ∷ (128 + c % 64) ∷ []))
    → (65536 ≤ c → c < 1114112
    → P ((240 + c / 262144) ∷ (128 + c / 4096 % 64) ∷ (128 + c / 64 % 64) ∷ (128 + c % 64) ∷ []))
    → P (encode c)
unfolding encode
by_size P c s one two three four = cond_both _ _ _ P (λ a. one (ltb-true c 128 a)) (λ a.
    cond_both _ _ _ P (λ b. two (ltb-false c 128 a) (ltb-true c 2048 b)) (λ b.
    cond_both _ _ _ P (λ d. three (ltb-false c 2048 b) (ltb-true c 65536 d)) (λ d.
    four (ltb-false c 65536 d) (omega (arith, scalar_cases c s)))))

-- the bytes of a char that takes several: its first, and the others
pub record IsWide (c first : ℕ) (others : List ℕ) : Type 0 where
  pub from : 128 ≤ c
  pub low : 192 ≤ first
  pub high : first < 256
  pub trailing : All IsTrailing others

-- if P holds of a byte that is a char, and of the bytes of a char that takes several, it holds of the bytes
-- of each char
pub by_width : (P : List ℕ → Type 0) (c : ℕ) → scalar c ≡ true → (c < 128 → P (c ∷ []))
    → ((first : ℕ) (others : List ℕ) → IsWide c first others → P (first ∷ others)) → P (encode c)
by_width P c s one wide = by_size P c s one
    (λ from below. wide _ _ (search (arith, All-nil, All-cons, trailing)))
    (λ from below. wide _ _ (search (arith, All-nil, All-cons, trailing)))
    (λ from below. wide _ _ (search (arith, All-nil, All-cons, trailing)))

-- the mask of a trailing byte, as a range
trailing_range : (b : ℕ) → b < 256 → (bit_and b 192 == 128) ≡ (nat_le 128 b && nat_lt b 192)
trailing_range b h = agree_below_at (λ x. bit_and x 192 == 128) (λ x. nat_le 128 x && nat_lt x 192) 256 b refl h

-- a byte of that range is a trailing byte
pub is_trailing_later : (b : ℕ) → IsTrailing b → is_trailing b ≡ true
is_trailing_later b t = rw (trailing_range b (omega (arith, t.high)), le-leb 128 b t.low, lt-ltb b 192 t.high)

-- the bytes after a char
pub get_or-behind : (c : ℕ) (bytes : List ℕ) (j k : ℕ) → k ≡ len_utf8 c + j
    → get_or (encode c ++ bytes) k 0 ≡ get_or bytes j 0
get_or-behind c bytes j k e = rw (e, ← length-encode c) (get_or-append-add (encode c) bytes j 0)

-- every byte of a char after its first is a trailing byte
pub later_trailing : (c : ℕ) → scalar c ≡ true → (rest : List ℕ) (j : ℕ) → 0 < j → j < len_utf8 c
    → IsTrailing (get_or (encode c ++ rest) j 0)
later_trailing c s rest zero above below = absurd (omega arith)
later_trailing c s rest (suc j) above below = by_width
    (λ bs. suc j < length bs → IsTrailing (get_or (bs ++ rest) (suc j) 0)) c s (λ a l. absurd (omega arith))
    (λ first others wide l. rw (get_or_append_left others rest 0 j (omega arith)) (wide.trailing j 0 (omega arith)))
    (omega (arith, length-encode c))

-- the first byte of a char is no trailing byte
pub first_byte : (c : ℕ) (rest : List ℕ) → scalar c ≡ true → is_trailing (get_or (encode c ++ rest) 0 0) ≡ false
first_byte c rest s = by_width (λ bs. is_trailing (get_or (bs ++ rest) 0 0) ≡ false) c s
    (λ ascii. rw (trailing_range c (omega arith), lt-leb 128 c ascii))
    (λ b others wide. rw (trailing_range b wide.high, le-leb 128 b (omega arith), le-ltb b 192 wide.low))

-- the chars of both parts of a text are scalar values
pub scalars_parts : (front back : List ℕ) → scalars (front ++ back) ≡ true
    → (scalars front ≡ true) × (scalars back ≡ true)
scalars_parts [] back s = (refl, s)
scalars_parts (c ∷ front) back s =
    let parts = and_parts (scalar c) (scalars (front ++ back)) s in rw parts.0 (scalars_parts front back parts.1)

-- a look at byte i tells whether it is a trailing byte of `text`, if the text that is seen is `text`
pub byte_seen : (text seen : List ℕ) (i byte : ℕ) (trails : Bool) → seen ≡ text → byte ≡ get_or seen i 0
    → trails ≡ is_trailing byte → is_trailing (get_or text i 0) ≡ trails
byte_seen text seen i byte trails same is tested = ap is_trailing (sym (is ∙ ap (λ t. get_or t i 0) same)) ∙ sym tested

-- A sum over the bytes of a text as a sum over its chars, in the whole text and in a cut text.

-- 1 at a byte where a test of it and of the two bytes after it passes, else 0
abbrev pub counted_at : (ℕ → ℕ → ℕ → Bool) → List ℕ → ℕ → ℕ
counted_at test bytes j = flag (test (get_or bytes j 0) (get_or bytes (1 + j) 0) (get_or bytes (2 + j) 0))

-- such a test counts v of each char at its first byte; v may read the chars after its own
pub record AddsAtFirst (test : ℕ → ℕ → ℕ → Bool) (v : ℕ → List ℕ → ℕ) : Type 0 where
  pub first : (c : ℕ) (cs : List ℕ) → scalar c ≡ true → scalars cs ≡ true
      → counted_at test (encode c ++ encodes cs) 0 ≡ v c cs
  pub later : (b next after : ℕ) → IsTrailing b → flag (test b next after) ≡ 0

-- a text takes as many bytes as it has
length-encodes : (cs : List ℕ) → length (encodes cs) ≡ size cs
length-encodes [] = refl
length-encodes (c ∷ cs) =
    omega (arith, length-append (encode c) (encodes cs), length-encode c, length-encodes cs, size-cons c cs)

-- the cut text at a boundary takes the bytes before it
pub size-cut : (cs : List ℕ) (end : ℕ) → IsBoundary cs end → size (cut cs end) ≡ end
size-cut cs end b = ap size (cut_front cs end b) ∙ b.place

module _ (bytes : List ℕ) (utf8 : IsUtf8 bytes) where
  -- the size of the text that some bytes are
  pub size-chars : size (chars bytes) ≡ length bytes
  size-chars = sym (length-encodes (chars bytes)) ∙ ap length (encodes-chars bytes utf8)

  -- the bytes of a text that is split, split alike
  pub encodes-split : (front back : List ℕ) → chars bytes ≡ front ++ back → bytes ≡ encodes front ++ encodes back
  encodes-split front back split = sym (encodes-chars bytes utf8) ∙ ap encodes split ∙ encodes-append front back

  -- the byte at a boundary is the first of the rest
  pub get_or-at_boundary : (p : ℕ) (b : IsBoundary (chars bytes) p) → get_or bytes p 0 ≡ get_or (encodes b.back) 0 0
  get_or-at_boundary p b =
      let place : p ≡ length (encodes b.front) + 0 = omega (arith, b.place, length-encodes b.front) in
      rw (encodes-split b.front b.back b.split, place) (get_or-append-add (encodes b.front) (encodes b.back) 0 0)

  -- the end of a text is a boundary
  pub boundary_at_end : IsBoundary (chars bytes) (length bytes)
  boundary_at_end =
      record { front = chars bytes; back = []; split = sym (append-nil (chars bytes)); place = size-chars }

  -- cut at its end, a text is whole
  pub cut_at_end : cut (chars bytes) (length bytes) ≡ chars bytes
  cut_at_end = cut_all (chars bytes) (length bytes) (omega (arith, size-chars))

module _ (test : ℕ → ℕ → ℕ → Bool) (v : ℕ → List ℕ → ℕ) (adds : AddsAtFirst test v) where
  -- at the bytes after a char as much is counted as without it
  counted_behind : (c : ℕ) (bytes : List ℕ) (j : ℕ)
      → counted_at test (encode c ++ bytes) (len_utf8 c + j) ≡ counted_at test bytes j
  counted_behind c bytes j = rw (
    get_or-behind c bytes j (len_utf8 c + j) refl,
    get_or-behind c bytes (1 + j) (1 + (len_utf8 c + j)) (omega arith),
    get_or-behind c bytes (2 + j) (2 + (len_utf8 c + j)) (omega arith),
  )

  -- at the bytes of a char v of it is counted
  walk_first : (c : ℕ) (cs : List ℕ) → scalar c ≡ true → scalars cs ≡ true
      → sum_below (counted_at test (encode c ++ encodes cs)) (len_utf8 c) ≡ v c cs
  walk_first c cs s t =
      let f = counted_at test (encode c ++ encodes cs) in
      let whole : 1 + (len_utf8 c - 1) ≡ len_utf8 c = omega (arith, len_utf8_bounds c) in
      let still = sum_below-still f 1 (len_utf8 c - 1) (λ j l. adds.later _ _ _
      (later_trailing c s (encodes cs) (1 + j) (omega arith) (omega arith))) in
      omega (arith, rw whole at still, adds.first c cs s t)

  -- at the bytes of a beginning v of each of its chars is counted
  walk_front : (front back : List ℕ) → scalars (front ++ back) ≡ true
      → sum_below (counted_at test (encodes (front ++ back))) (size front) ≡ total_front v front back
  walk_front [] back s = refl
  walk_front (c ∷ front) back s =
      let parts = and_parts (scalar c) (scalars (front ++ back)) s in
      let rest = encodes (front ++ back) in
      let f = counted_at test (encode c ++ rest) in
      let first = walk_first c (front ++ back) parts.0 parts.1 in
      let same = sum_below-same (λ j. f (len_utf8 c + j)) (counted_at test rest) (size front)
      (λ j _. counted_behind c rest j) in
      rw size-cons (omega (arith, sum_below-add f (len_utf8 c) (size front), walk_front front back parts.1))

  -- the count before the place where the text is cut is the sum of v over the chars before it
  pub walk_to_cut : (bytes : List ℕ) → IsUtf8 bytes → (end : ℕ)
      → sum_below (counted_at test bytes) (size (cut (chars bytes) end))
      ≡ total_front v (cut (chars bytes) end) (cut_is (chars bytes) end).rest
  walk_to_cut bytes utf8 end =
      let front = cut (chars bytes) end in
      let parts = cut_is (chars bytes) end in
      ap (λ t. sum_below (counted_at test t) (size front)) (sym (encodes-chars bytes utf8) ∙ ap encodes parts.split)
      ∙ walk_front front parts.rest (rw parts.split at (scalars-chars bytes utf8))

  -- the count before a boundary, in the bytes that are cut off there, is the sum of v over the chars of the cut
  -- text
  pub walk_to_boundary : (bytes : List ℕ) → IsUtf8 bytes → (end : ℕ) → IsBoundary (chars bytes) end
      → sum_below (counted_at test (take end bytes)) end ≡ total v (cut (chars bytes) end)
  walk_to_boundary bytes utf8 end b =
      let all = (scalars_parts b.front b.back (rw b.split at (scalars-chars bytes utf8))).0 in
      let same = append-nil b.front in
      let walked = rw same at (walk_front b.front [] (rw same all)) in
      let whole = total-append v b.front [] in
      let before = ap (take end) (encodes-split bytes utf8 b.front b.back b.split)
      ∙ take_at (encodes b.front) (encodes b.back) end (length-encodes b.front ∙ b.place) in
      rw (before, cut_front (chars bytes) end b, ← b.place) (omega (arith, ap (total v) same))

-- where v is f of the char alone, nothing need be cut off
pub bytes_to_boundary : (test : ℕ → ℕ → ℕ → Bool) (f : ℕ → ℕ) → AddsAtFirst test (λ c _. f c)
    → (bytes : List ℕ) → IsUtf8 bytes → (end : ℕ) → IsBoundary (chars bytes) end
    → sum_below (counted_at test bytes) end ≡ sum_by f (cut (chars bytes) end)
bytes_to_boundary test f adds bytes utf8 end b =
    let cs = chars bytes in
    ap (sum_below (counted_at test bytes)) (sym (size-cut cs end b))
    ∙ walk_to_cut test (λ c _. f c) adds bytes utf8 end
    ∙ total_front_alone (λ c _. f c) f (λ c after. refl) (cut cs end) (cut_is cs end).rest

-- a text cut at its end, as the search takes it
pub ruleset whole_text = (cut_at_end, boundary_at_end)

-- Boundaries of a text, by its bytes: where the byte is no trailing byte.

-- where a text is cut is a boundary
unfoldable pub cut_boundary : (cs : List ℕ) (end : ℕ) → IsBoundary cs (size (cut cs end))
cut_boundary cs end = let parts = cut_is cs end in
    record { front = cut cs end; back = parts.rest; split = parts.split; place = refl }

-- so it is by whatever name
pub boundary_of_cut : (cs : List ℕ) (byte end : ℕ) → end ≡ size (cut cs byte) → IsBoundary cs end
boundary_of_cut cs byte end here = rw here (cut_boundary cs byte)

-- the char that begins at a boundary
pub record BeginsAt (bytes : List ℕ) (p : ℕ) (b : IsBoundary (chars bytes) p) : Type 0 where
  pub front : List ℕ
  pub character : ℕ
  pub back : List ℕ
  pub split : chars bytes ≡ front ++ character ∷ back
  pub place : size front ≡ p
  pub behind : b.back ≡ character ∷ back
  pub is_scalar : scalar character ≡ true
  pub byte : get_or bytes p 0 ≡ get_or (encode character ++ encodes back) 0 0

module _ (bytes : List ℕ) (utf8 : IsUtf8 bytes) where
  -- where std lets a text be cut is a boundary
  pub IsBoundary-from_char_boundary : (i : ℕ) → IsCharBoundary bytes i → IsBoundary (chars bytes) i
  IsBoundary-from_char_boundary i b =
      let before = IsUtf8-take bytes i utf8 b in
      let split = rw take-append-drop at (chars-append (take i bytes) (drop i bytes) before) in
      let place = size-chars (take i bytes) before ∙ length-take-le i bytes b.0 in
      record { front = chars (take i bytes); back = chars (drop i bytes); split = split; place = place }

  -- where a byte is no trailing byte, and at the end, there is a boundary
  pub begins_boundary : (i : ℕ) → i ≤ length bytes → (i < length bytes → is_trailing (get_or bytes i 0) ≡ false)
      → IsBoundary (chars bytes) i
  begins_boundary i le first =
      let leads : i < length bytes → 128 ≤ get_or bytes i 0 → 192 ≤ get_or bytes i 0 = λ inside wide.
      let trails = λ (low : get_or bytes i 0 < 192). is_trailing_later (get_or bytes i 0) (omega arith) in
      grind (arith, trails, first inside) in
      IsBoundary-from_char_boundary i (le, leads)

  -- at a boundary before the end a char begins
  pub begins_at : (p : ℕ) (b : IsBoundary (chars bytes) p) → p < length bytes → BeginsAt bytes p b
  begins_at p b below = (elim b.back as (λ rest. b.back ≡ rest → BeginsAt bytes p b) [
    | [] ↦ λ none.
        let sizes = ap size b.split ∙ size-append b.front b.back in
        absurd (omega (arith, ap size none, size-chars bytes utf8))
    | c ∷ back ↦ λ is.
        let split = b.split ∙ ap (λ r. b.front ++ r) is in
        let all = rw split at (scalars-chars bytes utf8) in
        record {
          front = b.front;
          character = c;
          back = back;
          split = split;
          place = b.place;
          behind = is;
          is_scalar = (and_parts (scalar c) (scalars back) (scalars_parts b.front (c ∷ back) all).1).0;
          byte = get_or-at_boundary bytes utf8 p b ∙ ap (λ r. get_or (encodes r) 0 0) is;
        }
  ]) refl

  -- at a boundary before the end the byte is no trailing byte
  pub boundary_begins : (i : ℕ) → IsBoundary (chars bytes) i → i < length bytes
      → is_trailing (get_or bytes i 0) ≡ false
  boundary_begins i b below = let c = begins_at i b below in
      ap is_trailing c.byte ∙ first_byte c.character (encodes c.back) c.is_scalar

  -- before the end of the text, fewer than four bytes are cut off
  cut_is_near : (end : ℕ) → end < length bytes → end < size (cut (chars bytes) end) + 4
  unfolding cut_boundary
  cut_is_near end below =
      let parts = cut_is (chars bytes) end in
      let next = begins_at (size (cut (chars bytes) end)) (cut_boundary (chars bytes) end) (omega arith) in
      omega (arith, parts.at.longest next.character next.back next.behind, len_utf8_bounds next.character)

  -- no boundary stands before the end of some trailing bytes
  pub no_boundary_before : (from at : ℕ) → at ≤ length bytes
      → ((j : ℕ) → from ≤ j → j < at → is_trailing (get_or bytes j 0) ≡ true) → (p : ℕ) → IsBoundary (chars bytes) p
      → from ≤ p → at ≤ p
  no_boundary_before from at within trails p b le = grind (arith, trails p le, boundary_begins p b)

  -- a text is cut no later than at a place with trailing bytes alone after it
  cut_before_trailing : (i end : ℕ) → end < length bytes
      → ((j : ℕ) → i < j → j ≤ end → is_trailing (get_or bytes j 0) ≡ true) → size (cut (chars bytes) end) ≤ i
  cut_before_trailing i end below trails =
      let parts = cut_is (chars bytes) end in
      let past = no_boundary_before (suc i) (suc end) below (λ j l h. trails j l (omega arith))
      (size (cut (chars bytes) end)) (cut_boundary (chars bytes) end) in
      grind (arith, parts.at.fits, past)

  -- a byte that begins a char, with trailing bytes alone after it up to `end`, is where the text is cut at `end`
  pub cut_at_leading : (i end : ℕ) → i ≤ end → end < length bytes → is_trailing (get_or bytes i 0) ≡ false
      → ((j : ℕ) → i < j → j ≤ end → is_trailing (get_or bytes j 0) ≡ true) → i ≡ size (cut (chars bytes) end)
  cut_at_leading i end le below leads trails =
      let at = begins_boundary i (omega arith) (λ _. leads) in
      omega (arith, boundary-le-cut (chars bytes) i end at le, cut_before_trailing i end below trails)

  -- three trailing bytes stand after a byte that begins a char
  pub cut_behind_three : (i end : ℕ) → i + 3 ≡ end → end < length bytes
      → ((j : ℕ) → i < j → j ≤ end → is_trailing (get_or bytes j 0) ≡ true) → i ≡ size (cut (chars bytes) end)
  cut_behind_three i end three below trails =
      omega (arith, cut_is_near end below, cut_before_trailing i end below trails)

  -- one of four bytes in a row begins a char
  pub leading_among_four : (i : ℕ) → i + 4 ≤ length bytes
      → (m : ℕ) × (i ≤ m) × (m < i + 4) × (is_trailing (get_or bytes m 0) ≡ false)
  leading_among_four i within =
      let place = size (cut (chars bytes) (i + 3)) in
      let near = cut_is_near (i + 3) (omega arith) in
      let fits = (cut_is (chars bytes) (i + 3)).at.fits in
      (place, omega arith, omega arith, boundary_begins place (cut_boundary (chars bytes) (i + 3)) (omega arith))

  -- three trailing bytes end at a boundary
  pub boundary_behind_three : (from at : ℕ) → at ≡ from + 3 → at ≤ length bytes
      → ((j : ℕ) → from ≤ j → j < at → is_trailing (get_or bytes j 0) ≡ true) → IsBoundary (chars bytes) at
  boundary_behind_three from at three within trails = begins_boundary at within (λ inside.
      let (m, le, lt, leads) = leading_among_four from (omega arith) in
      grind (arith, trails m le, leads))

  -- a trailing byte is not the first of the text
  pub trailing_above_start : (i : ℕ) → i < length bytes → is_trailing (get_or bytes i 0) ≡ true → 0 < i
  trailing_above_start zero below trails = cc (trails, boundary_begins 0 (IsBoundary-start (chars bytes)) below)
  trailing_above_start (suc i) below trails = omega arith

  -- no byte that is cut off the text is ASCII
  pub wide_behind_cut : (end j : ℕ) → j < length bytes → size (cut (chars bytes) end) ≤ j → j < end
      → 128 ≤ get_or bytes j 0
  wide_behind_cut end j below behind before =
      let next = λ (ascii : get_or bytes j 0 < 128). boundary-le-cut (chars bytes) (j + 1) end
      (IsBoundary-from_char_boundary (j + 1) (IsCharBoundary-after_ascii bytes j utf8 below ascii)) (omega arith) in
      grind (arith, next)

-- if f counts at ASCII bytes alone, nothing is counted after the cut
pub still_behind_cut : (f : ℕ → ℕ) (bytes : List ℕ) → IsUtf8 bytes → (end : ℕ) → end ≤ length bytes
    → ((j : ℕ) → 128 ≤ get_or bytes j 0 → f j ≡ 0) → sum_below f end ≡ sum_below f (size (cut (chars bytes) end))
still_behind_cut f bytes utf8 end within none =
    let place = size (cut (chars bytes) end) in
    let fits : place + (end - place) ≡ end = omega (arith, (cut_is (chars bytes) end).at.fits) in
    rw fits at (sum_below-still f place (end - place) (λ j l. none (place + j)
    (wide_behind_cut bytes utf8 end (place + j) (omega arith) (omega arith) (omega arith))))

-- the lemmas for the walks to a boundary, at a byte and at the end
pub ruleset places = (begins_boundary, cut_at_leading, trailing_above_start, byte_seen, cut_all, size-chars)

-- The ends of a scheme by the bytes at which they are counted: up to the place where the text is cut, and whether the
-- cut parts CR from LF.

module _ (s : Scheme) (test : ℕ → ℕ → ℕ → Bool) (adds : AddsAtFirst test (end_weight s)) where
  -- before the place where the text is cut the ends are counted that are up to there
  pub ends_by_walk : (bytes : List ℕ) → IsUtf8 bytes → (end : ℕ)
      → sum_below (counted_at test bytes) (size (cut (chars bytes) end)) ≡ ends_up_to s (chars bytes) end
  ends_by_walk bytes utf8 end = walk_to_cut test (end_weight s) adds bytes utf8 end
      ∙ sym (ends_up_to_cut s (chars bytes) end)

  -- where they are counted at ASCII bytes alone, so it is at each byte index
  pub ends_by_ascii_walk : ((b next after : ℕ) → 128 ≤ b → flag (test b next after) ≡ 0) → (bytes : List ℕ)
      → IsUtf8 bytes → (end : ℕ) → end ≤ length bytes
      → sum_below (counted_at test bytes) end ≡ ends_up_to s (chars bytes) end
  ends_by_ascii_walk none bytes utf8 end within = still_behind_cut (counted_at test bytes) bytes utf8 end within
      (λ j wide. none (get_or bytes j 0) (get_or bytes (1 + j) 0) (get_or bytes (2 + j) 0) wide)
      ∙ ends_by_walk bytes utf8 end

-- the next char is LF exactly where the next byte is
pub next_line_feed : (cs : List ℕ) → scalars cs ≡ true
    → is_line_feed (get_or (encodes cs) 0 0) ≡ is_line_feed (get_or cs 0 0)
next_line_feed [] s = refl
next_line_feed (c ∷ cs) s = by_width (λ bs. is_line_feed (get_or (bs ++ encodes cs) 0 0) ≡ is_line_feed c) c
    (and_parts (scalar c) (scalars cs) s).0 (λ ascii. refl)
    (λ first others wide. rw (ne_eqb first line_feed (λ same. omega arith), ne_eqb c line_feed (λ same. omega arith)))

-- a test that counts the breaks of a scheme, at the first byte of each char that is one
pub adds_breaks : (s : Scheme) → HasReturn s → (test : ℕ → ℕ → ℕ → Bool) → ((c next after : ℕ) → c < 128
    → test c next after ≡ (char_set_contains (break_characters s) c && not (c == carriage_return && next == line_feed)))
    → ((c : ℕ) (rest : List ℕ) → scalar c ≡ true → 128 ≤ c
    → test (get_or (encode c ++ rest) 0 0) (get_or (encode c ++ rest) 1 0) (get_or (encode c ++ rest) 2 0)
    ≡ char_set_contains (break_characters s) c)
    → ((b next after : ℕ) → IsTrailing b → flag (test b next after) ≡ 0) → AddsAtFirst test (end_weight s)
adds_breaks s has test at_ascii at_wide later = record {
  later = later;
  first = λ c cs is_scalar are_scalars. ap flag (rw (has.breaks c cs) (elim (cases_lt c 128) [
    | inl ascii ↦ rw (encode_ascii c ascii) (at_ascii c (get_or (encodes cs) 0 0) (get_or (encodes cs) 1 0) ascii
        ∙ ap (λ b. char_set_contains (break_characters s) c && not (c == carriage_return && b))
        (next_line_feed cs are_scalars))
    | inr wide ↦ at_wide c (encodes cs) is_scalar wide
        ∙ rw (ne_eqb c carriage_return (λ same. omega arith)) (sym (and-true _))
  ]));
}

-- the byte before a place after the start
byte_before-at : (bytes : List ℕ) (n k : ℕ) → n ≡ suc k → byte_before bytes n ≡ get_or bytes k 0
byte_before-at bytes n k next = rw next refl

-- the last byte of a char is CR where the char is
last_byte_is_return : (c : ℕ) (rest : List ℕ) → scalar c ≡ true
    → is_carriage_return (get_or (encode c ++ rest) (len_utf8 c - 1) 0) ≡ is_carriage_return c
last_byte_is_return c rest s = rw (← length-encode c) (by_size
    (λ bs. is_carriage_return (get_or (bs ++ rest) (length bs - 1) 0) ≡ is_carriage_return c) c s (λ _. refl)
    (λ l h. grind (arith, nat_tests)) (λ l h. grind (arith, nat_tests)) (λ l h. grind (arith, nat_tests)))

-- the byte before a seam is CR where the text before it ends in CR
return_at_seam : (front back : List ℕ) → scalars (front ++ back) ≡ true
    → is_carriage_return (byte_before (encodes (front ++ back)) (size front)) ≡ ends_in_return front
return_at_seam [] back s = refl
return_at_seam (c ∷ []) back s =
    let bounds = len_utf8_bounds c in
    rw (byte_before-at _ (size (c ∷ [])) (len_utf8 c - 1) (omega (arith, size-cons c [])), ends_in_return-one c)
    (last_byte_is_return c (encodes back) (and_parts (scalar c) (scalars back) s).0)
return_at_seam (c ∷ d ∷ front) back s =
    let rest = encodes (d ∷ front ++ back) in
    let k = size (d ∷ front) - 1 in
    let some : size (d ∷ front) ≡ suc k = omega (arith, size-cons d front, len_utf8_bounds d) in
    ap is_carriage_return (byte_before-at (encode c ++ rest) (size (c ∷ d ∷ front)) (len_utf8 c + k)
    (omega (arith, size-cons c (d ∷ front))) ∙ get_or-behind c rest k (len_utf8 c + k) refl
    ∙ sym (byte_before-at rest (size (d ∷ front)) k some))
    ∙ return_at_seam (d ∷ front) back (and_parts (scalar c) _ s).1 ∙ sym (ends_in_return-cons c d front)

-- the place where the text is cut stands between CR and LF where the cut parts CR from LF
middle_at_cut : (bytes : List ℕ) → IsUtf8 bytes → (end : ℕ) → is_middle bytes (size (cut (chars bytes) end))
    ≡ joins_crlf (cut (chars bytes) end) (cut_is (chars bytes) end).rest
unfolding cut_boundary
middle_at_cut bytes utf8 end =
    let front = cut (chars bytes) end in
    let parts = cut_is (chars bytes) end in
    let all = rw parts.split at (scalars-chars bytes utf8) in
    ap₂ (λ a b. a && b) (ap (λ t. is_carriage_return (byte_before t (size front)))
    (encodes-split bytes utf8 front parts.rest parts.split ∙ sym (encodes-append front parts.rest))
    ∙ return_at_seam front parts.rest all)
    (ap is_line_feed (get_or-at_boundary bytes utf8 (size front) (cut_boundary (chars bytes) end))
    ∙ next_line_feed parts.rest (scalars_parts front parts.rest all).1 ∙ sym (starts_with_feed_is parts.rest))

-- a cut text has the breaks up to the cut, and one more where the cut parts CR from LF
pub breaks_of_cut_text : (s : Scheme) → HasReturn s → (bytes : List ℕ) → IsUtf8 bytes → (end : ℕ)
    → end_count s (cut (chars bytes) end)
    ≡ ends_up_to s (chars bytes) end + flag (is_middle bytes (size (cut (chars bytes) end)))
breaks_of_cut_text s has bytes utf8 end = end_count-cut_seam s has (chars bytes) end
    ∙ ap (λ b. ends_up_to s (chars bytes) end + flag b) (sym (middle_at_cut bytes utf8 end))

-- after a place between CR and LF stands a byte, which is LF
pub feed_at_middle : (bytes : List ℕ) (n : ℕ) → is_middle bytes n ≡ true
    → (n < length bytes) × (get_or bytes n 0 ≡ line_feed)
feed_at_middle bytes n middle =
    let both = and_parts (is_carriage_return (byte_before bytes n)) (is_line_feed (get_or bytes n 0)) middle in
    let feed = eqb-true (get_or bytes n 0) line_feed both.1 in
    (grind (arith, get_or_past bytes n 0), feed)

-- How a text starts and ends, by its bytes: LF and CR are one byte, which no other char has.

-- the first byte of a text is LF where its first char is
feed_first : (cs : List ℕ) → scalars cs ≡ true → starts_with_feed (encodes cs) ≡ starts_with_feed cs
feed_first [] s = refl
feed_first (c ∷ cs) s =
    rw (starts_with_feed_is (encode c ++ encodes cs), starts_with_feed_is (c ∷ cs))
    (by_width (λ bs. (get_or (bs ++ encodes cs) 0 0 == line_feed) ≡ (c == line_feed)) c
    (and_parts (scalar c) (scalars cs) s).0 (λ ascii. refl)
    (λ first others wide. grind (arith, nat_tests, wide.from, wide.low)))

-- a number above ASCII, and trailing bytes after it, don't end in CR
no_return : (first : ℕ) (others : List ℕ) → 128 ≤ first → All IsTrailing others → ends_in_return (first ∷ others) ≡ false
no_return first [] wide all = ends_in_return-one first ∙ grind (arith, nat_tests)
no_return first (b ∷ others) wide all =
    ends_in_return-cons first b others ∙ no_return b others (All-head IsTrailing b others all).low
    (All-tail IsTrailing b others all)

-- the last byte of a char is CR where the char is
return_byte : (c : ℕ) → scalar c ≡ true → ends_in_return (encode c) ≡ ends_in_return (c ∷ [])
return_byte c s = by_width (λ bs. ends_in_return bs ≡ ends_in_return (c ∷ [])) c s (λ ascii. refl)
    (λ first others wide. no_return first others (omega (arith, wide.low)) wide.trailing
    ∙ sym (no_return c [] wide.from (All-nil IsTrailing)))

-- some chars are some bytes
some_bytes : (c : ℕ) (cs : List ℕ) → encodes (c ∷ cs) ≢ []
some_bytes c cs none =
    omega (arith, ap length none, length-append (encode c) (encodes cs), length-encode c, len_utf8_bounds c)

-- the last byte of a text is CR where its last char is
return_last : (cs : List ℕ) → scalars cs ≡ true → ends_in_return (encodes cs) ≡ ends_in_return cs
return_last [] s = refl
return_last (c ∷ []) s = rw (append-nil (encode c)) (return_byte c (and_parts (scalar c) true s).0)
return_last (c ∷ d ∷ cs) s = ends_in_return-append (encode c) (encodes (d ∷ cs)) (some_bytes d cs)
    ∙ return_last (d ∷ cs) (and_parts (scalar c) (scalars (d ∷ cs)) s).1 ∙ sym (ends_in_return-cons c d cs)

module _ (bytes : List ℕ) (utf8 : IsUtf8 bytes) where
  -- a text starts with LF where its bytes do
  pub starts_with_feed-bytes : starts_with_feed bytes ≡ starts_with_feed (chars bytes)
  starts_with_feed-bytes =
      ap starts_with_feed (sym (encodes-chars bytes utf8)) ∙ feed_first (chars bytes) (scalars-chars bytes utf8)

  -- and ends in CR where its bytes do
  pub ends_in_return-bytes : ends_in_return bytes ≡ ends_in_return (chars bytes)
  ends_in_return-bytes =
      ap ends_in_return (sym (encodes-chars bytes utf8)) ∙ return_last (chars bytes) (scalars-chars bytes utf8)

  -- some bytes are some chars
  pub chars-some : 0 < length bytes → chars bytes ≢ []
  chars-some some none = omega (arith, size-chars bytes utf8, ap size none)

-- and no bytes are none
pub chars-none : (bytes : List ℕ) → length bytes ≡ 0 → chars bytes ≡ []
chars-none [] none = chars-nil
chars-none (b ∷ bytes) none = absurd (omega arith)
