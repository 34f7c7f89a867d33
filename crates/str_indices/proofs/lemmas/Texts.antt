-- Texts as lists of chars: their sizes, cuts, ends and boundaries, and the weight of their chars.
use Rattle.str_indices.proofs.lemmas.Common.{◌≡◌, ℕ, ◌+◌, List, ◌∷◌, ◌++◌, ◌≤◌, ◌⊎◌, inl, inr, [], refl, arith, sym, ◌∙◌, ap, append-nil, len_utf8, sum_by-cons, sum_by-append, size, sum_by, IsBoundary, zero, suc, ◌<◌, ◌↔◌, min, length, get_or, count_by, cond, nat_le, Contains, IsStrictlyIncreasing, nat_tests, get_or_past, get_or_default, count_by-le-length, Contains-get_or, map, filter, cases_lt, le-leb, lt-leb, length-append, len_utf8_bounds, placed, cut, IsLongestCut, Bool, ◌==◌, cases_Bool, Placed, Chars, Lf, is_end, count, Scheme, ends, end_count, ends_up_to, All, true, reverse, slice_index, char_set_contains, both_ways, and_parts, and_from, eqb-true, not-true, not_from_false, false_from_ne_true, append_cancel_left, append_assoc, take_all, take_more, get_or-map, length-map, reverse-append, All-map, All-filter, filter_passes, All-nil, All-cons, All-contains, Contains-append_right, is_crlf_middle, line_feed, carriage_return, Utf16, is_break_end, end_at, IsEndOf, IsCrlfMiddle, IsBreakEnd, IsCharacterEnd, IsEnd, max, fold, leb-true, All-head, All-tail, weight, weighed, boundary_weighed, boundaries, surrogates, IsGreatestWeighed}

-- Sums over the chars of a text: its bytes, and what stands before each of two places where it is split.

-- a text takes the bytes of its first char and those of the rest
pub size-cons : (c : ℕ) (cs : List ℕ) → size (c ∷ cs) ≡ len_utf8 c + size cs
size-cons c cs = sum_by-cons len_utf8 c cs

-- two texts, one after the other, take the bytes of both
pub size-append : (a b : List ℕ) → size (a ++ b) ≡ size a + size b
size-append a b = sum_by-append len_utf8 a b

-- of two beginnings of one text, front goes on from a, or a goes on from front, with the char c that is next
compare_splits : (a b front : List ℕ) (c : ℕ) (back : List ℕ) → a ++ b ≡ front ++ c ∷ back
    → ((rest : List ℕ) × (front ≡ a ++ rest)) ⊎ ((rest : List ℕ) × (a ≡ front ++ c ∷ rest))
compare_splits [] b front c back same = inl (front, refl)
compare_splits (x ∷ a) b [] c back same = inr (a, cc)
compare_splits (x ∷ a) b (y ∷ front) c back same =
    elim (compare_splits a b front c back cc) [
      | inl (rest, goes_on) ↦ inl (rest, cc)
      | inr (rest, goes_on) ↦ inr (rest, cc)
    ]

-- A boundary is at or before the place where a char begins, and no more is before it than there, or it is at or
-- after the place where the char ends, and no less is before it than there.
pub boundary_beside : (w : ℕ → ℕ) (cs front : List ℕ) (c : ℕ) (back : List ℕ) → cs ≡ front ++ c ∷ back
    → (p : ℕ) (at : IsBoundary cs p)
    → ((p ≤ size front) × (sum_by w at.front ≤ sum_by w front))
    ⊎ ((size front + len_utf8 c ≤ p) × (sum_by w front + w c ≤ sum_by w at.front))
boundary_beside w cs front c back split p at =
    elim (compare_splits at.front at.back front c back (sym at.split ∙ split)) [
      | inl (rest, is) ↦
          let sums = ap (sum_by w) is ∙ sum_by-append w at.front rest in
          inl (omega (arith, at.place, ap size is, size-append at.front rest), omega arith)
      | inr (rest, is) ↦
          let sizes = ap size is ∙ size-append front (c ∷ rest) in
          let sums = ap (sum_by w) is ∙ sum_by-append w front (c ∷ rest) in
          inr (omega (arith, at.place, size-cons c rest), omega (arith, sum_by-cons w c rest))
    ]

-- the sum of what v says of each char and those after it
abbrev pub total : (ℕ → List ℕ → ℕ) → List ℕ → ℕ
total v [] = 0
total v (c ∷ cs) = v c cs + total v cs

-- the sum over the chars of a beginning only, where a text goes on after it
abbrev pub total_front : (ℕ → List ℕ → ℕ) → List ℕ → List ℕ → ℕ
total_front v [] back = 0
total_front v (c ∷ front) back = v c (front ++ back) + total_front v front back

-- over a beginning, and then over the rest
pub total-append : (v : ℕ → List ℕ → ℕ) (front back : List ℕ)
    → total v (front ++ back) ≡ total_front v front back + total v back
total-append v [] back = omega arith
total-append v (c ∷ front) back = omega (arith, total-append v front back)

-- where v is f of the char alone, whatever goes on after a beginning
pub total_front_alone : (v : ℕ → List ℕ → ℕ) (f : ℕ → ℕ) → ((c : ℕ) (cs : List ℕ) → v c cs ≡ f c)
    → (front back : List ℕ) → total_front v front back ≡ sum_by f front
total_front_alone v f alone [] back = refl
total_front_alone v f alone (c ∷ front) back =
    omega (arith, alone c (front ++ back), total_front_alone v f alone front back, sum_by-cons f c front)

-- where v is f of the char alone, over the whole text
pub total_alone : (v : ℕ → List ℕ → ℕ) (f : ℕ → ℕ) → ((c : ℕ) (cs : List ℕ) → v c cs ≡ f c) → (cs : List ℕ)
    → total v cs ≡ sum_by f cs
total_alone v f alone cs =
    omega (arith, ap (total v) (append-nil cs), total-append v cs [], total_front_alone v f alone cs [])

-- Lists of increasing numbers: how many are at most a number, and which is the k-th.

-- the numbers increase strictly, each is above low, and the last is at most high
abbrev pub IncreasesWithin : ℕ → List ℕ → ℕ → Type 0
IncreasesWithin low [] high = low ≤ high
IncreasesWithin low (e ∷ es) high = (low < e) × IncreasesWithin e es high

-- low is at most high
pub low_le_high : (low : ℕ) (es : List ℕ) (high : ℕ) → IncreasesWithin low es high → low ≤ high
low_le_high low [] high h = h
low_le_high low (e ∷ es) high h = omega (arith, low_le_high e es high h.1, h.0)

-- how many of the numbers are at most b
abbrev pub rank : List ℕ → ℕ → ℕ
rank es b = count_by (λ e. nat_le e b) es

-- a number counts one where it is at most b, and nothing otherwise
pub rank-cons : (e : ℕ) (es : List ℕ) (b : ℕ) → rank (e ∷ es) b ≡ cond (nat_le e b) 1 0 + rank es b
rank-cons e es b = sum_by-cons (λ x. cond (nat_le x b) 1 0) e es

-- none of the numbers is at most b, where b is at most low
pub rank_none : (low : ℕ) (es : List ℕ) (high b : ℕ) → IncreasesWithin low es high → b ≤ low → rank es b ≡ 0
rank_none low [] high b h le = refl
rank_none low (e ∷ es) high b h le = grind (arith, nat_tests, rank-cons e es b, rank_none e es high b h.1, h.0)

-- all of the numbers are at most b, where high is
pub rank_all : (low : ℕ) (es : List ℕ) (high b : ℕ) → IncreasesWithin low es high → high ≤ b → rank es b ≡ length es
rank_all low [] high b h le = refl
rank_all low (e ∷ es) high b h le =
    grind (arith, nat_tests, rank-cons e es b, low_le_high e es high h.1, rank_all e es high b h.1 le)

-- no fewer numbers are at most a greater one
pub rank-le-rank : (es : List ℕ) (i j : ℕ) → i ≤ j → rank es i ≤ rank es j
rank-le-rank [] i j le = omega arith
rank-le-rank (e ∷ es) i j le = grind (arith, nat_tests, rank-cons e es i, rank-cons e es j, rank-le-rank es i j le)

-- the k-th number, counted from 0, is at most b exactly where more than k of them are
get_or_le_iff : (low : ℕ) (es : List ℕ) (high k d b : ℕ) → IncreasesWithin low es high → k < length es
    → (get_or es k d ≤ b) ↔ (k < rank es b)
get_or_le_iff low [] high k d b h inside = absurd (omega arith)
get_or_le_iff low (e ∷ es) high zero d b h inside =
    grind (arith, nat_tests, rank-cons e es b, rank_none e es high b h.1)
get_or_le_iff low (e ∷ es) high (suc k) d b h inside =
    grind (arith, nat_tests, rank-cons e es b, rank_none e es high b h.1, get_or_le_iff e es high k d b h.1)

-- the k-th number, counted from 0, has k others below it
rank-get_or : (low : ℕ) (es : List ℕ) (high k d : ℕ) → IncreasesWithin low es high → k < length es
    → rank es (get_or es k d) ≡ suc k
rank-get_or low [] high k d h inside = absurd (omega arith)
rank-get_or low (e ∷ es) high zero d h inside = grind (arith, nat_tests, rank-cons e es e, rank_none e es high e h.1)
rank-get_or low (e ∷ es) high (suc k) d h inside =
    let above = get_or_le_iff e es high k d e h.1 (omega arith) in
    let none = rank_none e es high e h.1 (omega arith) in
    grind (arith, nat_tests, rank-cons e es (get_or es k d), rank-get_or e es high k d h.1)

-- each number is below the next
pub IsStrictlyIncreasing-within : (low : ℕ) (es : List ℕ) (high : ℕ) → IncreasesWithin low es high
    → IsStrictlyIncreasing es
IsStrictlyIncreasing-within low es high h k inside =
    let ranked = rank-get_or low es high k 0 h (omega arith) in
    let next = rank-get_or low es high (k + 1) 0 h inside in
    grind (arith, rank-le-rank es (get_or es (k + 1) 0) (get_or es k 0))

-- the k-th number, counted from 1; 0 at 0, and high past the last
abbrev pub select : List ℕ → ℕ → ℕ → ℕ
select es high zero = 0
select es high (suc k) = get_or es k high

module _ (es : List ℕ) (high : ℕ) (up : IncreasesWithin 0 es high) where
  -- for k up to their number, the k-th is at most b exactly where at least k of them are
  pub adjunction : (b k : ℕ) → k ≤ length es → (select es high k ≤ b) ↔ (k ≤ rank es b)
  adjunction b zero le = (λ _. omega arith, λ _. omega arith)
  adjunction b (suc k) le = get_or_le_iff 0 es high k high b up (omega arith)

  -- the k-th number is at most high
  pub select-le-high : (k : ℕ) → select es high k ≤ high
  select-le-high zero = omega arith
  select-le-high (suc k) = grind (arith, get_or_past es k high, adjunction high (suc k), rank_all 0 es high high up)

  -- as many numbers are at most the k-th as k says, or all of them
  pub rank-select : (k : ℕ) → rank es (select es high k) ≡ min k (length es)
  rank-select zero = rank_none 0 es high 0 up (omega arith) ∙ omega arith
  rank-select (suc k) =
      grind (arith, get_or_past es k high, rank-get_or 0 es high k high up, rank_all 0 es high high up)

  -- the i-th number is at most each one after it
  pub select-le-select : (i j : ℕ) → i ≤ j → select es high i ≤ select es high j
  select-le-select i j le =
      grind (arith, get_or_past es, select-le-high i, adjunction (select es high j) i, rank-select j)

  -- the last of the numbers that are at most b is at most b
  pub select-rank-le : (b : ℕ) → select es high (rank es b) ≤ b
  select-rank-le b = (adjunction b (rank es b) (count_by-le-length (λ e. nat_le e b) es)).1 (omega arith)

  -- the k-th number, up to their number, is one of them, or 0
  pub select_is_member : (k : ℕ) → k ≤ length es → Contains es (select es high k) ⊎ (select es high k ≡ 0)
  select_is_member zero inside = inr refl
  select_is_member (suc k) inside = inl (Contains-get_or es k high (omega arith))

  -- each number, and 0, is the last of those that are at most it
  pub select-rank : (e : ℕ) → (e ≡ 0) ⊎ Contains es e → select es high (rank es e) ≡ e
  select-rank e (inl none) = rw (none, rank_none 0 es high 0 up (omega arith)) refl
  select-rank e (inr (k, inside, is)) =
      let ranked : rank es e ≡ suc k = ap (rank es) (sym is) ∙ rank-get_or 0 es high k e up inside in
      ap (select es high) ranked ∙ get_or_default es k high e inside ∙ is

  -- such a number is at most the k-th exactly where no more than k are at most it
  pub member_adjunction : (e k : ℕ) → (e ≡ 0) ⊎ Contains es e → (e ≤ select es high k) ↔ (rank es e ≤ k)
  member_adjunction e k has = (
    λ le. omega (arith, rank-le-rank es e (select es high k) le, rank-select k),
    λ within. omega (arith, select-le-select (rank es e) k within, select-rank e has),
  )

-- A text cut at a byte index is its longest beginning that fits before the index.

-- the chars that end at or before `end`, in a text that begins at `start`
abbrev cut_from : ℕ → List ℕ → ℕ → List ℕ
cut_from start cs end = map (λ p. p.character) (filter (λ p. nat_le p.end end) (placed start cs))

-- nothing fits before the text's own beginning
cut_from_none : (start : ℕ) (cs : List ℕ) (end : ℕ) → end ≤ start → cut_from start cs end ≡ []
cut_from_none start [] end none = refl
cut_from_none start (c ∷ cs) end none = rw (lt-leb (start + len_utf8 c) end (omega (arith, len_utf8_bounds c)))
    (cut_from_none (start + len_utf8 c) cs end (omega arith))

-- the cut goes on from a beginning that fits, with what is cut from the rest, which begins at `mid`
cut_from-append : (start : ℕ) (front back : List ℕ) (mid end : ℕ) → start + size front ≡ mid → mid ≤ end
    → cut_from start (front ++ back) end ≡ front ++ cut_from mid back end
cut_from-append start [] back mid end here fits = ap (λ s. cut_from s back end) (omega arith)
cut_from-append start (c ∷ front) back mid end here fits =
    let sizes = size-cons c front in
    rw (le-leb (start + len_utf8 c) end (omega arith))
    (ap (λ r. c ∷ r) (cut_from-append (start + len_utf8 c) front back mid end (omega arith) fits))

-- cut before the end of a beginning, the whole is cut as the beginning alone
cut_from-before : (start : ℕ) (front back : List ℕ) (end : ℕ) → end ≤ start + size front
    → cut_from start (front ++ back) end ≡ cut_from start front end
cut_from-before start [] back end before = cut_from_none start back end (omega arith)
cut_from-before start (c ∷ front) back end before =
    let sizes = size-cons c front in
    let rest = cut_from-before (start + len_utf8 c) front back end (omega arith) in
    elim (cases_lt end (start + len_utf8 c)) [
      | inl beyond ↦ rw (lt-leb (start + len_utf8 c) end beyond) rest
      | inr fits ↦ rw (le-leb (start + len_utf8 c) end fits) (ap (λ r. c ∷ r) rest)
    ]

-- a text that begins n bytes later is cut n bytes later
cut_from-later : (n start later : ℕ) (cs : List ℕ) (end : ℕ) → n + start ≡ later
    → cut_from later cs (n + end) ≡ cut_from start cs end
cut_from-later n start later [] end place = refl
cut_from-later n start later (c ∷ cs) end place =
    let rest = cut_from-later n (start + len_utf8 c) (later + len_utf8 c) cs end (omega arith) in
    elim (cases_lt end (start + len_utf8 c)) [
      | inl beyond ↦
          rw (lt-leb (later + len_utf8 c) (n + end) (omega arith), lt-leb (start + len_utf8 c) end beyond) rest
      | inr fits ↦ rw (le-leb (later + len_utf8 c) (n + end) (omega arith), le-leb (start + len_utf8 c) end fits)
          (ap (λ r. c ∷ r) rest)
    ]

-- cut before their seam, two joined texts are cut as the first
pub cut_before : (a b : List ℕ) (end : ℕ) → end ≤ size a → cut (a ++ b) end ≡ cut a end
cut_before a b end before = cut_from-before 0 a b end (omega arith)

-- cut after it, they are the first and then the second's cut
pub cut_behind : (a b : List ℕ) (end : ℕ) → cut (a ++ b) (size a + end) ≡ a ++ cut b end
cut_behind a b end = cut_from-append 0 a b (size a) (size a + end) (omega arith) (omega arith)
    ∙ ap (λ r. a ++ r) (cut_from-later (size a) 0 (size a) b end (omega arith))

-- front ends at or before `end`, and with the first char of the rest it would not; the text begins at `start`
pub record IsCutAt (start : ℕ) (front rest : List ℕ) (end : ℕ) : Type 0 where
  pub fits : start + size front ≤ end
  pub longest : (c : ℕ) (after : List ℕ) → rest ≡ c ∷ after → end < start + size front + len_utf8 c

-- the cut is such a beginning
cut_from_is : (start : ℕ) (cs : List ℕ) (end : ℕ) → start ≤ end
    → (rest : List ℕ) × (cs ≡ cut_from start cs end ++ rest) × IsCutAt start (cut_from start cs end) rest end
cut_from_is start [] end within = ([], refl, record { fits = omega arith; longest = λ c after same. cc })
cut_from_is start (c ∷ cs) end within =
    let next = start + len_utf8 c in
    elim (cases_lt end next) [
      | inl beyond ↦ rw (lt-leb next end beyond, cut_from_none next cs end (omega arith)) (
        c ∷ cs,
        refl,
        record { fits = omega arith; longest = λ d _ same. let first : len_utf8 c ≡ len_utf8 d = cc in omega arith },
      )
      | inr fits ↦
          let (rest, split, at) = cut_from_is next cs end fits in
          let sizes = size-cons c (cut_from next cs end) in
          rw (le-leb next end fits) (
            rest,
            ap (λ r. c ∷ r) split,
            record { fits = omega (arith, at.fits); longest = λ d after same. omega (arith, at.longest d after same) },
          )
    ]

-- the text is its cut and then a rest
pub record IsCut (cs : List ℕ) (end : ℕ) : Type 0 where
  pub rest : List ℕ
  pub split : cs ≡ cut cs end ++ rest
  pub at : IsCutAt 0 (cut cs end) rest end

-- the cut of a text
pub cut_is : (cs : List ℕ) (end : ℕ) → IsCut cs end
cut_is cs end =
    let (rest, split, at) = cut_from_is 0 cs end (omega arith) in record { rest = rest; split = split; at = at }

-- the cut goes on from each beginning that fits
pub cut_goes_on : (cs front back : List ℕ) (end : ℕ) → cs ≡ front ++ back → size front ≤ end
    → (more : List ℕ) × (cut cs end ≡ front ++ more)
cut_goes_on cs front back end split fits =
    (cut_from (size front) back end, rw split (cut_from-append 0 front back (size front) end (omega arith) fits))

-- cut where a beginning ends, the text is that beginning
pub cut_seam : (front back : List ℕ) → cut (front ++ back) (size front) ≡ front
cut_seam front back = cut_from-append 0 front back (size front) (size front) (omega arith) (omega arith)
    ∙ ap (λ r. front ++ r) (cut_from_none (size front) back (size front) (omega arith)) ∙ append-nil front

-- cut at or past its end, the text is whole
pub cut_all : (cs : List ℕ) (end : ℕ) → size cs ≤ end → cut cs end ≡ cs
cut_all cs end fits = ap (λ t. cut t end) (sym (append-nil cs))
    ∙ cut_from-append 0 cs [] (size cs) end (omega arith) fits ∙ append-nil cs

-- cut at the lesser of a byte index and the text's end, the text is as if cut at the byte index
pub cut_at_least : (cs : List ℕ) (end least : ℕ) → least ≡ min end (size cs) → cut cs least ≡ cut cs end
cut_at_least cs end least here = grind (arith, cut_all cs least, cut_all cs end)

-- the cut is the longest beginning of the text that fits
pub cut_is_longest : (cs : List ℕ) (end : ℕ) → IsLongestCut cs end (cut cs end)
cut_is_longest cs end =
    let is_cut = cut_is cs end in
    record {
      back = is_cut.rest;
      split = is_cut.split;
      fits = omega (arith, is_cut.at.fits);
      longest = λ other rest split fits.
          let (more, is) = cut_goes_on cs other rest end split fits in
          omega (arith, ap length is, length-append other more);
    }

-- a boundary at or before a place is at or before where the text is cut there
pub boundary-le-cut : (cs : List ℕ) (p end : ℕ) → IsBoundary cs p → p ≤ end → p ≤ size (cut cs end)
boundary-le-cut cs p end b le =
    let (more, is) = cut_goes_on cs b.front b.back end b.split (omega (arith, b.place)) in
    omega (arith, ap size is, size-append b.front more, b.place)

-- cut at a boundary, the text is the beginning that ends there
pub cut_front : (cs : List ℕ) (p : ℕ) (b : IsBoundary cs p) → cut cs p ≡ b.front
cut_front cs p b = rw (b.split, ← b.place) (cut_seam b.front b.back)

-- The ends of a text: where they are, how many there are, what each char adds to them, and those of a cut text.

-- where the chars end at which the test passes, in a text that begins at `start`
abbrev pub ends_from : (Placed → Bool) → ℕ → List ℕ → List ℕ
ends_from test start cs = map (λ p. p.end) (filter test (placed start cs))

-- the first char c of a text that begins at `start`, with those after it
abbrev pub first_placed : ℕ → ℕ → List ℕ → Placed
first_placed start c cs = record { character = c; end = start + len_utf8 c; after = cs }

-- the ends increase, above low, which the first char passes, and up to at most the text's own end
pub ends_from-increases : (test : Placed → Bool) (low start : ℕ) (cs : List ℕ) (high : ℕ) → low ≤ high
    → ((c : ℕ) (after : List ℕ) → cs ≡ c ∷ after → low < start + len_utf8 c) → start + size cs ≤ high
    → IncreasesWithin low (ends_from test start cs) high
ends_from-increases test low start [] high le beyond fits = le
ends_from-increases test low start (c ∷ cs) high le beyond fits =
    let next = start + len_utf8 c in
    let sizes = size-cons c cs in
    let first = beyond c cs refl in
    let rest = λ (l : ℕ) (at : l ≤ next). ends_from-increases test l next cs high (omega arith)
    (λ d after same. omega (arith, len_utf8_bounds d)) (omega arith) in
    elim (cases_Bool (test (first_placed start c cs))) [
      | inl passes ↦ rw passes (first, rest next (omega arith))
      | inr fails ↦ rw fails (rest low (omega arith))
    ]

-- one where the char c, with those after it, ends at an end of the scheme
abbrev pub end_weight : Scheme → ℕ → List ℕ → ℕ
end_weight s c cs = cond (is_end s (first_placed 0 c cs)) 1 0

-- whether a char ends at an end doesn't depend on where the text begins
is_end_anywhere : (s : Scheme) (start c : ℕ) (cs : List ℕ)
    → is_end s (first_placed start c cs) ≡ is_end s (first_placed 0 c cs)
is_end_anywhere Chars start c cs = refl
is_end_anywhere s start c cs = refl

-- up to a byte index, the first char counts as it weighs, if it ends at or before the index
pub rank_step : (s : Scheme) (start c : ℕ) (cs : List ℕ) (byte : ℕ) → rank (ends_from (is_end s) start (c ∷ cs)) byte
    ≡ cond (nat_le (start + len_utf8 c) byte) (end_weight s c cs) 0
    + rank (ends_from (is_end s) (start + len_utf8 c) cs) byte
rank_step s start c cs byte =
    let one = rank-cons (start + len_utf8 c) (ends_from (is_end s) (start + len_utf8 c) cs) byte in
    rw (is_end_anywhere s start c cs) (grind (arith, nat_tests, cases_Bool (is_end s (first_placed 0 c cs))))

-- a beginning that fits has the ends that its chars weigh, and then come those of the rest, which begins at `mid`
pub rank-append : (s : Scheme) (start : ℕ) (front rest : List ℕ) (mid byte : ℕ) → start + size front ≡ mid → mid ≤ byte
    → rank (ends_from (is_end s) start (front ++ rest)) byte
    ≡ total_front (end_weight s) front rest + rank (ends_from (is_end s) mid rest) byte
rank-append s start [] rest mid byte here fits = let same : start ≡ mid = omega arith in rw same (omega arith)
rank-append s start (c ∷ front) rest mid byte here fits =
    let sizes = size-cons c front in
    let others = rank-append s (start + len_utf8 c) front rest mid byte (omega arith) fits in
    grind (arith, nat_tests, rank_step s start c (front ++ rest) byte)

-- the ends of a text increase strictly, each is above 0, and the last is at most the text's size
pub ends_increase_within : (s : Scheme) (cs : List ℕ) → IncreasesWithin 0 (ends s cs) (size cs)
ends_increase_within s cs = ends_from-increases (is_end s) 0 0 cs (size cs) (omega arith)
    (λ c after same. omega (arith, len_utf8_bounds c)) (omega arith)

-- the ends of a text are as many as its chars weigh
pub end_count_total : (s : Scheme) (cs : List ℕ) → end_count s cs ≡ total (end_weight s) cs
end_count_total s cs =
    let all = rank_all 0 (ends s cs) (size cs) (size cs) (ends_increase_within s cs) (omega arith) in
    let whole = rw append-nil at (rank-append s 0 cs [] (size cs) (size cs) (omega arith) (omega arith)) in
    omega (arith, rw append-nil at (total-append (end_weight s) cs []))

-- each char counts one in `Chars`
pub count_characters : (cs : List ℕ) → count Chars cs ≡ sum_by (λ _. 1) cs
count_characters cs = end_count_total Chars cs ∙ total_alone (end_weight Chars) (λ _. 1) (λ c after. refl) cs

-- a line feed ends a line in `Lf`, whatever stands beside it
pub end_weight-Lf : (c : ℕ) (cs : List ℕ) → end_weight Lf c cs ≡ cond (c == 10) 1 0
end_weight-Lf c cs = grind (arith, nat_tests)

-- up to a byte index are the ends of the beginning that is cut off there
pub ends_up_to_cut : (s : Scheme) (cs : List ℕ) (byte : ℕ)
    → ends_up_to s cs byte ≡ total_front (end_weight s) (cut cs byte) (cut_is cs byte).rest
ends_up_to_cut s cs byte =
    let parts = cut_is cs byte in
    let mid = size (cut cs byte) in
    let others = rank-append s 0 (cut cs byte) parts.rest mid byte (omega arith) (omega (arith, parts.at.fits)) in
    let high = byte + (mid + size parts.rest) in
    let increases = ends_from-increases (is_end s) byte mid parts.rest high (omega arith)
    (λ c after is. omega (arith, parts.at.longest c after is)) (omega arith) in
    let none = rank_none byte (ends_from (is_end s) mid parts.rest) high byte increases (omega arith) in
    ap (λ t. ends_up_to s t byte) parts.split ∙ omega arith

-- whether a char ends at an end of the scheme is read from the char alone
abbrev pub ReadsAlone : Scheme → Type 0
ReadsAlone s = (c : ℕ) (cs ds : List ℕ) → end_weight s c cs ≡ end_weight s c ds

-- the ends of a cut text are then those of the whole text up to there
pub end_count-cut : (s : Scheme) → ReadsAlone s → (cs : List ℕ) (end : ℕ)
    → end_count s (cut cs end) ≡ ends_up_to s cs end
end_count-cut s alone cs end =
    let v = end_weight s in
    let f = λ (c : ℕ). v c [] in
    let reads = λ (c : ℕ) (after : List ℕ). alone c after [] in
    omega (arith, end_count_total s, ends_up_to_cut s cs end, total_alone v f reads, total_front_alone v f reads)

-- a text that is cut where it was cut stays as it is
pub cut-cut : (cs : List ℕ) (end : ℕ) → cut cs (size (cut cs end)) ≡ cut cs end
cut-cut cs end = let parts = cut_is cs end in ap (λ t. cut t (size (cut cs end))) parts.split
    ∙ cut_seam (cut cs end) parts.rest

-- The ends of a text against the relations that say what they are; the boundaries; where a walk to the k-th end stops.

-- an element that passes a test is kept
pub Contains-filter : {X : Type 0} (test : X → Bool) (xs : List X) (x : X) → Contains xs x → test x ≡ true
    → Contains (filter test xs) x
Contains-filter test [] x (k, inside, is) passes = absurd (omega arith)
Contains-filter test (y ∷ xs) x (zero, inside, is) passes = rw (is, passes) (0, omega arith, refl)
Contains-filter test (y ∷ xs) x (suc k, inside, is) passes =
    let rest = Contains-filter test xs x (k, omega arith, is) passes in
    elim (cases_Bool (test y)) [
      | inl kept ↦ rw kept (Contains-append_right (y ∷ []) (filter test xs) x rest)
      | inr not_kept ↦ rw not_kept rest
    ]

-- a char stands in the text at its place, with those after it
abbrev StandsIn : List ℕ → Placed → Type 0
StandsIn text x =
    (front : List ℕ) × (text ≡ (front ++ x.character ∷ []) ++ x.after) × (size (front ++ x.character ∷ []) ≡ x.end)

-- the chars of a text stand in it, after those `before`
placed_are : (text before cs : List ℕ) (start : ℕ) → text ≡ before ++ cs → size before ≡ start
    → All (StandsIn text) (placed start cs)
placed_are text before [] start split place = All-nil (StandsIn text)
placed_are text before (c ∷ cs) start split place =
    let split' = split ∙ sym (append_assoc before (c ∷ []) cs) in
    let place' = size-append before (c ∷ []) ∙ omega (arith, size-cons c []) in
    All-cons (StandsIn text) (first_placed start c cs) _ (before, split', place')
    (placed_are text (before ++ c ∷ []) cs (start + len_utf8 c) split' place')

-- a char stands at its place, in a text that begins at `start`
Contains-placed : (start : ℕ) (front : List ℕ) (c : ℕ) (back : List ℕ) (p : ℕ) → start + size (front ++ c ∷ []) ≡ p
    → Contains (placed start ((front ++ c ∷ []) ++ back)) (record { character = c; end = p; after = back })
Contains-placed start [] c back p place =
    let first : start + len_utf8 c ≡ p = omega (arith, size-cons c []) in (0, omega arith, rw first refl)
Contains-placed start (x ∷ front) c back p place = Contains-append_right (first_placed start x _ ∷ []) _ _
    (Contains-placed (start + len_utf8 x) front c back p (omega (arith, size-cons x (front ++ c ∷ []))))

-- a char ends at a boundary
abbrev IsBoundary-end_of : (cs : List ℕ) (c p : ℕ) → IsEndOf cs c p → IsBoundary cs p
IsBoundary-end_of cs c p end =
    record { front = end.front ++ c ∷ []; back = end.back; split = end.split; place = end.place }

-- a text whose first char is a line feed
line_feed_first : (back : List ℕ) → slice_index back 0 == line_feed ≡ true → (rest : List ℕ) × (back ≡ line_feed ∷ rest)
line_feed_first [] is_feed = cc
line_feed_first (c ∷ rest) is_feed = (rest, ap (λ x. x ∷ rest) (eqb-true c line_feed is_feed))

-- the test of a CRLF middle says what the relation says
pub is_crlf_middle_iff : (cs : List ℕ) (c p : ℕ) (end : IsEndOf cs c p)
    → (is_crlf_middle (record { character = c; end = p; after = end.back }) ≡ true) ↔ IsCrlfMiddle cs p
is_crlf_middle_iff cs c p end = (
  λ passes.
      let both = and_parts (c == carriage_return) (slice_index end.back 0 == line_feed) passes in
      let (rest, feed) = line_feed_first end.back both.1 in
      let is = eqb-true c carriage_return both.0 in
      record { front = end.front; back = rest; split = rw (is, feed) at end.split; place = rw is at end.place },
  λ middle.
      let front = middle.front ++ carriage_return ∷ [] in
      let same : end.front ++ c ∷ [] ≡ front = sym (cut_front cs p (IsBoundary-end_of cs c p end))
      ∙ cut_front cs p (record { front = front; back = _; split = middle.split; place = middle.place }) in
      let rests = append_cancel_left front _ _ (rw same at (sym end.split ∙ middle.split)) in
      let last : c ≡ carriage_return = simp reverse-append at (ap (λ l. get_or (reverse l) 0 0) same) in
      rw (last, rests),
)

-- a char ends at p, and the test passes there
abbrev PassesAt : (Placed → Bool) → List ℕ → ℕ → Type 0
PassesAt test cs p =
    (c : ℕ) × (end : IsEndOf cs c p) × (test (record { character = c; end = p; after = end.back }) ≡ true)

-- such places, and no others, are listed
listed_iff : (test : Placed → Bool) (cs : List ℕ) (p : ℕ) → Contains (ends_from test 0 cs) p ↔ PassesAt test cs p
listed_iff test cs p = (
  All-contains (PassesAt test cs) (ends_from test 0 cs) p
      (All-map (PassesAt test cs) (λ x. x.end) (filter test (placed 0 cs)) (λ k d inside.
      let (front, split, place) = All-filter test (StandsIn cs) _ (placed_are cs [] cs 0 refl refl) k d inside in
      (_, record { front = front; back = _; split = split; place = place }, filter_passes test _ k d inside))),
  λ h.
      let (c, end, passes) = h in
      let at = Contains-placed 0 end.front c end.back p (omega (arith, end.place)) in
      let (k, lt, is) = Contains-filter test _ _ at passes in
      rw end.split (k, omega (arith, length-map {A = Placed} {B = ℕ}), get_or-map _ _ k _ p lt ∙ ap (λ x. x.end) is),
)

-- the breaks that are listed are those of the relation
breaks_are : (set cs : List ℕ) (p : ℕ) → Contains (ends_from (is_break_end set) 0 cs) p ↔ IsBreakEnd set cs p
breaks_are set cs p = (
  λ has.
      let (c, end, passes) = (listed_iff (is_break_end set) cs p).0 has in
      let both = and_parts (char_set_contains set c) _ passes in
      record {
        character = c;
        end_of = end;
        in_set = both.0;
        not_middle = λ middle. both_ways _ (not-true _ both.1) ((is_crlf_middle_iff cs c p end).1 middle);
      },
  λ h.
      let iff = is_crlf_middle_iff cs h.character p h.end_of in
      let none = false_from_ne_true _ (λ passes. h.not_middle (iff.0 passes)) in
      (listed_iff (is_break_end set) cs p).1 (h.character, h.end_of, and_from _ _ h.in_set (not_from_false _ none)),
)

-- a beginning that is not empty ends with a char
end_of_boundary : (front back : List ℕ) (p : ℕ) → size front ≡ p → 0 < p → (c : ℕ) × IsEndOf (front ++ back) c p
end_of_boundary [] back p place above = absurd (omega arith)
end_of_boundary (c ∷ front) back p place above =
    let n = length front in
    let whole = sym (take_all (n + 1) (c ∷ front) (omega arith)) ∙ take_more (c ∷ front) n 0 (omega arith) in
    (_, record { front = _; back = back; split = ap (λ f. f ++ back) whole; place = sym (ap size whole) ∙ place })

-- the char ends that are listed are those of the relation
characters_are : (cs : List ℕ) (p : ℕ) → Contains (ends_from (λ _. true) 0 cs) p ↔ IsCharacterEnd cs p
characters_are cs p = (
  λ has.
      let (c, end, passes) = (listed_iff (λ _. true) cs p).0 has in
      record {
        boundary = IsBoundary-end_of cs c p end;
        above = omega (arith, end.place, size-append end.front (c ∷ []), size-cons c [], len_utf8_bounds c);
      },
  λ h.
      let (c, end) = end_of_boundary h.boundary.front h.boundary.back p h.boundary.place h.above in
      rw h.boundary.split ((listed_iff (λ _. true) _ p).1 (c, end, refl)),
)

-- the elements of `ends s cs` are the ends of the text in the scheme
pub ends_are : (s : Scheme) (cs : List ℕ) (p : ℕ) → Contains (ends s cs) p ↔ IsEnd s cs p
ends_are Chars cs p = characters_are cs p
ends_are Utf16 cs p = characters_are cs p
ends_are s cs p = breaks_are _ cs p

-- each element of `ends s cs` is below the next
pub ends_increase : (s : Scheme) (cs : List ℕ) → IsStrictlyIncreasing (ends s cs)
ends_increase s cs = IsStrictlyIncreasing-within 0 (ends s cs) (size cs) (ends_increase_within s cs)

-- the text begins at a boundary
abbrev pub IsBoundary-start : (cs : List ℕ) → IsBoundary cs 0
IsBoundary-start cs = record { front = []; back = cs; split = refl; place = refl }

-- an end in a scheme is a boundary
IsBoundary-end : (s : Scheme) (cs : List ℕ) (p : ℕ) → IsEnd s cs p → IsBoundary cs p
IsBoundary-end Chars cs p end = end.boundary
IsBoundary-end Utf16 cs p end = end.boundary
IsBoundary-end s cs p end = IsBoundary-end_of cs end.character p end.end_of

-- whatever the index, `end_at` answers a boundary
pub IsBoundary-end_at : (s : Scheme) (cs : List ℕ) (k : ℕ) → IsBoundary cs (end_at s cs k)
IsBoundary-end_at s cs zero = IsBoundary-start cs
IsBoundary-end_at s cs (suc k) =
    elim (cases_lt k (length (ends s cs))) [
      | inl inside ↦ IsBoundary-end s cs _ ((ends_are s cs _).0 (Contains-get_or (ends s cs) k (size cs) inside))
      | inr past ↦ rw (get_or_past (ends s cs) k (size cs) past)
          (record { front = cs; back = []; split = sym (append-nil cs); place = refl })
    ]

-- a boundary is 0 or an end of `Chars`
pub zero_or_end : (cs : List ℕ) (p : ℕ) → IsBoundary cs p → (p ≡ 0) ⊎ Contains (ends Chars cs) p
zero_or_end cs zero at = inl refl
zero_or_end cs (suc p) at = inr ((ends_are Chars cs (suc p)).1 (record { boundary = at; above = omega arith }))

-- `end_at` takes the k-th of the ends
pub end_at-select : (s : Scheme) (cs : List ℕ) (k : ℕ) → end_at s cs k ≡ select (ends s cs) (size cs) k
end_at-select s cs zero = refl
end_at-select s cs (suc k) = refl

-- past the last end, `end_at` answers the text's size
pub end_at-past : (s : Scheme) (cs : List ℕ) (k : ℕ) → end_count s cs < k → end_at s cs k ≡ size cs
end_at-past s cs zero fewer = absurd (omega arith)
end_at-past s cs (suc k) fewer = get_or_past (ends s cs) k (size cs) (omega arith)

-- all ends are at or before the text's size
pub ends_up_to-all : (s : Scheme) (cs : List ℕ) (byte : ℕ) → size cs ≤ byte → ends_up_to s cs byte ≡ end_count s cs
ends_up_to-all s cs byte past = rank_all 0 (ends s cs) (size cs) byte (ends_increase_within s cs) past

-- a walk that stops where it first has k ends after it, or else at the text's size, stops at what `end_at` answers
pub end_at_reached : (s : Scheme) (cs : List ℕ) (k e : ℕ) → e ≤ size cs → (e < size cs → k ≤ ends_up_to s cs e)
    → ((d : ℕ) → d < e → ends_up_to s cs d < k) → e ≡ end_at s cs k
end_at_reached s cs k e within stopped first =
    let up = ends_increase_within s cs in
    let place = select (ends s cs) (size cs) k in
    let most = select-le-high (ends s cs) (size cs) up k in
    let ranked = rank-select (ends s cs) (size cs) up k in
    let fewer = count_by-le-length (λ p. nat_le p e) (ends s cs) in
    let reached = adjunction (ends s cs) (size cs) up e k in
    grind (arith, first place, end_at-past s cs k, end_at-select s cs k)

-- The weight of the chars before a place, and the greatest boundary before which a text weighs at most k. In UTF-16
-- code units, how many a char and a text take.

-- a maximum is at least what it starts from, and at least each number
fold_max_bounds : (a : ℕ) (xs : List ℕ) → (a ≤ fold max a xs) × All (λ x. x ≤ fold max a xs) xs
fold_max_bounds a [] = (omega arith, All-nil (λ x. x ≤ a))
fold_max_bounds a (x ∷ xs) =
    let (first, rest) = fold_max_bounds (max a x) xs in
    (omega arith, All-cons (λ y. y ≤ fold max (max a x) xs) x xs (omega arith) rest)

-- if P holds of the start and of each number, it holds of the maximum
fold_max_holds : (P : ℕ → Type 0) (a : ℕ) (xs : List ℕ) → P a → All P xs → P (fold max a xs)
fold_max_holds P a [] start all = start
fold_max_holds P a (x ∷ xs) start all =
    fold_max_holds P (max a x) xs (grind (arith, All-head P x xs all)) (All-tail P x xs all)

-- before a boundary the chars weigh what the beginning does that ends there
pub weighed_at : (w : ℕ → ℕ) (cs : List ℕ) (p : ℕ) (at : IsBoundary cs p) → weighed w cs p ≡ sum_by w at.front
weighed_at w cs p at = ap (sum_by w) (cut_front cs p at)

-- each place that `boundaries` lists is a boundary
boundaries_are : (cs : List ℕ) → All (IsBoundary cs) (boundaries cs)
boundaries_are cs zero d inside = IsBoundary-start cs
boundaries_are cs (suc k) d inside =
    ((ends_are Chars cs _).0 (Contains-get_or (ends Chars cs) k d (omega arith))).boundary

-- `boundaries` lists each boundary
boundary_is_listed : (cs : List ℕ) (p : ℕ) → IsBoundary cs p → Contains (boundaries cs) p
boundary_is_listed cs zero at = (0, omega arith, refl)
boundary_is_listed cs (suc p) at = Contains-append_right (0 ∷ []) (ends Chars cs) (suc p)
    ((ends_are Chars cs (suc p)).1 (record { boundary = at; above = omega arith }))

-- `boundary_weighed` answers the greatest boundary before which the text weighs at most k
pub boundary_weighed_is_greatest : (w : ℕ → ℕ) (cs : List ℕ) (k : ℕ) → IsGreatestWeighed w cs k (boundary_weighed w cs k)
boundary_weighed_is_greatest w cs k =
    let test = λ (p : ℕ). nat_le (weighed w cs p) k in
    let all = boundaries cs in
    let answer = fold_max_holds (λ p. IsBoundary cs p × (weighed w cs p ≤ k)) 0 (filter test all)
    (IsBoundary-start cs, omega (arith, weighed_at w cs 0 (IsBoundary-start cs)))
    (λ i d inside. (
      All-filter test (IsBoundary cs) all (boundaries_are cs) i d inside,
      leb-true (weighed w cs _) k (filter_passes test all i d inside),
    )) in
    record {
      boundary = answer.0;
      fits = rw (weighed_at w cs _ answer.0) at answer.1;
      greatest = λ q other fits.
          let passes = le-leb (weighed w cs q) k (rw (weighed_at w cs q other) fits) in
          All-contains (λ p. p ≤ boundary_weighed w cs k) (filter test all) q (fold_max_bounds 0 (filter test all)).1
          (Contains-filter test all q (boundary_is_listed cs q other) passes);
    }

-- no less is before a greater byte index
pub weighed-le-weighed : (w : ℕ → ℕ) (cs : List ℕ) (i j : ℕ) → i ≤ j → weighed w cs i ≤ weighed w cs j
weighed-le-weighed w cs i j le =
    let parts = cut_is cs i in
    let (more, is) = cut_goes_on cs (cut cs i) parts.rest j parts.split (omega (arith, parts.at.fits)) in
    omega (arith, ap (sum_by w) is, sum_by-append w (cut cs i) more)

-- a text has the units that its chars take
pub count-units : (cs : List ℕ) → count Utf16 cs ≡ sum_by weight cs
count-units cs = ap (sum_by weight) (cut_all cs (size cs) (omega arith))

-- a char takes one unit or two
pub weight_is_one_or_two : (c : ℕ) → (weight c ≡ 1) ⊎ (weight c ≡ 2)
weight_is_one_or_two c = grind (arith, nat_tests)

-- a char takes some
pub weight-some : (c : ℕ) → 0 < weight c
weight-some c = omega (arith, weight_is_one_or_two c)

-- a char takes at least as many bytes as units
pub weight-le : (c : ℕ) → weight c ≤ len_utf8 c
weight-le c = grind (arith, nat_tests, len_utf8_bounds c)

-- the chars take one unit each, and one more for each surrogate pair
sum_by-weight : (cs : List ℕ) → sum_by weight cs ≡ sum_by (λ _. 1) cs + surrogates cs
sum_by-weight [] = refl
sum_by-weight (c ∷ cs) =
    let pairs = sum_by-cons (λ x. cond (weight x == 2) 1 0) c cs in
    grind (arith, nat_tests, sum_by-cons weight c cs, sum_by-cons {X = ℕ} (λ _. 1) c cs, sum_by-weight cs)

-- a text has one unit for each char, and one more for each surrogate pair
pub count-characters-surrogates : (cs : List ℕ) → count Utf16 cs ≡ count Chars cs + surrogates cs
count-characters-surrogates cs = omega (arith, count-units cs, sum_by-weight cs, count_characters cs)
