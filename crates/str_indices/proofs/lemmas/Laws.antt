-- The laws of the schemes, which contracts of `laws` and of other crates have.
use Rattle.str_indices.proofs.lemmas.Common.{◌≡◌, ℕ, ◌≤◌, ◌↔◌, inl, inr, min, List, refl, ◌≢◌, nat_le, count_by-le-length, size, Scheme, Utf16, ends, count, from_byte_idx, to_byte_idx, IsLineScheme, IsGreatestEnd, ◌+◌, ◌<◌, ◌⊎◌, [], ◌∷◌, ◌++◌, arith, sym, ◌∙◌, ap, append_assoc, sum_by, cases_lt, len_utf8_bounds, sum_by-cons, sum_by-append, weight, cut, weighed, boundary_weighed, units, boundary_at_units, IsBoundary, IsGreatestBoundary, IsSecondUnit, IsInside, Chars, IsCharacterScheme, cond, append_cancel_left, ◌==◌, nat_tests, Lf, Crlf, Lines, end_count, ends_up_to, surrogates, joins_crlf, seam_loss, chars-append, zero, suc, length, get_or, chars, IsUtf8, len_utf8, append-nil, sum_by-le-sum_by}
use Rattle.str_indices.proofs.lemmas.Texts.{rank, rank-select, adjunction, rank-le-rank, select-rank-le, member_adjunction, select_is_member, ends_are, ends_increase_within, end_at-select, size-cons, size-append, boundary_beside, cut_is, weighed_at, weighed-le-weighed, count-units, weight_is_one_or_two, boundary_weighed_is_greatest, IsBoundary-end_at, zero_or_end, ends_increase, weight-some, select-le-select, cut_is_longest, count_characters, total, end_weight, end_count_total, count-characters-surrogates, IncreasesWithin, low_le_high, weight-le, cut_all, ends_up_to-all}
use Rattle.str_indices.proofs.lemmas.Seams.{end_count-append, end_count-cut_loss, seam_loss-le, ends_up_to-before, ends_up_to-behind, end_at-before, end_at-behind, units-before, units-behind, boundary_at_units-before, boundary_at_units-behind}
use Rattle.str_indices.proofs.lemmas.Bytes.{size-chars}

-- The laws of the four schemes whose counts and conversions go by ends.

-- a line scheme is not `Utf16`
pub line_scheme_is_not_utf16 : (s : Scheme) → IsLineScheme s → s ≢ Utf16
line_scheme_is_not_utf16 s line = λ same. rw same at line

-- to a byte index and back
pub from-to : (s : Scheme) → s ≢ Utf16 → (cs : List ℕ) (k : ℕ)
    → from_byte_idx s cs (to_byte_idx s cs k) ≡ min k (count s cs)
from-to Utf16 other cs k = absurd (other refl)
from-to s other cs k = rw (end_at-select s cs k) (rank-select (ends s cs) (size cs) (ends_increase_within s cs) k)

-- the byte index of k is at most b exactly where k is at most the index of b
pub to_le_iff : (s : Scheme) → s ≢ Utf16 → (cs : List ℕ) (b k : ℕ) → k ≤ count s cs
    → (to_byte_idx s cs k ≤ b) ↔ (k ≤ from_byte_idx s cs b)
to_le_iff Utf16 other cs b k within = absurd (other refl)
to_le_iff s other cs b k within = rw (end_at-select s cs k)
    (adjunction (ends s cs) (size cs) (ends_increase_within s cs) b k within)

-- from a byte index and back is the greatest end at or before it, or 0
pub to-from_is_greatest : (s : Scheme) → s ≢ Utf16 → (cs : List ℕ) (b : ℕ)
    → IsGreatestEnd s cs b (to_byte_idx s cs (from_byte_idx s cs b))
to-from_is_greatest Utf16 other cs b = absurd (other refl)
to-from_is_greatest s other cs b =
    let listed = ends s cs in
    let last = rank listed b in
    let increases = ends_increase_within s cs in
    let member = select_is_member listed (size cs) increases last (count_by-le-length (λ e. nat_le e b) listed) in
    rw (end_at-select s cs last) (record {
      end_or_zero = elim member [ inl has ↦ inl ((ends_are s cs _).0 has) | inr none ↦ inr none ];
      at_or_before = select-rank-le listed (size cs) increases b;
      greatest = λ q is le. (member_adjunction listed (size cs) increases q last (inr ((ends_are s cs q).1 is))).1
          (rank-le-rank listed q b le);
    })

-- The laws of what chars weigh, each by w, and those of the UTF-16 code units.

-- a boundary is at most the place of k exactly where no more than k is before it
pub boundary_weighed_iff : (w : ℕ → ℕ) (cs : List ℕ) (b k : ℕ) → IsBoundary cs b
    → (b ≤ boundary_weighed w cs k) ↔ (weighed w cs b ≤ k)
boundary_weighed_iff w cs b k at =
    let answer = boundary_weighed_is_greatest w cs k in
    let most = weighed_at w cs (boundary_weighed w cs k) answer.boundary in (
      λ le. omega (arith, weighed-le-weighed w cs b (boundary_weighed w cs k) le),
      λ within. answer.greatest b at (omega (arith, weighed_at w cs b at)),
    )

-- a greater weight has no lesser place
pub boundary_weighed-le : (w : ℕ → ℕ) (cs : List ℕ) (i j : ℕ) → i ≤ j → boundary_weighed w cs i ≤ boundary_weighed w cs j
boundary_weighed-le w cs i j le =
    let first = boundary_weighed_is_greatest w cs i in
    (boundary_weighed_is_greatest w cs j).greatest (boundary_weighed w cs i) first.boundary (omega (arith, first.fits))

-- from a byte index to what is before it and back is at or before it, where each char weighs something
pub boundary_weighed-weighed-le : (w : ℕ → ℕ) → ((c : ℕ) → 0 < w c) → (cs : List ℕ) (b : ℕ)
    → boundary_weighed w cs (weighed w cs b) ≤ b
boundary_weighed-weighed-le w some cs b =
    let parts = cut_is cs b in
    let answer = boundary_weighed_is_greatest w cs (weighed w cs b) in
    let p = boundary_weighed w cs (weighed w cs b) in
    let sizes = ap size parts.split ∙ size-append (cut cs b) parts.rest in
    let sizes' = ap size answer.boundary.split ∙ size-append answer.boundary.front answer.boundary.back in
    (elim parts.rest as (λ rest. parts.rest ≡ rest → p ≤ b) [
      | [] ↦ λ none. omega (arith, ap size none)
      | c ∷ after ↦ λ next.
          let split = parts.split ∙ ap (λ r. cut cs b ++ r) next in
          let beside = boundary_beside w cs (cut cs b) c after split p answer.boundary in
          omega (arith, some c)
    ]) refl

-- and it is the greatest boundary there
pub weighed_is_greatest_boundary : (w : ℕ → ℕ) → ((c : ℕ) → 0 < w c) → (cs : List ℕ) (b : ℕ)
    → IsGreatestBoundary cs b (boundary_weighed w cs (weighed w cs b))
weighed_is_greatest_boundary w some cs b = record {
  boundary = (boundary_weighed_is_greatest w cs (weighed w cs b)).boundary;
  at_or_before = boundary_weighed-weighed-le w some cs b;
  greatest = λ q at le. (boundary_weighed_iff w cs q (weighed w cs b) at).1 (weighed-le-weighed w cs q b le);
}

-- a weight comes back, or all that there is, or it falls inside a char
pub weighed_or_inside : (w : ℕ → ℕ) (cs : List ℕ) (k : ℕ)
    → (weighed w cs (boundary_weighed w cs k) ≡ min k (sum_by w cs)) ⊎ IsInside w cs k
weighed_or_inside w cs k =
    let answer = boundary_weighed_is_greatest w cs k in
    let front = answer.boundary.front in
    let back = answer.boundary.back in
    let before = weighed_at w cs (boundary_weighed w cs k) answer.boundary in
    let whole = ap (sum_by w) answer.boundary.split ∙ sum_by-append w front back in
    (elim back as (λ rest. back ≡ rest
    → (weighed w cs (boundary_weighed w cs k) ≡ min k (sum_by w cs)) ⊎ IsInside w cs k) [
      | [] ↦ λ none. inl (omega (arith, ap (sum_by w) none, answer.fits))
      | c ∷ rest ↦ λ next.
          let is = answer.boundary.split ∙ ap (λ r. front ++ r) next in
          let is' = is ∙ sym (append_assoc front (c ∷ []) rest) in
          let longer : IsBoundary cs (size (front ++ c ∷ [])) =
          record { front = front ++ c ∷ []; back = rest; split = is'; place = refl } in
          let greatest = answer.greatest (size (front ++ c ∷ [])) longer in
          let sizes = size-append front (c ∷ []) ∙ ap (λ n. size front + n) (size-cons c []) in
          let sums = sum_by-append w front (c ∷ []) in
          let past : k < sum_by w front + w c = grind (arith, greatest, len_utf8_bounds c, sum_by-cons w c []) in
          let others = ap (sum_by w) next ∙ sum_by-cons w c rest in
          elim (cases_lt (sum_by w front) k) [
            | inr all ↦ inl (omega (arith, answer.fits))
            | inl less ↦
                inr (record { front = front; character = c; back = rest; split = is; after = less; before = past })
          ]
    ]) refl

-- an index that falls inside a char goes to its beginning
pub weighed_inside : (w : ℕ → ℕ) (cs : List ℕ) (k : ℕ) (inside : IsInside w cs k)
    → weighed w cs (boundary_weighed w cs k) ≡ sum_by w inside.front
weighed_inside w cs k inside =
    let front = inside.front in
    let p = boundary_weighed w cs k in
    let answer = boundary_weighed_is_greatest w cs k in
    let first : IsBoundary cs (size front) =
    record { front = front; back = inside.character ∷ inside.back; split = inside.split; place = refl } in
    let reaches = answer.greatest (size front) first (omega (arith, inside.after)) in
    let least = weighed-le-weighed w cs (size front) p reaches in
    let beside = boundary_beside w cs front inside.character inside.back inside.split p answer.boundary in
    omega (arith, weighed_at w cs (size front) first, weighed_at w cs p answer.boundary, answer.fits, inside.before)

-- where a unit falls inside a char, it is the second of a pair
second_unit_inside : (cs : List ℕ) (k : ℕ) → IsInside weight cs k → IsSecondUnit cs k
second_unit_inside cs k inside =
    let two : (weight inside.character ≡ 2) × (sum_by weight inside.front + 1 ≡ k) =
    omega (arith, weight_is_one_or_two inside.character, inside.after, inside.before) in record {
      front = inside.front;
      character = inside.character;
      back = inside.back;
      split = inside.split;
      pair = two.0;
      first_unit = two.1;
    }

-- an index comes back, or the count, or it is a pair's second unit
pub units_or_second_unit : (cs : List ℕ) (k : ℕ)
    → (units cs (boundary_at_units cs k) ≡ min k (count Utf16 cs)) ⊎ IsSecondUnit cs k
units_or_second_unit cs k = elim (weighed_or_inside weight cs k) [
  | inl same ↦ inl (omega (arith, count-units cs))
  | inr inside ↦ inr (second_unit_inside cs k inside)
]

-- the second unit of a pair has the byte index of the first
pub units-second_unit : (cs : List ℕ) (k : ℕ) → IsSecondUnit cs k → units cs (boundary_at_units cs k) + 1 ≡ k
units-second_unit cs k second = omega (
  arith,
  second.first_unit,
  weighed_inside weight cs k (record {
    front = second.front;
    character = second.character;
    back = second.back;
    split = second.split;
    after = omega (arith, second.first_unit);
    before = omega (arith, second.first_unit, second.pair);
  }),
)

-- The counts of one text in several schemes, and of two texts that are joined.

-- a sum of larger numbers is larger
total-le-total : (v w : ℕ → List ℕ → ℕ) → ((c : ℕ) (cs : List ℕ) → v c cs ≤ w c cs) → (cs : List ℕ)
    → total v cs ≤ total w cs
total-le-total v w each [] = omega arith
total-le-total v w each (c ∷ cs) = omega (arith, each c cs, total-le-total v w each cs)

-- where each char that ends a line in one scheme ends one in the other, that has no fewer breaks
end_count-le-end_count : (s t : Scheme) → ((c : ℕ) (cs : List ℕ) → end_weight s c cs ≤ end_weight t c cs)
    → (cs : List ℕ) → end_count s cs ≤ end_count t cs
end_count-le-end_count s t le cs = omega (arith, end_count_total, total-le-total (end_weight s) (end_weight t) le cs)

-- LF alone breaks no more lines than LF, CR and CRLF
pub count-Lf-le-count-Crlf : (cs : List ℕ) → count Lf cs ≤ count Crlf cs
count-Lf-le-count-Crlf cs = end_count-le-end_count Lf Crlf (λ c after. grind (arith, nat_tests)) cs

-- LF, CR and CRLF break no more lines than all seven chars
pub count-Crlf-le-count-Lines : (cs : List ℕ) → count Crlf cs ≤ count Lines cs
count-Crlf-le-count-Lines cs = end_count-le-end_count Crlf Lines (λ c after. grind (arith, nat_tests)) cs

-- in every scheme, the counts of both, but for what the seam takes
pub count-append : (s : Scheme) (a b : List ℕ) → count s (a ++ b) + seam_loss s a b ≡ count s a + count s b
count-append Utf16 a b = omega (arith, count-units, sum_by-append weight a b)
count-append s a b = end_count-append s a b

-- in every scheme, a cut text counts what the whole does up to the cut, and what the seam there takes
pub count-cut : (s : Scheme) (cs : List ℕ) (end : ℕ) (rest : List ℕ) → cs ≡ cut cs end ++ rest
    → count s (cut cs end) ≡ from_byte_idx s cs end + seam_loss s (cut cs end) rest
count-cut Utf16 cs end rest split = omega (arith, count-units (cut cs end))
count-cut s cs end rest split =
    let same : (cut_is cs end).rest ≡ rest =
    append_cancel_left (cut cs end) _ _ (sym (cut_is cs end).split ∙ split) in
    end_count-cut_loss s cs end ∙ ap (λ r. ends_up_to s cs end + seam_loss s (cut cs end) r) same

-- surrogate pairs
pub surrogates-append : (a b : List ℕ) → surrogates (a ++ b) ≡ surrogates a + surrogates b
surrogates-append a b = sum_by-append (λ c. cond (weight c == 2) 1 0) a b

-- chars
pub count-Chars-append : (a b : List ℕ) → count Chars (a ++ b) ≡ count Chars a + count Chars b
count-Chars-append a b = omega (arith, count-append Chars a b)

-- UTF-16 code units
pub count-Utf16-append : (a b : List ℕ) → count Utf16 (a ++ b) ≡ count Utf16 a + count Utf16 b
count-Utf16-append a b = omega (arith, count-append Utf16 a b)

-- line feeds
pub count-Lf-append : (a b : List ℕ) → count Lf (a ++ b) ≡ count Lf a + count Lf b
count-Lf-append a b = omega (arith, count-append Lf a b)

-- line breaks by LF, CR and CRLF
pub count-Crlf-append : (a b : List ℕ) → count Crlf (a ++ b) + cond (joins_crlf a b) 1 0 ≡ count Crlf a + count Crlf b
count-Crlf-append = count-append Crlf

-- line breaks by all seven chars
pub count-Lines-append : (a b : List ℕ)
    → count Lines (a ++ b) + cond (joins_crlf a b) 1 0 ≡ count Lines a + count Lines b
count-Lines-append = count-append Lines

-- the lemmas for the laws of the counts
pub ruleset count_laws = (count-characters-surrogates, count-Lf-le-count-Crlf, count-Crlf-le-count-Lines)

-- the lemmas for the law of the sums of joined texts
pub ruleset joined_sums = (chars-append, count-Chars-append, count-Utf16-append, surrogates-append, count-Lf-append)

-- the lemmas for the law of the breaks of joined texts
pub ruleset joined_breaks = (chars-append, count-Crlf-append, count-Lines-append)

-- Laws of the conversions in every scheme, and in the two that count chars.

-- each conversion to a byte index answers a boundary
pub IsBoundary-to_byte_idx : (s : Scheme) (cs : List ℕ) (k : ℕ) → IsBoundary cs (to_byte_idx s cs k)
IsBoundary-to_byte_idx Utf16 cs k = (boundary_weighed_is_greatest weight cs k).boundary
IsBoundary-to_byte_idx s cs k = IsBoundary-end_at s cs k

-- a greater byte index has no lesser index
pub from_byte_idx-le : (s : Scheme) (cs : List ℕ) (i j : ℕ) → i ≤ j → from_byte_idx s cs i ≤ from_byte_idx s cs j
from_byte_idx-le Utf16 cs = weighed-le-weighed weight cs
from_byte_idx-le s cs = rank-le-rank (ends s cs)

-- a greater index has no lesser byte index
pub to_byte_idx-le : (s : Scheme) (cs : List ℕ) (i j : ℕ) → i ≤ j → to_byte_idx s cs i ≤ to_byte_idx s cs j
to_byte_idx-le Utf16 cs i j le = boundary_weighed-le weight cs i j le
to_byte_idx-le s cs i j le = rw (end_at-select s cs i, end_at-select s cs j)
    (select-le-select (ends s cs) (size cs) (ends_increase_within s cs) i j le)

-- a boundary is at most the byte index of k exactly where its own index is at most k
pub boundary_adjunction : (s : Scheme) → IsCharacterScheme s → (cs : List ℕ) (b k : ℕ) → IsBoundary cs b
    → (b ≤ to_byte_idx s cs k) ↔ (from_byte_idx s cs b ≤ k)
boundary_adjunction Chars character cs b k at = rw (end_at-select Chars cs k)
    (member_adjunction (ends Chars cs) (size cs) (ends_increase_within Chars cs) b k (zero_or_end cs b at))
boundary_adjunction Utf16 character cs b k at = boundary_weighed_iff weight cs b k at
boundary_adjunction s character cs b k at = absurd character

-- from a byte index and back is at or before it
to-from-le-each : (s : Scheme) (cs : List ℕ) (b : ℕ) → to_byte_idx s cs (from_byte_idx s cs b) ≤ b
to-from-le-each Utf16 cs b = boundary_weighed-weighed-le weight weight-some cs b
to-from-le-each s cs b = rw (end_at-select s cs (rank (ends s cs) b))
    (select-rank-le (ends s cs) (size cs) (ends_increase_within s cs) b)

-- from a byte index and back is the greatest boundary at or before it
pub to-from_is_greatest_boundary : (s : Scheme) → IsCharacterScheme s → (cs : List ℕ) (b : ℕ)
    → IsGreatestBoundary cs b (to_byte_idx s cs (from_byte_idx s cs b))
to-from_is_greatest_boundary s character cs b = record {
  boundary = IsBoundary-to_byte_idx s cs (from_byte_idx s cs b);
  at_or_before = to-from-le-each s cs b;
  greatest = λ q at le. (boundary_adjunction s character cs q (from_byte_idx s cs b) at).1
      (from_byte_idx-le s cs q b le);
}

-- if each char weighs one, the weight before a byte index is the number of chars
pub characters_weighed : (cs : List ℕ) (b : ℕ) → weighed (λ _. 1) cs b ≡ from_byte_idx Chars cs b
characters_weighed cs b =
    let parts = cut_is cs b in
    omega (arith, count_characters (cut cs b), count-cut Chars cs b parts.rest parts.split)

-- and the boundary of weight k is the byte index of char k
pub boundary_of_characters : (cs : List ℕ) (k : ℕ) → boundary_weighed (λ _. 1) cs k ≡ to_byte_idx Chars cs k
boundary_of_characters cs k =
    let p = boundary_weighed (λ _. 1) cs k in
    let q = to_byte_idx Chars cs k in
    let at = (boundary_weighed_is_greatest (λ _. 1) cs k).boundary in
    let at' = IsBoundary-to_byte_idx Chars cs k in
    let few = (boundary_weighed_iff (λ _. 1) cs p k at).0 (omega arith) in
    let few' = (boundary_adjunction Chars tt cs q k at').0 (omega arith) in
    omega (
      arith,
      (boundary_adjunction Chars tt cs p k at).1 (omega (arith, characters_weighed cs p)),
      (boundary_weighed_iff (λ _. 1) cs q k at').1 (omega (arith, characters_weighed cs q)),
    )

-- the lemmas for the laws of the way there and back and of greater indices
pub ruleset index_laws = (from-to, from_byte_idx-le, to_byte_idx-le)

-- the lemmas for the law of boundaries and ends
pub ruleset end_laws = (IsBoundary-to_byte_idx, boundary_weighed_is_greatest, cut_is_longest, ends_are, ends_increase)

-- Where an index goes that is at least the number of bytes of the text: to its end, in every scheme.

-- of numbers that increase, above low and at most high, number k is high or past the last, if high is at most low + k +
-- 1
get_or-past : (low : ℕ) (es : List ℕ) (high k : ℕ) → IncreasesWithin low es high → high ≤ low + suc k
    → get_or es k high ≡ high
get_or-past low [] high k h past = refl
get_or-past low (e ∷ es) high zero h past = let most = low_le_high e es high h.1 in omega (arith, h.0)
get_or-past low (e ∷ es) high (suc k) h past = get_or-past e es high k h.1 (omega (arith, h.0))

-- an index that is at least the size goes to the end of the text
to_byte_idx-past : (s : Scheme) (cs : List ℕ) (k : ℕ) → size cs ≤ k → to_byte_idx s cs k ≡ size cs
to_byte_idx-past Utf16 cs k past =
    let answer = boundary_weighed_is_greatest weight cs k in
    let whole : IsBoundary cs (size cs) = record { front = cs; back = []; split = sym (append-nil cs); place = refl } in
    let most = answer.greatest (size cs) whole (omega (arith, sum_by-le-sum_by weight len_utf8 cs weight-le)) in
    omega (arith, ap size answer.boundary.split, size-append answer.boundary.front answer.boundary.back)
to_byte_idx-past s cs zero past = omega arith
to_byte_idx-past s cs (suc k) past = get_or-past 0 (ends s cs) (size cs) k (ends_increase_within s cs) (omega arith)

-- an index that is at least the number of bytes goes after the last of them
pub to_byte_idx-past_bytes : (s : Scheme) (bytes : List ℕ) → IsUtf8 bytes → (k : ℕ) → length bytes ≤ k
    → to_byte_idx s (chars bytes) k ≡ length bytes
to_byte_idx-past_bytes s bytes utf8 k past =
    omega (arith, to_byte_idx-past s (chars bytes) k, size-chars bytes utf8)

-- the lemmas for the law of an index past the end
pub ruleset past_ends = (to_byte_idx-past_bytes)

-- The counts and the conversions of two joined texts, by those of each, in every scheme.

-- the answers of a scheme for a and b, joined, by its answers for each
pub record IsJoined (s : Scheme) (a b : List ℕ) : Type 0 where
  pub counts : count s (a ++ b) + seam_loss s a b ≡ count s a + count s b
  pub loss_within : seam_loss s a b ≤ count s a
  pub from_before : (i : ℕ) → i < size a → from_byte_idx s (a ++ b) i ≡ from_byte_idx s a i
  pub from_behind : (j : ℕ)
      → from_byte_idx s (a ++ b) (size a + j) + seam_loss s a b ≡ count s a + from_byte_idx s b j
  pub to_before : (k : ℕ) → k + seam_loss s a b ≤ count s a → to_byte_idx s (a ++ b) k ≡ to_byte_idx s a k
  pub to_behind : (k index : ℕ) → count s a < k + seam_loss s a b → count s a + index ≡ k + seam_loss s a b
      → to_byte_idx s (a ++ b) k ≡ size a + to_byte_idx s b index

-- each of the five schemes answers so
pub is_joined : (s : Scheme) (a b : List ℕ) → IsJoined s a b
is_joined Utf16 a b = record {
  counts = count-append Utf16 a b;
  loss_within = omega arith;
  from_before = λ i before. units-before a b i (omega arith);
  from_behind = λ j. omega (arith, units-behind a b j);
  to_before = λ k within. boundary_at_units-before a b k (omega arith);
  to_behind = λ k index past sum. boundary_at_units-behind a b k index (omega arith);
}
is_joined s a b = record {
  counts = count-append s a b;
  loss_within = seam_loss-le s a b;
  from_before = ends_up_to-before s a b;
  from_behind = ends_up_to-behind s a b;
  to_before = end_at-before s a b;
  to_behind = end_at-behind s a b;
}

-- No answer of a scheme is above the size of the text. And the answers at the edges of a text.

-- numbers that increase up to a bound are no more than it
length-le : (low : ℕ) (es : List ℕ) (high : ℕ) → IncreasesWithin low es high → low + length es ≤ high
length-le low [] high h = omega arith
length-le low (e ∷ es) high h = omega (arith, length-le e es high h.1, h.0)

-- no text has more of anything than bytes
pub count-le-size : (s : Scheme) (cs : List ℕ) → count s cs ≤ size cs
count-le-size Utf16 cs = omega (arith, count-units cs, sum_by-le-sum_by weight len_utf8 cs weight-le)
count-le-size s cs = omega (arith, length-le 0 (ends s cs) (size cs) (ends_increase_within s cs))

-- no byte index that is answered is above the size
pub to_byte_idx-le-size : (s : Scheme) (cs : List ℕ) (k : ℕ) → to_byte_idx s cs k ≤ size cs
to_byte_idx-le-size s cs k =
    let at = IsBoundary-to_byte_idx s cs k in omega (arith, at.place, ap size at.split, size-append at.front at.back)

-- at or past its end a text has all that it counts
pub from_byte_idx-all : (s : Scheme) (cs : List ℕ) (byte : ℕ) → size cs ≤ byte → from_byte_idx s cs byte ≡ count s cs
from_byte_idx-all Utf16 cs byte past = omega (arith, count-units cs, ap (sum_by weight) (cut_all cs byte past))
from_byte_idx-all s cs byte past = ends_up_to-all s cs byte past

-- before a byte index is no more than in all of the text
pub from_byte_idx-le-count : (s : Scheme) (cs : List ℕ) (byte : ℕ) → from_byte_idx s cs byte ≤ count s cs
from_byte_idx-le-count s cs byte =
    omega (arith, from_byte_idx-le s cs byte (byte + size cs), from_byte_idx-all s cs (byte + size cs))

-- the index 0 begins at 0
pub to_byte_idx-zero : (s : Scheme) (cs : List ℕ) → to_byte_idx s cs 0 ≡ 0
to_byte_idx-zero Utf16 cs =
    let answer = boundary_weighed_is_greatest weight cs 0 in
    (elim answer.boundary.front as (λ front. answer.boundary.front ≡ front → boundary_at_units cs 0 ≡ 0) [
      | [] ↦ λ is. omega (arith, answer.boundary.place, ap size is)
      | c ∷ rest ↦ λ is.
          omega (arith, answer.fits, ap (sum_by weight) is, sum_by-cons weight c rest, weight_is_one_or_two c)
    ]) refl
to_byte_idx-zero s cs = refl

-- nothing is counted in the empty text
pub count-nil : (s : Scheme) → count s [] ≡ 0
count-nil Utf16 = refl
count-nil s = refl
