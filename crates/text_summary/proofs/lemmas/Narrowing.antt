-- Where the counts of a text tell that two schemes answer the same for it.
use Rattle.text_summary.proofs.lemmas.Common.{◌≡◌, ℕ, zero, suc, ◌≤◌, inl, inr, Bool, List, [], ◌∷◌, ◌++◌, length, refl, arith, sym, ◌∙◌, ap, len_utf8, len_utf8_bounds, Text, size, size-append, count, IsBoundary, Scheme}
use Rattle.std.proofs.Common.{true, min, map, filter, sum_by, count_by, nat_le, slice_index_or}
use Rattle.std.proofs.lemmas.Bool.{cases_Bool, and_parts, and_from}
use Rattle.std.proofs.lemmas.Bool.Decides.{nat_tests}
use Rattle.std.proofs.lemmas.List.{length-map}
use Rattle.std.proofs.lemmas.List.Sums.{sum_by-append, sum_by-cons, sum_by-le-sum_by}
use Rattle.std.specs.Char.{char_set_contains}
use Rattle.str_indices.proofs.lemmas.Callers.{IsCutAt, cut_is, count_characters, boundary_weighed_is_greatest, count-units, weight-some, weight-le, characters_weighed, boundary_of_characters}
use Rattle.str_indices.specs.Schemes.{break_characters, is_break_end, ends, ends_up_to, end_at, weighed, boundary_weighed}
use Rattle.str_indices.specs.declared.Scheme.TheVariants.{Chars, Utf16, Lf, Crlf, Lines}
use Rattle.str_indices.specs.Text.{Placed, placed, cut, weight}
use Rattle.text_summary.specs.Queries.{AnswersAs, CountsBytes}

-- if each element that passes q passes p, at least as many pass p as q
filter_fewer : {X : Type 0} (p q : X → Bool) → ((x : X) → q x ≡ true → p x ≡ true) → (xs : List X)
    → length (filter q xs) ≤ length (filter p xs)
filter_fewer p q within [] = omega arith
filter_fewer p q within (x ∷ xs) =
    let rest = filter_fewer p q within xs in
    elim (cases_Bool (q x)) [
      | inl passes ↦ rw (passes, within x passes) (omega arith)
      | inr fails ↦ rw fails (elim (cases_Bool (p x)) [
        | inl passes ↦ rw passes (omega arith)
        | inr fails' ↦ rw fails' rest
      ])
    ]

-- and if as many pass both tests, the same elements do
filter_same : {X : Type 0} (p q : X → Bool) → ((x : X) → q x ≡ true → p x ≡ true) → (xs : List X)
    → length (filter p xs) ≡ length (filter q xs) → filter p xs ≡ filter q xs
filter_same p q within [] same = refl
filter_same p q within (x ∷ xs) same =
    let fewer = filter_fewer p q within xs in
    elim (cases_Bool (q x)) [
      | inl passes ↦
          let rest = filter_same p q within xs (omega (arith, rw (passes, within x passes) at same)) in
          rw (passes, within x passes) (ap (λ l. x ∷ l) rest)
      | inr fails ↦ elim (cases_Bool (p x)) [
        | inl passes ↦ absurd (omega (arith, fewer, rw (fails, passes) at same))
        | inr fails' ↦ rw (fails, fails') (filter_same p q within xs (rw (fails, fails') at same))
      ]
    ]

-- the breaks of a lesser set of chars are breaks
breaks_within : (set more : List ℕ) → ((c : ℕ) → char_set_contains set c ≡ true → char_set_contains more c ≡ true)
    → (x : Placed) → is_break_end set x ≡ true → is_break_end more x ≡ true
breaks_within set more within x passes =
    let both = and_parts (char_set_contains set x.character) _ passes in
    and_from _ _ (within x.character both.0) both.1

feeds_are_breaks : (c : ℕ) → char_set_contains (break_characters Lf) c ≡ true
    → char_set_contains (break_characters Crlf) c ≡ true
feeds_are_breaks c is = grind (arith, nat_tests)

feeds_are_lines : (c : ℕ) → char_set_contains (break_characters Lf) c ≡ true
    → char_set_contains (break_characters Lines) c ≡ true
feeds_are_lines c is = grind (arith, nat_tests)

breaks_are_lines : (c : ℕ) → char_set_contains (break_characters Crlf) c ≡ true
    → char_set_contains (break_characters Lines) c ≡ true
breaks_are_lines c is = grind (arith, nat_tests)

-- if each break of a text by a lesser set is one by a greater set, and both have as many, they are the same
breaks_same : (set more : List ℕ) → ((c : ℕ) → char_set_contains set c ≡ true → char_set_contains more c ≡ true)
    → (t : Text) → length (map (λ p. p.end) (filter (is_break_end more) (placed 0 t)))
    ≡ length (map (λ p. p.end) (filter (is_break_end set) (placed 0 t)))
    → map (λ p. p.end) (filter (is_break_end more) (placed 0 t)) ≡ map (λ p. p.end) (filter (is_break_end set) (placed 0 t))
breaks_same set more within t same =
    let lengths = sym (length-map {A = Placed} {B = ℕ} (filter (is_break_end more) (placed 0 t)) (λ p. p.end)) ∙ same
    ∙ length-map {A = Placed} {B = ℕ} (filter (is_break_end set) (placed 0 t)) (λ p. p.end) in
    ap (map (λ p. p.end)) (filter_same (is_break_end more) (is_break_end set) (breaks_within set more within) (placed 0 t) lengths)

-- schemes with the same ends answer the same
ends_up_to-same : (s r : Scheme) (t : Text) → ends s t ≡ ends r t → (b : ℕ) → ends_up_to s t b ≡ ends_up_to r t b
ends_up_to-same s r t same b = ap (λ es. count_by (λ e. nat_le e b) es) same

end_at-same : (s r : Scheme) (t : Text) → ends s t ≡ ends r t → (k : ℕ) → end_at s t k ≡ end_at r t k
end_at-same s r t same zero = refl
end_at-same s r t same (suc k) = ap (λ es. slice_index_or es k (size t)) same

-- where a text has as many breaks of LF, CR and CRLF as it has LFs, these are its breaks
pub crlf_by_lf : (t : Text) → count Crlf t ≡ count Lf t → AnswersAs t Crlf Lf
crlf_by_lf t same =
    let ends_same = breaks_same (break_characters Lf) (break_characters Crlf) feeds_are_breaks t same in
    record { from = ends_up_to-same Crlf Lf t ends_same; to = end_at-same Crlf Lf t ends_same }

pub lines_by_lf : (t : Text) → count Lines t ≡ count Lf t → AnswersAs t Lines Lf
lines_by_lf t same =
    let ends_same = breaks_same (break_characters Lf) (break_characters Lines) feeds_are_lines t same in
    record { from = ends_up_to-same Lines Lf t ends_same; to = end_at-same Lines Lf t ends_same }

pub lines_by_crlf : (t : Text) → count Lines t ≡ count Crlf t → AnswersAs t Lines Crlf
lines_by_crlf t same =
    let ends_same = breaks_same (break_characters Crlf) (break_characters Lines) breaks_are_lines t same in
    record { from = ends_up_to-same Lines Crlf t ends_same; to = end_at-same Lines Crlf t ends_same }

-- where all chars together weigh the same by two weights, the lesser of which is nowhere more, so do those of a part
sums_same : (w v : ℕ → ℕ) → ((c : ℕ) → v c ≤ w c) → (t front back : Text) → t ≡ front ++ back
    → sum_by w t ≡ sum_by v t → (sum_by w front ≡ sum_by v front) × (sum_by w back ≡ sum_by v back)
sums_same w v less t front back split same =
    let first = sum_by-le-sum_by v w front less in
    let second = sum_by-le-sum_by v w back less in
    let whole = ap (sum_by w) split ∙ sum_by-append w front back in
    let whole' = ap (sum_by v) split ∙ sum_by-append v front back in
    (omega arith, omega arith)

weighed_same : (w v : ℕ → ℕ) → ((c : ℕ) → v c ≤ w c) → (t : Text) → sum_by w t ≡ sum_by v t
    → (b : ℕ) → weighed w t b ≡ weighed v t b
weighed_same w v less t same b =
    let parts = cut_is t b in (sums_same w v less t (cut t b) parts.rest parts.split same).0

boundary_weighed_same : (w v : ℕ → ℕ) → ((c : ℕ) → v c ≤ w c) → (t : Text) → sum_by w t ≡ sum_by v t
    → (k : ℕ) → boundary_weighed w t k ≡ boundary_weighed v t k
boundary_weighed_same w v less t same k =
    let p = boundary_weighed_is_greatest w t k in
    let q = boundary_weighed_is_greatest v t k in
    let at_p = (sums_same w v less t p.boundary.front p.boundary.back p.boundary.split same).0 in
    let at_q = (sums_same w v less t q.boundary.front q.boundary.back q.boundary.split same).0 in
    omega (
      arith,
      p.greatest (boundary_weighed v t k) q.boundary (omega (arith, q.fits)),
      q.greatest (boundary_weighed w t k) p.boundary (omega (arith, p.fits)),
    )

-- where each char takes one unit, units are chars
pub units_by_characters : (t : Text) → count Utf16 t ≡ count Chars t → AnswersAs t Utf16 Chars
units_by_characters t same =
    let sums : sum_by weight t ≡ sum_by (λ _. 1) t = omega (arith, count-units t, count_characters t, same) in
    record {
      from = λ b. weighed_same weight (λ _. 1) weight-some t sums b ∙ characters_weighed t b;
      to = λ k. boundary_weighed_same weight (λ _. 1) weight-some t sums k ∙ boundary_of_characters t k;
    }

-- a char takes a byte at least
bytes-some : (c : ℕ) → 1 ≤ len_utf8 c
bytes-some c = omega (arith, len_utf8_bounds c)

-- where each char takes one byte, each byte index up to the size is a cut
cut_bytes : (t : Text) → size t ≡ sum_by (λ _. 1) t → (b : ℕ) → size (cut t b) ≡ min b (size t)
cut_bytes t ones b = let parts = cut_is t b in whole (cut t b) parts.rest parts.split parts.at
  where
    whole : (front rest : List ℕ) → t ≡ front ++ rest → IsCutAt 0 front rest b → size front ≡ min b (size t)
    whole front [] split at = omega (arith, at.fits, ap size split, size-append front [])
    whole front (c ∷ after) split at =
        let back = (sums_same len_utf8 (λ _. 1) bytes-some t front (c ∷ after) split ones).1 in
        let rest = sum_by-le-sum_by {X = ℕ} (λ _. 1) len_utf8 after bytes-some in
        omega (
          arith,
          at.longest c after refl,
          at.fits,
          ap size split,
          size-append front (c ∷ after),
          back,
          sum_by-cons len_utf8 c after,
          sum_by-cons {X = ℕ} (λ _. 1) c after,
          rest,
          bytes-some c,
        )

-- and so the boundaries are the byte indices up to the size
pub each_byte_is_boundary : (t : Text) → count Chars t ≡ size t → (b : ℕ) → b ≤ size t → IsBoundary t b
each_byte_is_boundary t same b within =
    let parts = cut_is t b in
    record {
      front = cut t b;
      back = parts.rest;
      split = parts.split;
      place = omega (arith, cut_bytes t (omega (arith, same, count_characters t)) b);
    }

boundary_bytes : (t : Text) → size t ≡ sum_by (λ _. 1) t → (k : ℕ) → boundary_weighed len_utf8 t k ≡ min k (size t)
boundary_bytes t ones k =
    let p = boundary_weighed_is_greatest len_utf8 t k in
    let parts = cut_is t k in
    let other : IsBoundary t (size (cut t k)) = record { front = cut t k; back = parts.rest; split = parts.split; place = refl } in
    omega (
      arith,
      cut_bytes t ones k,
      p.greatest (size (cut t k)) other (omega (arith, parts.at.fits)),
      p.fits,
      p.boundary.place,
      ap size p.boundary.split,
      size-append p.boundary.front p.boundary.back,
    )

-- where a text has as many chars as bytes, each byte counts one
pub characters_are_bytes : (t : Text) → count Chars t ≡ size t → CountsBytes t Chars
characters_are_bytes t same =
    let ones : size t ≡ sum_by (λ _. 1) t = omega (arith, same, count_characters t) in
    record {
      from = λ b. sym (characters_weighed t b) ∙ sym (weighed_same len_utf8 (λ _. 1) bytes-some t ones b) ∙ cut_bytes t ones b;
      to = λ k. sym (boundary_of_characters t k) ∙ sym (boundary_weighed_same len_utf8 (λ _. 1) bytes-some t ones k)
          ∙ boundary_bytes t ones k;
    }

-- then it has as many UTF-16 units, since a char takes as many units as bytes at most
pub as_many_units : (t : Text) → count Chars t ≡ size t → count Utf16 t ≡ count Chars t
as_many_units t same =
    let most = sum_by-le-sum_by weight len_utf8 t weight-le in
    let least = sum_by-le-sum_by {X = ℕ} (λ _. 1) weight t weight-some in
    omega (arith, count-units t, count_characters t, same, most, least)

-- and so each byte counts one in UTF-16 too
pub units_are_bytes : (t : Text) → count Chars t ≡ size t → CountsBytes t Utf16
units_are_bytes t same =
    let units = units_by_characters t (as_many_units t same) in
    let bytes = characters_are_bytes t same in
    record { from = λ b. units.from b ∙ bytes.from b; to = λ k. units.to k ∙ bytes.to k }
