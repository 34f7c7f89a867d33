-- Parts of which something is known: that a char is a byte or a unit, or that no line ends in them.
use Rattle.str_indices.specs.declared.Scheme.TheVariants as schemes
use Rattle.positions.proofs.lemmas.Lines.{boundary_within, split_at_first, line_end_past, not_utf16, none_before}
use Rattle.positions.specs.Characters.{IsBackOf}
use Rattle.positions.specs.Units.{HasSameUnits}
use Rattle.positions.specs.Parts.{HasPartCounts}
use Rattle.positions.specs.declared.parts.PartCounts.{PartCounts}
use Rattle.positions.proofs.lemmas.Common.{◌≡◌, ℕ, ◌+◌, ◌≤◌, [], ◌++◌, sym, refl, ap, ◌∙◌, arith, append_assoc, append-nil, sum_by, sum_by-append, sum_by-le-sum_by, cut, cut_is_longest, is_joined, Text, size, count, from_byte_idx, from-to, IsBoundary, Option, Some, None, subst, to_byte_idx, to_byte_idx-zero, weighed, boundary_weighed, boundary_weighed_is_greatest, boundary_weighed_iff, units_of, scheme_of, is_break, line_content, byte_at, chars, IsPart, Part, Encoding, LineType, min, IsGreatestBoundary, unit_scheme, Scheme}
use Rattle.std.specs.Prelude.{IfSome, IsSome}
use Rattle.positions.proofs.lemmas.Parts.{weighed_all, weighed_none, first_content}
use Rattle.positions.proofs.lemmas.Laws.{byte_of_units}
use Rattle.positions.specs.declared.encodings.Encoding.TheVariants.{Utf8, Utf16, Utf32}
use Rattle.str_indices.proofs.lemmas.Callers.{count-units, count_characters}
use Rattle.text_summary.proofs.lemmas.Callers.{each_byte_is_boundary}
use Rattle.positions.proofs.lemmas.Encodings.{weighed_bytes, boundary_of_bytes, units_of-le, units_of-some}

-- Parts of which something is known: that each char is one byte, or that no line ends in them.

-- where a text has as many units by both of two encodings, and no char has more by the first, so has each stretch
pub units_alike : (e f : Encoding) (text : Text) → ((c : ℕ) → units_of e c ≤ units_of f c)
    → sum_by (units_of e) text ≡ sum_by (units_of f) text → HasSameUnits e f text
units_alike e f text le same = λ front own back split.
    let less = λ (t : Text). sum_by-le-sum_by (units_of e) (units_of f) t le in
    let whole = λ (w : ℕ → ℕ). ap (sum_by w) split ∙ sum_by-append w front (own ++ back) ∙ ap (λ n. sum_by w front + n)
    (sum_by-append w own back) in
    omega (arith, same, whole (units_of f), whole (units_of e), less front, less own, less back)

module _ (e f : Encoding) (text : Text) (same : HasSameUnits e f text) where
  -- so has each stretch of such a text
  pub same_within : (front own back : Text) → text ≡ front ++ (own ++ back) → HasSameUnits e f own
  same_within front own back split = λ a m b is.
      let parts : front ++ ((a ++ (m ++ b)) ++ back) ≡ (front ++ a) ++ (m ++ (b ++ back)) = simp append_assoc in
      same (front ++ a) m (b ++ back) (split ∙ ap (λ t. front ++ (t ++ back)) is ∙ parts)

  pub same_behind : (rest : Text) (at : ℕ) → IsBackOf text rest at → HasSameUnits e f rest
  same_behind rest at is =
      same_within is.front rest [] (is.parts ∙ ap (λ t. is.front ++ t) (sym (append-nil rest)))

  -- up to a place it has as many units by both
  pub weighed_same : (n : ℕ) → weighed (units_of e) text n ≡ weighed (units_of f) text n
  weighed_same n = let longest = cut_is_longest text n in same [] (cut text n) longest.back longest.split

  -- and k units end at the same place by both
  pub placed_same : (k : ℕ) → boundary_weighed (units_of e) text k ≡ boundary_weighed (units_of f) text k
  placed_same k =
      let p = boundary_weighed (units_of e) text k in
      let q = boundary_weighed (units_of f) text k in
      let at_p = (boundary_weighed_is_greatest (units_of e) text k).boundary in
      let at_q = (boundary_weighed_is_greatest (units_of f) text k).boundary in
      let few_p = (boundary_weighed_iff (units_of e) text p k at_p).0 (omega arith) in
      let few_q = (boundary_weighed_iff (units_of f) text q k at_q).0 (omega arith) in
      omega (
        arith,
        (boundary_weighed_iff (units_of f) text p k at_p).1 (omega (arith, few_p, weighed_same p)),
        (boundary_weighed_iff (units_of e) text q k at_q).1 (omega (arith, few_q, weighed_same q)),
      )

-- so it is on the first line
pub first_same : (l : LineType) (e f : Encoding) (text : Text) (k : ℕ) → HasSameUnits e f text
    → byte_at l e text (record { line = 0; character = k }) ≡ byte_at l f text (record { line = 0; character = k })
first_same l e f text k same =
    let first = split_at_first (is_break l) text in
    let split : text ≡ [] ++ (line_content l text 0 ++ first.after) =
    first.split ∙ ap (λ t. t ++ first.after) (sym (first_content l text)) in
    ap (λ n. to_byte_idx (scheme_of l) text 0 + n)
    (placed_same e f (line_content l text 0) (same_within e f text same [] (line_content l text 0) first.after split) k)

-- a text that has no break is its first line
pub unbroken_place : (l : LineType) (e : Encoding) (text : Text) (k : ℕ) → count (scheme_of l) text ≡ 0
    → boundary_weighed (units_of e) text k ≡ byte_at l e text (record { line = 0; character = k })
unbroken_place l e text k none =
    let w = units_of e in
    let zero : weighed w text (to_byte_idx (scheme_of l) text 0) + k ≡ k =
    omega (arith, ap (weighed w text) (to_byte_idx-zero (scheme_of l) text), weighed_none w text) in
    omega (
      arith,
      byte_of_units l e text (record { line = 0; character = k }),
      ap (boundary_weighed w text) zero,
      line_end_past l text 0 (omega (arith, none)),
      boundary_within text (boundary_weighed w text k) (boundary_weighed_is_greatest w text k).boundary,
    )

-- from where its last line begins on, a text has no break
pub none_behind_last : (l : LineType) (text rest : Text) (at k : ℕ) → at ≡ to_byte_idx (scheme_of l) text k
    → count (scheme_of l) text ≤ k → IsBackOf text rest at → count (scheme_of l) rest ≡ 0
none_behind_last l text rest at k at_is last is =
    let s = scheme_of l in
    let joined = is_joined s is.front rest in
    let here : size is.front + 0 ≡ to_byte_idx s text k = omega (arith, is.place, at_is) in
    omega (
      arith,
      ap (count s) is.parts,
      joined.counts,
      joined.loss_within,
      joined.from_behind 0,
      none_before l rest,
      ap (λ t. from_byte_idx s t (to_byte_idx s text k)) is.parts,
      ap (from_byte_idx s (is.front ++ rest)) here,
      from-to s (not_utf16 l) text k,
      last,
    )

-- where the rest has no more units than these, they end with it
pub all_units : (e : Encoding) (text rest : Text) (at k : ℕ) → sum_by (units_of e) text ≤ k → IsBackOf text rest at
    → size rest ≡ boundary_weighed (units_of e) rest k
all_units e text rest at k few is =
    let w = units_of e in
    let ends : IsBoundary rest (size rest) =
    record { front = rest; back = []; split = sym (append-nil rest); place = refl } in
    let most = (boundary_weighed_iff w rest (size rest) k ends).1
    (omega (arith, weighed_all w rest, few, ap (sum_by w) is.parts, sum_by-append w is.front rest)) in
    omega (arith, most, boundary_within rest (boundary_weighed w rest k) (boundary_weighed_is_greatest w rest k).boundary)

-- an option that is None is not some
pub not_none : (may : Option ℕ) → may ≡ None → ¬ (IsSome may)
not_none (Some n) is some = cc
not_none None is some = cc

-- if P holds of an option's value, it holds of the value that it has
pub some_is : {A : Type 0} (P : A → Type 0) (may : Option A) (is : A) → IfSome may P → may ≡ Some is → P is
some_is {A} P (Some a) is holds same = let here : a ≡ is = cc in subst P here holds
some_is P None is holds same = cc

-- so it is with the counts that a part has of its own
pub part_counts_are : (cs : Text) (l : LineType) (e : Encoding) (part : Part) (own : PartCounts) → IsPart cs l e part → part.counts ≡ Some own
    → HasPartCounts l e (chars part.text.now) own
part_counts_are cs l e part own is told = some_is (HasPartCounts l e (chars part.text.now)) part.counts own is.counts told

-- Units that are bytes or chars, where there are as many.

-- the count of a text in a scheme is the units of its encoding
pub units_are : (e : Encoding) (s : Scheme) (text : Text) → unit_scheme e ≡ Some s → count s text ≡ sum_by (units_of e) text
units_are Utf8 s text some = cc
units_are Utf16 s text some = let same : s ≡ schemes.Utf16 = cc in rw same (count-units text)
units_are Utf32 s text some = let same : s ≡ schemes.Chars = cc in rw same (count_characters text)

-- and bytes have no scheme
pub bytes_are : (e : Encoding) (text : Text) → unit_scheme e ≡ None → size text ≡ sum_by (units_of e) text
bytes_are Utf8 text none = refl
bytes_are Utf16 text none = cc
bytes_are Utf32 text none = cc

-- they are bytes, or chars, where there are as many
pub as_bytes : (e : Encoding) (text : Text) → sum_by (units_of e) text ≡ size text → HasSameUnits e Utf8 text
as_bytes e text same = units_alike e Utf8 text (units_of-le e) same

pub as_chars : (e : Encoding) (text : Text) → sum_by (units_of e) text ≡ count schemes.Chars text → HasSameUnits e Utf32 text
as_chars e text same =
    let alike = units_alike Utf32 e text (units_of-some e) (sym (count_characters text) ∙ sym same) in
    λ front own back split. sym (alike front own back split)

-- where each char is one byte, the units before a byte are the bytes, and k units end at byte k
module _ (e : Encoding) (cs : Text) (ascii : count schemes.Chars cs ≡ size cs) where
  ascii_units : HasSameUnits e Utf8 cs
  ascii_units =
      let least = sum_by-le-sum_by (λ _. 1) (units_of e) cs (units_of-some e) in
      let most = sum_by-le-sum_by (units_of e) (units_of Utf8) cs (units_of-le e) in
      as_bytes e cs (omega (arith, least, most, count_characters cs, ascii))

  ascii_start : (byte : ℕ) → IsGreatestBoundary cs byte (min byte (size cs))
  ascii_start byte = record {
    boundary = each_byte_is_boundary cs ascii (min byte (size cs)) (omega arith);
    at_or_before = omega arith;
    greatest = λ q there le. omega (arith, le, boundary_within cs q there);
  }

  pub ascii_weighed : (byte : ℕ) → min byte (size cs) ≡ weighed (units_of e) cs byte
  ascii_weighed byte = weighed_bytes cs byte (min byte (size cs)) (ascii_start byte) ∙ sym (weighed_same e Utf8 cs ascii_units byte)

  pub ascii_placed : (k : ℕ) → min k (size cs) ≡ boundary_weighed (units_of e) cs k
  ascii_placed k = boundary_of_bytes cs k (min k (size cs)) (ascii_start k) ∙ sym (placed_same e Utf8 cs ascii_units k)
