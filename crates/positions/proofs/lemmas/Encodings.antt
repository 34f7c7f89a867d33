-- The units of an encoding, by the calls that count them.
use Rattle.positions.specs.declared.encodings.Encoding.TheVariants as encodings
use Rattle.std.proofs.lemmas.Bool.Decides.{nat_tests}
use Rattle.str_indices.proofs.lemmas.Callers.{weight-some}
use Rattle.positions.proofs.lemmas.Common.{◌≡◌, ℕ, ◌<◌, ◌≤◌, List, inl, inr, refl, arith, cases_lt, chars, IsUtf8, IsCharBoundary, len_utf8, len_utf8_bounds, Text, size, cut, weighed, boundary_weighed, IsBoundary, IsGreatestBoundary, IsBoundary-from_char_boundary, IsCharBoundary-from_boundary, cut_is_longest, weighed_at, weighed-le-weighed, boundary_weighed_is_greatest, Encoding, units_of, Some, None, sym, Scheme, Chars, Utf16, from_byte_idx, to_byte_idx, characters_weighed, boundary_of_characters, unit_scheme}

-- The count of an encoding before a byte index, and the place of k units, by the calls that compute them.

-- a char takes some
pub units_of-some : (e : Encoding) (c : ℕ) → 0 < units_of e c
units_of-some encodings.Utf8 c = omega (arith, len_utf8_bounds c)
units_of-some encodings.Utf16 c = weight-some c
units_of-some encodings.Utf32 c = omega arith

-- and no more than its bytes
pub units_of-le : (e : Encoding) (c : ℕ) → units_of e c ≤ len_utf8 c
units_of-le encodings.Utf8 c = omega arith
units_of-le encodings.Utf16 c = grind (arith, nat_tests, len_utf8_bounds c)
units_of-le encodings.Utf32 c = omega (arith, len_utf8_bounds c)

-- the greatest boundary at or before a byte index has as many bytes before it
pub weighed_bytes : (cs : Text) (byte p : ℕ) → IsGreatestBoundary cs byte p → p ≡ weighed len_utf8 cs byte
weighed_bytes cs byte p place =
    let longest = cut_is_longest cs byte in
    let here : IsBoundary cs (size (cut cs byte)) =
    record { front = cut cs byte; back = longest.back; split = longest.split; place = refl } in
    omega (
      arith,
      place.greatest (size (cut cs byte)) here longest.fits,
      weighed-le-weighed len_utf8 cs p byte place.at_or_before,
      weighed_at len_utf8 cs p place.boundary,
      place.boundary.place,
    )

-- and it is the place of k bytes
pub boundary_of_bytes : (cs : Text) (k p : ℕ) → IsGreatestBoundary cs k p → p ≡ boundary_weighed len_utf8 cs k
boundary_of_bytes cs k p place =
    let answer = boundary_weighed_is_greatest len_utf8 cs k in
    omega (
      arith,
      place.greatest (boundary_weighed len_utf8 cs k) answer.boundary (omega (arith, answer.boundary.place, answer.fits)),
      answer.greatest p place.boundary (omega (arith, place.boundary.place, place.at_or_before)),
    )

-- the nearest place at or before a byte index where std lets a text be sliced is the greatest boundary there
pub nearest_is_greatest : (bytes : List ℕ) → IsUtf8 bytes → (byte p : ℕ) → IsCharBoundary bytes p → p ≤ byte
    → ((i : ℕ) → p < i → i ≤ byte → ¬ (IsCharBoundary bytes i)) → IsGreatestBoundary (chars bytes) byte p
nearest_is_greatest bytes utf8 byte p at le nearest = record {
  boundary = IsBoundary-from_char_boundary bytes utf8 p at;
  at_or_before = le;
  greatest = λ q here before. elim (cases_lt p q) [
    | inl past ↦ absurd (nearest q past before (IsCharBoundary-from_boundary bytes utf8 q here))
    | inr within ↦ within
  ];
}

-- The units of an encoding, by what counts them.

pub weighed_by_bytes : (e : Encoding) (cs : Text) (byte p : ℕ) → unit_scheme e ≡ None → IsGreatestBoundary cs byte p
    → p ≡ weighed (units_of e) cs byte
weighed_by_bytes encodings.Utf8 cs byte p is place = weighed_bytes cs byte p place
weighed_by_bytes encodings.Utf16 cs byte p is place = cc
weighed_by_bytes encodings.Utf32 cs byte p is place = cc

pub weighed_by_scheme : (e : Encoding) (cs : Text) (byte : ℕ) (s : Scheme) → unit_scheme e ≡ Some s
    → from_byte_idx s cs byte ≡ weighed (units_of e) cs byte
weighed_by_scheme encodings.Utf8 cs byte s is = cc
weighed_by_scheme encodings.Utf16 cs byte s is = let same : s ≡ Utf16 = cc in rw same refl
weighed_by_scheme encodings.Utf32 cs byte s is = let same : s ≡ Chars = cc in rw same (sym (characters_weighed cs byte))

pub placed_by_bytes : (e : Encoding) (cs : Text) (k p : ℕ) → unit_scheme e ≡ None → IsGreatestBoundary cs k p
    → p ≡ boundary_weighed (units_of e) cs k
placed_by_bytes encodings.Utf8 cs k p is place = boundary_of_bytes cs k p place
placed_by_bytes encodings.Utf16 cs k p is place = cc
placed_by_bytes encodings.Utf32 cs k p is place = cc

pub placed_by_scheme : (e : Encoding) (cs : Text) (k : ℕ) (s : Scheme) → unit_scheme e ≡ Some s
    → to_byte_idx s cs k ≡ boundary_weighed (units_of e) cs k
placed_by_scheme encodings.Utf8 cs k s is = cc
placed_by_scheme encodings.Utf16 cs k s is = let same : s ≡ Utf16 = cc in rw same refl
placed_by_scheme encodings.Utf32 cs k s is = let same : s ≡ Chars = cc in rw same (sym (boundary_of_characters cs k))
