-- The lemmas that proofs of other crates may cite of this crate, and one lemma of std. `CALLING.md` says in groups what
-- they are for.
use Rattle.str_indices.proofs.lemmas.Common.{◌≡◌, ℕ, ◌≤◌, inl, inr, List, length, get_or, arith, true, false, sym, ◌∙◌, ap, subst, chars, IsUtf8, IsCharBoundary, cases_lt, size, Scheme, to_byte_idx, IsBoundary, is_trailing}
use Rattle.str_indices.proofs.lemmas.Bytes.{is_trailing_later, boundary_begins}
pub use Rattle.std.proofs.lemmas.Str.{chars-append}
pub use Rattle.str_indices.proofs.lemmas.Bytes.{IsBoundary-from_char_boundary, whole_text, size-chars, starts_with_feed-bytes, ends_in_return-bytes, chars-some, chars-none}
pub use Rattle.str_indices.proofs.lemmas.Seams.{starts_with_feed_is, ends_in_return-one, ends_in_return-cons, starts_with_feed-append, ends_in_return-append, seam_loss-same, IsBoundary-before, IsBoundary-behind, IsBoundary-either}
pub use Rattle.str_indices.proofs.lemmas.Laws.{count-cut, IsJoined, is_joined, count-le-size, count-nil, to_byte_idx-le-size, to_byte_idx-zero, from_byte_idx-all, from_byte_idx-le-count, IsBoundary-to_byte_idx, from_byte_idx-le, to_byte_idx-le, boundary_adjunction, to-from_is_greatest_boundary, characters_weighed, boundary_of_characters, from-to, to_le_iff, to-from_is_greatest, boundary_weighed_iff, boundary_weighed-le, weighed_is_greatest_boundary, weighed_or_inside, weighed_inside}
pub use Rattle.str_indices.proofs.lemmas.Texts.{size-cons, size-append, boundary_beside, IsCutAt, cut_is, cut_front, cut_goes_on, cut_all, cut_is_longest, count_characters, weighed_at, weighed-le-weighed, boundary_weighed_is_greatest, count-units, weight-some, weight-le, end_at-past, is_crlf_middle_iff}

-- std lets a text be sliced at each boundary
pub IsCharBoundary-from_boundary : (bytes : List ℕ) → IsUtf8 bytes → (p : ℕ) → IsBoundary (chars bytes) p
    → IsCharBoundary bytes p
IsCharBoundary-from_boundary bytes utf8 p at =
    let within : p ≤ length bytes =
    omega (arith, at.place, ap size at.split, size-append at.front at.back, size-chars bytes utf8) in
    (within, λ inside. first (get_or bytes p 0) (boundary_begins bytes utf8 p at inside))
  where
    first : (byte : ℕ) → is_trailing byte ≡ false → 128 ≤ byte → 192 ≤ byte
    first byte begins above =
        elim (cases_lt byte 192) [
          | inl later ↦ let clash : true ≡ false =
              sym (is_trailing_later byte (record { low = above; high = later })) ∙ begins in cc
          | inr wide ↦ wide
        ]

-- std lets a text be sliced where a conversion to a byte index answers
pub IsCharBoundary-to_byte_idx : (s : Scheme) (bytes : List ℕ) → IsUtf8 bytes → (k p : ℕ)
    → p ≡ to_byte_idx s (chars bytes) k → IsCharBoundary bytes p
IsCharBoundary-to_byte_idx s bytes utf8 k p answer = IsCharBoundary-from_boundary bytes utf8 p
    (subst (IsBoundary (chars bytes)) (sym answer) (IsBoundary-to_byte_idx s (chars bytes) k))
