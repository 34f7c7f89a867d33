-- The names that the proofs here cite most, passed on from one place. Declares nothing.
pub use Rattle.std.proofs.Common.{◌==◌, Some, None, Option, ◌≡◌, ℕ, zero, suc, ◌+◌, ◌-◌, ◌*◌, ◌^◌, ◌<◌, ◌≤◌, ◌↔◌, min, Bool, true, false, cond, not, IsTrue, ◌≢◌, ◌⊎◌, List, [], ◌∷◌, ◌++◌, length, take, drop, nat_le, IsUtf8, sum_by, count_by, chars, IsCharBoundary, sym, refl, ap, ap₂, ◌∙◌, subst, inl, inr, append_assoc, append-nil, arith, take-append-drop, length-take-le, le_refl, pow-add, pow_pos, mul-le-mul, true≢false}
pub use Rattle.std.proofs.Math.Nat.{zero-add, add-zero}
pub use Rattle.std.proofs.Math.Seq.{drop-append_seam}
pub use Rattle.std.proofs.lemmas.Bool.{cases_lt, cases_Bool}
pub use Rattle.std.proofs.lemmas.List.{append_cancel_left}
pub use Rattle.std.proofs.lemmas.List.Sums.{sum_by-cons, sum_by-append, count_by-le-length, take_while-cons, sum_by-le-sum_by}
pub use Rattle.std.proofs.lemmas.Str.{IsUtf8-take, IsUtf8-drop, len_utf8_bounds}
pub use Rattle.std.specs.Char.{len_utf8}
pub use Rattle.std.specs.List.{before_first}
pub use Rattle.str_indices.proofs.lemmas.Callers.{IsCharBoundary-from_boundary, chars-append, size-chars, size-cons, size-append, boundary_beside, cut_front, cut_goes_on, cut_all, cut_is_longest, IsBoundary-from_char_boundary, IsBoundary-before, IsBoundary-behind, IsBoundary-either, weighed_at, weighed-le-weighed, boundary_weighed_is_greatest, boundary_weighed_iff, boundary_weighed-le, weighed_is_greatest_boundary, end_at-past, to_byte_idx-le-size, to_byte_idx-zero, is_crlf_middle_iff, IsBoundary-to_byte_idx, from_byte_idx-le, to_byte_idx-le, to_le_iff, characters_weighed, boundary_of_characters, from_byte_idx-le-count, from_byte_idx-all, count-le-size, from-to, to-from_is_greatest, IsJoined, is_joined, ends_in_return-one, ends_in_return-append}
pub use Rattle.str_indices.specs.Joins.{seam_loss, ends_in_return, starts_with_feed, joins_crlf}
pub use Rattle.str_indices.specs.Relations.{IsBoundary, IsBreakEnd, IsEndOf, IsCrlfMiddle, IsEnd}
pub use Rattle.str_indices.specs.Schemes.{ends, break_characters, count, from_byte_idx, to_byte_idx, weighed, boundary_weighed}
pub use Rattle.str_indices.specs.Starts.{IsGreatestBoundary}
pub use Rattle.str_indices.specs.Text.{Text, size, line_feed, carriage_return, is_crlf_middle, cut, weight}
pub use Rattle.str_indices.specs.declared.Scheme.{Scheme}
pub use Rattle.str_indices.specs.declared.Scheme.TheVariants.{Chars, Utf16}
pub use Rattle.positions.specs.Encodings.{units_of}
pub use Rattle.positions.specs.Relations.{IsBreakStart, IsLineEnd, IsGreatestPlace, IsAtOrBefore}
pub use Rattle.positions.specs.declared.Position.{Position}
pub use Rattle.positions.specs.declared.Range.{Range}
pub use Rattle.positions.specs.declared.encodings.Encoding.{Encoding}
pub use Rattle.positions.specs.Lines.{text_after, scheme_of, is_break, line_content, line_end}
pub use Rattle.positions.specs.Positions.{is_at_or_before, units_on_line, position_at, byte_at, is_exact, exact_byte_at, byte_range_at}
pub use Rattle.positions.specs.Parts.{PartsState, IsSearched, Searched, IsPart, HasByte, HasLine}
pub use Rattle.positions.specs.Units.{unit_scheme}
pub use Rattle.positions.specs.declared.line_type.LineType.{LineType}
pub use Rattle.positions.specs.declared.parts.Part.{Part}
