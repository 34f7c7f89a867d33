-- The names that the proofs here cite most, passed on from one place. Declares nothing.
pub use Rattle.std.proofs.Common.{◌≡◌, ℕ, zero, suc, ◌+◌, ◌-◌, ◌*◌, ◌/◌, ◌^◌, ◌<◌, ◌≤◌, ◌≢◌, max, List, [], ◌∷◌, ◌++◌, length, take, drop, string_bytes, IsUtf8, chars, sym, refl, ap, ◌∙◌, inl, inr, append_assoc, append-nil, arith, take-append-drop, add-one, IsCharBoundary, length-append, mul-le-mul, subst, length-take-le, eqb-true, rules}
pub use Rattle.std.proofs.lemmas.Bool.{cases_lt, eq-eqb}
pub use Rattle.std.proofs.lemmas.List.{get_or_default, take_all, take_more}
pub use Rattle.std.proofs.lemmas.Str.{chars-nil, IsUtf8-nil, IsUtf8-take, len_utf8_bounds}
pub use Rattle.std.specs.Char.{len_utf8}
pub use Rattle.str_indices.proofs.lemmas.Callers.{IsCharBoundary-from_boundary, IsBoundary-from_char_boundary, size-chars, chars-append, chars-some, chars-none, size-cons, count-le-size, size-append, is_joined, seam_loss-same, starts_with_feed-append, ends_in_return-append, count-nil, from_byte_idx-all, from_byte_idx-le-count, to_byte_idx-le-size, to_byte_idx-zero}
pub use Rattle.str_indices.specs.Joins.{ends_in_return, starts_with_feed, seam_loss}
pub use Rattle.str_indices.specs.Relations.{IsBoundary}
pub use Rattle.str_indices.specs.Schemes.{count, from_byte_idx, to_byte_idx}
pub use Rattle.str_indices.specs.Text.{Text, size}
pub use Rattle.str_indices.specs.declared.Scheme.{Scheme}
pub use Rattle.str_indices.specs.declared.Scheme.TheVariants.{Chars, Crlf, Lf, Lines, Utf16}
pub use Rattle.text_summary.proofs.lemmas.Callers.{replaced_bytes, size-replaced, taken_then_put, AreParts, parts_of, same_cut, same_parts, boundary-le, boundary_left, boundary_right, boundary_start, boundary_end, boundary_upto, none_of, some_of, size-some, count_of-summary, same_fields, joined-append, joined-split, joined-take, joined-drop, drop-piece, joined_size-take, Tells, tells}
pub use Rattle.text_summary.specs.Fronts.{IsFront, IsStep}
pub use Rattle.text_summary.specs.declared.fronts.Front.{Front}
pub use Rattle.text_summary.specs.declared.fronts.Step.{Step}
pub use Rattle.text_summary.specs.Changes.{IsReplaced}
pub use Rattle.text_summary.specs.Pieces.{joined, joined_size, piece_at}
pub use Rattle.text_summary.specs.Summaries.{summary_of, count_of}
pub use Rattle.text_summary.specs.declared.summaries.Summary.{Summary}
pub use Rattle.text_rope.specs.ChunkSizes.{max_chunk, min_chunk, IsLongEnough, AreLongEnough, IsFilled, IsKept}
pub use Rattle.text_rope.specs.Shifts.{IsShift, FitsShift}
pub use Rattle.text_rope.specs.Shapes.{Seen, DifferByAtMost, IsBranchOf, IsLeafOf, IsJoinedHeight, IsJoined, fewest}
