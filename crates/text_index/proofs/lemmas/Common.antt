-- The names that the proofs here cite most, passed on from one place. Declares nothing.
pub use Rattle.std.proofs.Common.{◌≡◌, ◌≢◌, ℕ, zero, suc, ◌+◌, ◌-◌, ◌*◌, ◌/◌, ◌^◌, ◌<◌, ◌≤◌, ◌⊎◌, ◌&&◌, inl, inr, Bool, true, false, cond, List, [], ◌∷◌, ◌++◌, length, take, drop, chars, IsUtf8, IsCharBoundary, sym, refl, ap, subst, ◌∙◌, append_assoc, append-nil, arith, slice_index_or}
pub use Rattle.std.proofs.lemmas.Bool.{cases_lt, cases_Bool, and_parts, and_from}
pub use Rattle.std.proofs.lemmas.Str.{len_utf8_bounds}
pub use Rattle.str_indices.proofs.lemmas.Callers.{IsCharBoundary-from_boundary, IsBoundary-from_char_boundary, count-le-size, count-nil, from_byte_idx-all, from_byte_idx-le-count, to_byte_idx-zero, to_byte_idx-le-size, is_joined, size-append, size-chars, size-cons, starts_with_feed-append}
pub use Rattle.str_indices.specs.Joins.{ends_in_return, starts_with_feed, joins_crlf, seam_loss}
pub use Rattle.str_indices.specs.Relations.{IsBoundary, IsCrlfMiddle}
pub use Rattle.str_indices.specs.Schemes.{count, from_byte_idx, to_byte_idx}
pub use Rattle.str_indices.specs.Text.{Text, size, line_feed, carriage_return}
pub use Rattle.str_indices.specs.declared.Scheme.{Scheme}
pub use Rattle.text_summary.proofs.lemmas.Callers.{same_cut, none_of, boundary_upto, same_fields}
pub use Rattle.text_index.specs.Marks.{stretch_size, stretches_of, count_at, IsMark, IsMarkAt, AreMarks, MarksState, begins_at, parts_of}
pub use Rattle.text_index.specs.Places.{IsMarkPlace}
pub use Rattle.text_index.specs.Stretches.{IsPart, IsStretch, AddsUp, StandsRound, Answers, HasPlace, Reaches, EndsBy}
pub use Rattle.text_index.specs.declared.mark.Mark.{Mark}
pub use Rattle.text_index.specs.declared.stretch.Stretch.{Stretch}
