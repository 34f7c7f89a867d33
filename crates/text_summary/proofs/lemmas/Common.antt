-- The names that the proofs here cite most, passed on from one place. Declares nothing.
pub use Rattle.std.proofs.Common.{◌≡◌, ℕ, zero, suc, ◌+◌, ◌-◌, ◌^◌, inl, inr, ◌<◌, ◌≤◌, Bool, cond, ◌&&◌, ◌≢◌, List, [], ◌∷◌, ◌++◌, length, take, drop, insert, chars, IsUtf8, IsCharBoundary, drop-drop, eqb-true, length-take-le, sym, refl, ap, ◌∙◌, append_assoc, append-nil, add-one, arith, take-append-drop}
pub use Rattle.std.proofs.lemmas.List.{take_more}
pub use Rattle.std.proofs.lemmas.Str.{IsUtf8-take, IsUtf8-drop, len_utf8_bounds}
pub use Rattle.std.proofs.lemmas.Bool.{cases_lt}
pub use Rattle.std.specs.Char.{len_utf8}
pub use Rattle.std.proofs.lemmas.Str.Pattern.{starts_text, ends_text}
pub use Rattle.str_indices.proofs.lemmas.Callers.{size-chars, chars-append, chars-none, IsBoundary-before, IsBoundary-behind, IsBoundary-either, IsCharBoundary-from_boundary, starts_with_feed-bytes, ends_in_return-bytes, starts_with_feed-append, ends_in_return-append, seam_loss-same, is_joined, count-le-size, size-cons, size-append}
pub use Rattle.str_indices.specs.Joins.{ends_in_return, starts_with_feed, joins_crlf, seam_loss}
pub use Rattle.str_indices.specs.Relations.{IsBoundary}
pub use Rattle.str_indices.specs.Schemes.{count, from_byte_idx, to_byte_idx}
pub use Rattle.str_indices.specs.Text.{Text, size, line_feed, carriage_return}
pub use Rattle.str_indices.specs.declared.Scheme.{Scheme}
pub use Rattle.text_summary.specs.Changes.{IsReplaced, IsUpdate, FitsIn}
pub use Rattle.text_summary.specs.Fronts.{IsFront, IsStep, IsBefore, IsFollowed}
pub use Rattle.text_summary.specs.Pieces.{joined, joined_size, piece_at}
pub use Rattle.text_summary.specs.Summaries.{summary_of, count_of, AreSummaries}
pub use Rattle.text_summary.specs.declared.changes.Update.{Update}
pub use Rattle.text_summary.specs.declared.fronts.Front.{Front}
pub use Rattle.text_summary.specs.declared.fronts.Step.{Step}
pub use Rattle.text_summary.specs.declared.summaries.Summary.{Summary}
