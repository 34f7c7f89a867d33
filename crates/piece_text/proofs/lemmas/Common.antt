-- The names that the proofs here cite most, passed on from one place. Declares nothing.
pub use Rattle.std.proofs.Common.{◌≡◌, ℕ, zero, suc, ◌+◌, ◌-◌, ◌<◌, ◌≤◌, Bool, true, false, ◌≢◌, List, [], ◌∷◌, ◌++◌, length, take, drop, set, IsUtf8, chars, insert, remove, cond, sym, refl, ap, subst, ◌∙◌, inl, inr, append_assoc, add_assoc, append-nil, add-one, arith, length-drop, take-append-drop, length-take-le, take_all, take-take, take_at, rules, eqb-true}
pub use Rattle.std.proofs.lemmas.List.{take_more, get_or_default}
pub use Rattle.std.proofs.lemmas.Str.Pattern.{starts_text, ends_text}
pub use Rattle.str_indices.proofs.lemmas.Callers.{IsCharBoundary-from_boundary, chars-append, IsBoundary-from_char_boundary, size-chars, starts_with_feed-bytes, ends_in_return-bytes, chars-some, chars-none, starts_with_feed-append, ends_in_return-append, seam_loss-same, IsBoundary-before, IsBoundary-behind, IsBoundary-either, is_joined, count-le-size, count-nil, to_byte_idx-le-size, to_byte_idx-zero, from_byte_idx-all, from_byte_idx-le-count, size-append}
pub use Rattle.str_indices.specs.Relations.{IsBoundary}
pub use Rattle.str_indices.specs.Schemes.{count, from_byte_idx, to_byte_idx}
pub use Rattle.str_indices.specs.Text.{Text, size, line_feed, carriage_return}
pub use Rattle.piece_text.specs.Pieces.{PiecesState, joined, joined_size, piece_at, as_pieces}
pub use Rattle.piece_text.specs.Splits.{IsEdge, IsHalved, IsCut}
pub use Rattle.text_summary.proofs.lemmas.Callers.{TellsAt, tells_at}
pub use Rattle.text_summary.specs.Fronts.{IsFront}
pub use Rattle.piece_text.specs.Runs.{IsRun, AreRuns, pieces_in, IsSwap, IsRunSwapped, Swapped}
pub use Rattle.piece_text.specs.PieceRanges.{IsRunAt, IsPieceRange, IsSettled, IsSpanRound}
pub use Rattle.piece_text.specs.Summaries.{summary_of}
pub use Rattle.piece_text.specs.declared.view.runs.Run.{Run}
pub use Rattle.piece_text.specs.declared.view.runs.Swap.{Swap}
pub use Rattle.piece_text.specs.declared.ranges.PieceRange.{PieceRange}
pub use Rattle.std.proofs.lemmas.Bool.{cases_lt}
