-- The lemmas that proofs of other crates may cite.
pub use Rattle.positions.proofs.lemmas.Lines.{join_of_middle, middle_of_join, none_before, reached_by, IsBoundary-line_end, middle_above}
pub use Rattle.positions.proofs.lemmas.Encodings.{nearest_is_greatest, weighed_by_bytes, weighed_by_scheme, placed_by_bytes, placed_by_scheme}
pub use Rattle.positions.proofs.lemmas.Known.{ascii_weighed, ascii_placed}
pub use Rattle.positions.proofs.lemmas.Parts.{greatest_in_part, lines_before}
pub use Rattle.positions.proofs.lemmas.Answering.{none_taken, taken_within}
pub use Rattle.positions.proofs.lemmas.Laws.{byte_range_in_order, IsBoundary-byte_at}
