-- The lemmas that proofs of other crates may cite.
pub use Rattle.text_summary.proofs.lemmas.Boundaries.{AreParts, parts_of, same_cut, same_parts, boundary-le, boundary_left, boundary_right, boundary_upto, boundary_start, boundary_end, replaced_bytes, size-replaced, taken_then_put}
pub use Rattle.text_summary.proofs.lemmas.Summing.{Tells, tells, TellsAt, tells_at, joined-append, joined-split, joined-take, drop-piece, joined-drop, joined_size-insert, joined_size-take, none_of, some_of, size-some, count_of-summary, same_fields}
pub use Rattle.text_summary.proofs.lemmas.Narrowing.{each_byte_is_boundary, characters_are_bytes, units_are_bytes, units_by_characters, crlf_by_lf, lines_by_lf, lines_by_crlf}
