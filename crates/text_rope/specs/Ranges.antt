-- Changes of a text, as a language server's client tells them.
--     part_at e text range          the byte indices of the part that a change replaces
--     is_ordered range              whether the end of a change's range is not before its start
--     exact_part_at e text range    the byte indices of that part, where each of the range's positions names a place
use Rattle.std.specs.Prelude.{ℕ, Bool, true, Option, Some, None, ◌&&◌, if◌then◌else◌}
use Rattle.std.specs.declared.ops.Range as bytes
use Rattle.str_indices.specs.Text.{Text, size}
use Rattle.positions.specs.Positions.{byte_range_at, is_at_or_before, is_exact}
use Rattle.positions.specs.declared.Range.{Range}
use Rattle.positions.specs.declared.encodings.Encoding.{Encoding}
use Rattle.positions.specs.declared.line_type.LineType.TheVariants.{Crlf}

-- the byte indices of the part that a change replaces: that of its range, or the whole text where it has none
abbrev pub part_at : Encoding → Text → Option Range → Option (bytes.Range ℕ)
part_at e text (Some range) = byte_range_at Crlf e text range
part_at e text None = Some (record { start = 0; end = size text })

-- whether the end of a change's range is not before its start; a change of the whole text has none
abbrev pub is_ordered : Option Range → Bool
is_ordered (Some range) = is_at_or_before range.start range.end
is_ordered None = true

-- the byte indices of that part, where each of the range's positions names a place
abbrev pub exact_part_at : Encoding → Text → Option Range → Option (bytes.Range ℕ)
exact_part_at e text (Some range) =
    if is_exact Crlf e text range.start && is_exact Crlf e text range.end then byte_range_at Crlf e text range else None
exact_part_at e text None = part_at e text None
