-- The positions on the lines of a text, and their byte indices, where offsets are counted in an encoding. Where lines end
-- in LF, CR or CRLF they are those of the Language Server Protocol 3.17, "Position".
--     units_on_line l e text k byte     the units of the content of line k up to a byte index
--     position_at l e text byte         the position of a byte index
--     LineBeginsAfter l text byte start the line of a byte begins after a byte index, or with the text there
--     byte_at l e text position         the byte index of a position
--     is_exact l e text position        whether the position names a place, and not one that is cut to another
--     exact_byte_at l e text position   the byte index of a position that names a place
--     is_at_or_before p q               whether position p is at or before position q
--     byte_range_at l e text range      the byte indices of a range whose end is not before its start
use Rattle.std.specs.Prelude.{ℕ, ◌≡◌, ◌⊎◌, ◌<◌, ◌+◌, ◌-◌, ◌&&◌, ◌||◌, ◌==◌, Bool, Option, Some, None, if◌then◌else◌, nat_le, nat_lt}
use Rattle.std.specs.declared.ops.Range as bytes
use Rattle.str_indices.specs.Text.{Text}
use Rattle.str_indices.specs.Schemes.{count, from_byte_idx, to_byte_idx, weighed, boundary_weighed}
use Rattle.positions.specs.Encodings.{units_of}
use Rattle.positions.specs.declared.Position.{Position}
use Rattle.positions.specs.declared.Range.{Range}
use Rattle.positions.specs.declared.encodings.Encoding.{Encoding}
use Rattle.positions.specs.Lines.{scheme_of, line_content}
use Rattle.positions.specs.declared.line_type.LineType.{LineType}

-- the units of a line's content up to the byte index: all of them, where it is after the content
abbrev pub units_on_line : LineType → Encoding → Text → ℕ → ℕ → ℕ
units_on_line l e text line byte =
    weighed (units_of e) (line_content l text line) (byte - to_byte_idx (scheme_of l) text line)

-- the line of the byte index, and the units on that line up to it
abbrev pub position_at : LineType → Encoding → Text → ℕ → Position
position_at l e text byte = record {
  line = from_byte_idx (scheme_of l) text byte;
  character = units_on_line l e text (from_byte_idx (scheme_of l) text byte) byte;
}

-- the line of `byte` begins after the byte index `start`, or the text begins there
abbrev pub LineBeginsAfter : LineType → Text → ℕ → ℕ → Type 0
LineBeginsAfter l text byte start =
    (start < to_byte_idx (scheme_of l) text (from_byte_idx (scheme_of l) text byte)) ⊎ (start ≡ 0)

-- where, in the line's content, the char of that unit begins; the line's end, where the content has no such unit
abbrev pub byte_at : LineType → Encoding → Text → Position → ℕ
byte_at l e text position = to_byte_idx (scheme_of l) text position.line
    + boundary_weighed (units_of e) (line_content l text position.line) position.character

-- whether the text has the line, and the offset is before or after a char of that line's content
abbrev pub is_exact : LineType → Encoding → Text → Position → Bool
is_exact l e text position = let content = line_content l text position.line in
    nat_le position.line (count (scheme_of l) text)
    && (weighed (units_of e) content (boundary_weighed (units_of e) content position.character) == position.character)

-- the byte index of a position that names a place
abbrev pub exact_byte_at : LineType → Encoding → Text → Position → Option ℕ
exact_byte_at l e text position =
    if is_exact l e text position then Some (byte_at l e text position) else None

-- whether position p is on an earlier line than q, or on the same line and no further on it
abbrev pub is_at_or_before : Position → Position → Bool
is_at_or_before p q = nat_lt p.line q.line || ((p.line == q.line) && nat_le p.character q.character)

-- the byte indices of a range's start and end, where its end is not before its start
abbrev pub byte_range_at : LineType → Encoding → Text → Range → Option (bytes.Range ℕ)
byte_range_at l e text range =
    if is_at_or_before range.start range.end
    then Some (record { start = byte_at l e text range.start; end = byte_at l e text range.end })
    else None
