-- Worked examples: what the definitions give for a text with a break of each kind, by what ends its lines; and for a text whose
-- lines end in CRLF, in CR and in LF, and the last in nothing.
use Rattle.std.specs.Prelude.{ℕ, ◌≡◌, refl, [], ◌∷◌, ◌++◌, map, codes}
use Rattle.str_indices.specs.Text.{Text, line_feed, carriage_return}
use Rattle.str_indices.specs.Schemes.{form_feed, line_separator}
use Rattle.positions.specs.declared.Position.{Position}
use Rattle.positions.specs.declared.encodings.Encoding.TheVariants.{Utf8, Utf16, Utf32}
use Rattle.positions.specs.declared.line_type.LineType.TheVariants.{Lf, Crlf, Lines}
use Rattle.positions.specs.Lines.{line_content, line_end}
use Rattle.positions.specs.Positions.{position_at, byte_at}

-- a U+2028 b FF c CR d CRLF e LF f
abbrev six_breaks : Text
six_breaks = codes "a" ++ line_separator ∷ codes "b" ++ form_feed ∷ codes "c" ++ carriage_return ∷ codes "d"
    ++ carriage_return ∷ line_feed ∷ codes "e" ++ line_feed ∷ codes "f"

abbrev position : ℕ → ℕ → Position
position line character = record { line = line; character = character }

-- by LF a CR before it is of the line
lines_of_lf : map (line_end Lf six_breaks) (0 ∷ 1 ∷ 2 ∷ 3 ∷ []) ≡ 10 ∷ 12 ∷ 14 ∷ 14 ∷ []
lines_of_lf = refl

lines_of_the_protocol : map (line_end Crlf six_breaks) (0 ∷ 1 ∷ 2 ∷ 3 ∷ 4 ∷ []) ≡ 7 ∷ 9 ∷ 12 ∷ 14 ∷ 14 ∷ []
lines_of_the_protocol = refl

lines_of_every_kind : map (line_end Lines six_breaks) (0 ∷ 1 ∷ 2 ∷ 3 ∷ 4 ∷ 5 ∷ 6 ∷ []) ≡ 1 ∷ 5 ∷ 7 ∷ 9 ∷ 12 ∷ 14 ∷ 14 ∷ []
lines_of_every_kind = refl

-- a byte in a break is at the end of its line
positions_of_lf : map (position_at Lf Utf16 six_breaks) (2 ∷ 5 ∷ 8 ∷ 10 ∷ 11 ∷ [])
    ≡ position 0 1 ∷ position 0 3 ∷ position 0 6 ∷ position 0 8 ∷ position 1 0 ∷ []
positions_of_lf = refl

positions_of_the_protocol : map (position_at Crlf Utf16 six_breaks) (2 ∷ 5 ∷ 8 ∷ 10 ∷ 11 ∷ [])
    ≡ position 0 1 ∷ position 0 3 ∷ position 1 0 ∷ position 1 1 ∷ position 2 0 ∷ []
positions_of_the_protocol = refl

positions_of_every_kind : map (position_at Lines Utf16 six_breaks) (2 ∷ 5 ∷ 8 ∷ 10 ∷ 11 ∷ [])
    ≡ position 0 1 ∷ position 1 1 ∷ position 3 0 ∷ position 3 1 ∷ position 4 0 ∷ []
positions_of_every_kind = refl

-- and an offset past the end of a line is the end
bytes_past_a_line : map (λ l. byte_at l Utf8 six_breaks (position 0 99)) (Lf ∷ Crlf ∷ Lines ∷ []) ≡ 10 ∷ 7 ∷ 1 ∷ []
bytes_past_a_line = refl

-- 🐸, which takes four bytes and two UTF-16 code units
abbrev frog : ℕ
frog = 0x1F438

-- せ, which takes three bytes and one unit
abbrev se : ℕ
se = 0x305B

-- a CRLF 🐸b CR せ LF LF x
abbrev five_lines : Text
five_lines = codes "a" ++ carriage_return ∷ line_feed ∷ frog ∷ codes "b" ++ carriage_return ∷ se ∷ line_feed ∷ line_feed
    ∷ codes "x"

lines_have_no_break : map (line_content Crlf five_lines) (0 ∷ 1 ∷ 2 ∷ 3 ∷ 4 ∷ 5 ∷ [])
    ≡ codes "a" ∷ (frog ∷ codes "b") ∷ (se ∷ []) ∷ [] ∷ codes "x" ∷ [] ∷ []
lines_have_no_break = refl

lines_end_before_their_break : map (line_end Crlf five_lines) (0 ∷ 1 ∷ 2 ∷ 3 ∷ 4 ∷ 5 ∷ []) ≡ 1 ∷ 8 ∷ 12 ∷ 13 ∷ 15 ∷ 15 ∷ []
lines_end_before_their_break = refl

byte_in_a_break_is_at_the_line_end : map (position_at Crlf Utf16 five_lines) (1 ∷ 2 ∷ 3 ∷ [])
    ≡ position 0 1 ∷ position 0 1 ∷ position 1 0 ∷ []
byte_in_a_break_is_at_the_line_end = refl

byte_in_a_character_is_at_its_beginning : map (position_at Crlf Utf16 five_lines) (3 ∷ 6 ∷ 7 ∷ 11 ∷ 12 ∷ [])
    ≡ position 1 0 ∷ position 1 0 ∷ position 1 2 ∷ position 2 0 ∷ position 2 1 ∷ []
byte_in_a_character_is_at_its_beginning = refl

byte_past_the_text_is_at_its_end : map (position_at Crlf Utf16 five_lines) (15 ∷ 16 ∷ []) ≡ position 4 1 ∷ position 4 1 ∷ []
byte_past_the_text_is_at_its_end = refl

offset_past_a_line_is_at_its_end : map (byte_at Crlf Utf16 five_lines) (position 0 1 ∷ position 0 2 ∷ position 3 9 ∷ [])
    ≡ 1 ∷ 1 ∷ 13 ∷ []
offset_past_a_line_is_at_its_end = refl

second_unit_is_at_the_byte_of_the_first : map (byte_at Crlf Utf16 five_lines) (position 1 0 ∷ position 1 1 ∷ position 1 2 ∷ [])
    ≡ 3 ∷ 3 ∷ 7 ∷ []
second_unit_is_at_the_byte_of_the_first = refl

line_past_the_last_is_at_the_end : map (byte_at Crlf Utf16 five_lines) (position 5 0 ∷ position 9 9 ∷ []) ≡ 15 ∷ 15 ∷ []
line_past_the_last_is_at_the_end = refl

offset_is_in_bytes : map (position_at Crlf Utf8 five_lines) (3 ∷ 6 ∷ 7 ∷ 8 ∷ 11 ∷ 12 ∷ [])
    ≡ position 1 0 ∷ position 1 0 ∷ position 1 4 ∷ position 1 5 ∷ position 2 0 ∷ position 2 3 ∷ []
offset_is_in_bytes = refl

offset_is_in_scalar_values : map (position_at Crlf Utf32 five_lines) (3 ∷ 6 ∷ 7 ∷ 8 ∷ 11 ∷ 12 ∷ [])
    ≡ position 1 0 ∷ position 1 0 ∷ position 1 1 ∷ position 1 2 ∷ position 2 0 ∷ position 2 1 ∷ []
offset_is_in_scalar_values = refl

byte_inside_a_character_is_at_its_first : map (byte_at Crlf Utf8 five_lines) (position 1 3 ∷ position 1 4 ∷ position 1 9 ∷ [])
    ≡ 3 ∷ 7 ∷ 8 ∷ []
byte_inside_a_character_is_at_its_first = refl
