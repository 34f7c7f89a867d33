-- How the offsets on a line are counted, by the Language Server Protocol 3.17, "PositionEncodingKind".
--     units_of e c    the units that a char takes
use Rattle.std.specs.Prelude.{ℕ}
use Rattle.std.specs.Char.{len_utf8}
use Rattle.str_indices.specs.Text.{weight}
use Rattle.positions.specs.declared.encodings.Encoding.{Encoding}
use Rattle.positions.specs.declared.encodings.Encoding.TheVariants.{Utf8, Utf16, Utf32}

-- the units that a char takes: its bytes, its UTF-16 code units, or one
abbrev pub units_of : Encoding → ℕ → ℕ
units_of Utf8 c = len_utf8 c
units_of Utf16 c = weight c
units_of Utf32 c = 1
