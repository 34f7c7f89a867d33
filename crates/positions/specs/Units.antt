-- How the units of an encoding are counted.
--     unit_scheme e          the scheme that counts them, none for bytes
--     HasSameUnits e f text  each stretch of the text has as many by both encodings
use Rattle.std.specs.Prelude.{◌≡◌, ◌++◌, Option, Some, None, sum_by}
use Rattle.str_indices.specs.Text.{Text}
use Rattle.str_indices.specs.declared.Scheme.{Scheme}
use Rattle.str_indices.specs.declared.Scheme.TheVariants.{Chars, Utf16}
use Rattle.positions.specs.Encodings.{units_of}
use Rattle.positions.specs.declared.encodings.Encoding.{Encoding}
use Rattle.positions.specs.declared.encodings.Encoding.TheVariants as encodings

-- the scheme that counts the units of an encoding, none for bytes
abbrev pub unit_scheme : Encoding → Option Scheme
unit_scheme encodings.Utf8 = None
unit_scheme encodings.Utf16 = Some Utf16
unit_scheme encodings.Utf32 = Some Chars

-- each stretch of the text has as many units by both encodings
abbrev pub HasSameUnits : Encoding → Encoding → Text → Type 0
HasSameUnits e f text = (front own back : Text) → text ≡ front ++ (own ++ back)
    → sum_by (units_of e) own ≡ sum_by (units_of f) own
