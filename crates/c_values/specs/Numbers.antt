-- The meanings of the numbers that cross to C and back.
--     scheme_at n       the scheme of a number: 0 to 4 in the order of `Scheme`, and each greater number `Lines` too
--     encoding_at n     the encoding of a number: 1 UTF-16, 5 UTF-8, and each other one UTF-32, which counts chars
--     line_type_at n        the kind of line break of a number: 2 LF alone, 3 that of the protocol, and each other one all breaks
use Rattle.std.specs.Prelude.{ℕ, zero, suc, slice_index_or}
use Rattle.str_indices.specs.Schemes.{every_scheme}
use Rattle.str_indices.specs.declared.Scheme.{Scheme}
use Rattle.str_indices.specs.declared.Scheme.TheVariants.{Lines}
use Rattle.positions.specs.declared.encodings.Encoding.{Encoding}
use Rattle.positions.specs.declared.encodings.Encoding.TheVariants as encodings
use Rattle.positions.specs.declared.line_type.LineType.{LineType}
use Rattle.positions.specs.declared.line_type.LineType.TheVariants as kinds

abbrev pub scheme_at : ℕ → Scheme
scheme_at n = slice_index_or every_scheme n Lines

abbrev pub encoding_at : ℕ → Encoding
encoding_at zero = encodings.Utf32
encoding_at (suc zero) = encodings.Utf16
encoding_at (suc (suc zero)) = encodings.Utf32
encoding_at (suc (suc (suc zero))) = encodings.Utf32
encoding_at (suc (suc (suc (suc zero)))) = encodings.Utf32
encoding_at (suc (suc (suc (suc (suc zero))))) = encodings.Utf8
encoding_at (suc (suc (suc (suc (suc (suc n)))))) = encodings.Utf32

abbrev pub line_type_at : ℕ → LineType
line_type_at zero = kinds.Lines
line_type_at (suc zero) = kinds.Lines
line_type_at (suc (suc zero)) = kinds.Lf
line_type_at (suc (suc (suc zero))) = kinds.Crlf
line_type_at (suc (suc (suc (suc n)))) = kinds.Lines
