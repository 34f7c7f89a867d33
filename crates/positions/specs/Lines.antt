-- The lines of a text, by what ends them. The scheme says which line a byte index is on, and where a line begins.
--     scheme_of l              the scheme that counts these line breaks
--     is_break l c             whether a line break begins with a char
--     text_after text byte     the chars that end after a byte index
--     line_content l text k    the chars of line k, without its break
--     line_end l text k        the byte index where they end
--     HasSameBreaks l k text   the text has the same breaks of both kinds
--     IsCrlfOffset l text p n   n is 1 where p is between a CR that begins a break and LF, and else 0
--     IsPlace l text p         p is between chars, and not between a CR that begins a break and LF
use Rattle.std.specs.Prelude.{ℕ, ◌≡◌, ◌+◌, ◌⊎◌, Bool, true, length, drop}
use Rattle.std.specs.Char.{char_set_contains}
use Rattle.std.specs.List.{before_first}
use Rattle.str_indices.specs.Text.{Text, size, carriage_return, cut}
use Rattle.str_indices.specs.Schemes.{break_characters, from_byte_idx, to_byte_idx}
use Rattle.str_indices.specs.Relations.{IsBoundary, IsCrlfMiddle}
use Rattle.str_indices.specs.declared.Scheme.{Scheme}
use Rattle.str_indices.specs.declared.Scheme.TheVariants as schemes
use Rattle.positions.specs.declared.line_type.LineType.{LineType}
use Rattle.positions.specs.declared.line_type.LineType.TheVariants.{Lf, Crlf, Lines}

-- the scheme that counts these line breaks
abbrev pub scheme_of : LineType → Scheme
scheme_of Lf = schemes.Lf
scheme_of Crlf = schemes.Crlf
scheme_of Lines = schemes.Lines

-- whether a line break begins with the char
abbrev pub is_break : LineType → ℕ → Bool
is_break l c = char_set_contains (break_characters (scheme_of l)) c

-- the chars that end after the byte index: the text without what is cut off there
abbrev pub text_after : Text → ℕ → Text
text_after text byte = drop (length (cut text byte)) text

-- the chars of a line, without its break: those from its beginning on, before the first that begins a break
abbrev pub line_content : LineType → Text → ℕ → Text
line_content l text line = before_first (is_break l) (text_after text (to_byte_idx (scheme_of l) text line))

-- the byte index where the content of a line ends: before its break, or at the text's size where it has none
abbrev pub line_end : LineType → Text → ℕ → ℕ
line_end l text line = to_byte_idx (scheme_of l) text line + size (line_content l text line)

-- n is 1 where p is between a CR that begins a break and LF, and else 0
abbrev pub IsCrlfOffset : LineType → Text → ℕ → ℕ → Type 0
IsCrlfOffset l text p n = ((n ≡ 1) × ((is_break l carriage_return ≡ true) × IsCrlfMiddle text p))
    ⊎ ((n ≡ 0) × (is_break l carriage_return ≡ true → ¬ (IsCrlfMiddle text p)))

-- p is between chars, and not between a CR that begins a break and LF
abbrev pub IsPlace : LineType → Text → ℕ → Type 0
IsPlace l text p = IsBoundary text p × ¬ ((is_break l carriage_return ≡ true) × IsCrlfMiddle text p)

-- the text has the same breaks of both kinds
pub record HasSameBreaks (l k : LineType) (text : Text) : Type 0 where
  pub from : (b : ℕ) → from_byte_idx (scheme_of l) text b ≡ from_byte_idx (scheme_of k) text b
  pub to : (n : ℕ) → to_byte_idx (scheme_of l) text n ≡ to_byte_idx (scheme_of k) text n
