-- A text as the list of its scalar values, its chars, and the byte indices between them.
--     size text               how many bytes the text takes in UTF-8
--     placed start text       each char, with the byte index where it ends and the chars after it
--     is_crlf_middle p        whether the byte index where p ends stands between CR and LF
--     cut text end            the chars that end at or before a byte index, as a text by itself
--     weight c                how many UTF-16 code units a char takes
use Rattle.std.specs.Prelude.{ℕ, ◌+◌, Bool, List, [], ◌∷◌, ◌&&◌, ◌==◌, if◌then◌else◌, nat_le, sum_by, filter, map, slice_index}
use Rattle.std.specs.Char.{len_utf8}

-- a text, as its scalar values
abbrev pub Text : Type 0
Text = List ℕ

-- how many bytes the text takes in UTF-8: one to four for each char
abbrev pub size : Text → ℕ
size text = sum_by len_utf8 text

-- a char of a text, the byte index where it ends, and the chars after it
pub record Placed : Type 0 where
  pub character : ℕ
  pub end : ℕ
  pub after : List ℕ

-- the chars of a text that begins at the byte index `start`, each in its place
abbrev pub placed : ℕ → List ℕ → List Placed
placed start [] = []
placed start (c ∷ cs) = record { character = c; end = start + len_utf8 c; after = cs } ∷ placed (start + len_utf8 c) cs

abbrev pub line_feed : ℕ
line_feed = 0x0A

abbrev pub carriage_return : ℕ
carriage_return = 0x0D

-- whether the byte index where p ends stands between CR and LF
abbrev pub is_crlf_middle : Placed → Bool
is_crlf_middle p = p.character == carriage_return && slice_index p.after 0 == line_feed

-- the chars that end at or before the byte index, as a text by itself
abbrev pub cut : Text → ℕ → Text
cut text end = map (λ p. p.character) (filter (λ p. nat_le p.end end) (placed 0 text))

-- how many UTF-16 code units a char takes: a surrogate pair, or one unit
abbrev pub weight : ℕ → ℕ
weight c = if len_utf8 c == 4 then 2 else 1
