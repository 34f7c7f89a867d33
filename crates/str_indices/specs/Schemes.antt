-- The answers of the five indexing schemes for a text.
--     ends s text                  the ends of the text in a scheme, in increasing order
--     count s text                 how many ends the text has
--     from_byte_idx s text byte    how many of its ends are at or before a byte index
--     to_byte_idx s text index     0, then each end in turn, and past the last end the text's size
--     weighed w text byte          the weight of the chars up to a byte index, each by w
--     boundary_weighed w text k    the greatest boundary before which they weigh at most k
-- In `Utf16` the three go by the weights of chars. `surrogates text` counts the surrogate pairs. `every_scheme` has the
-- schemes in the order of their declaration, and `place_of s` is the place of one.
use Rattle.std.specs.Prelude.{ℕ, zero, suc, Bool, true, not, List, [], ◌∷◌, ◌&&◌, ◌==◌, nat_le, filter, map, fold, max, length, sum_by, count_by, slice_index_or}
use Rattle.std.specs.Char.{char_set_contains}
pub use Rattle.str_indices.specs.declared.schemes.Scheme.{Scheme}
pub use Rattle.str_indices.specs.declared.schemes.Scheme.TheVariants.{Chars, Utf16, Lf, Crlf, Lines}
use Rattle.str_indices.specs.Text.{Text, size, Placed, placed, line_feed, carriage_return, is_crlf_middle, cut, weight}

-- the schemes in the order of their declaration
abbrev pub every_scheme : List Scheme
every_scheme = Chars ∷ Utf16 ∷ Lf ∷ Crlf ∷ Lines ∷ []

-- the place of a scheme in that order
abbrev pub place_of : Scheme → ℕ
place_of Chars = 0
place_of Utf16 = 1
place_of Lf = 2
place_of Crlf = 3
place_of Lines = 4

abbrev pub vertical_tab : ℕ
vertical_tab = 0x0B

abbrev pub form_feed : ℕ
form_feed = 0x0C

abbrev pub next_line : ℕ
next_line = 0x85

abbrev pub line_separator : ℕ
line_separator = 0x2028

abbrev pub paragraph_separator : ℕ
paragraph_separator = 0x2029

-- the chars that end a line; `Chars` and `Utf16` have none, since each char counts there
abbrev pub break_characters : Scheme → List ℕ
break_characters Chars = []
break_characters Utf16 = []
break_characters Lf = line_feed ∷ []
break_characters Crlf = line_feed ∷ carriage_return ∷ []
break_characters Lines = line_feed ∷ vertical_tab ∷ form_feed ∷ carriage_return ∷ next_line ∷ line_separator ∷
    paragraph_separator ∷ []

-- whether a char of the set ends at p, which is no CRLF middle
abbrev pub is_break_end : List ℕ → Placed → Bool
is_break_end set p = char_set_contains set p.character && not (is_crlf_middle p)

-- whether p ends at an end of the scheme
abbrev pub is_end : Scheme → Placed → Bool
is_end Chars p = true
is_end Utf16 p = true
is_end s p = is_break_end (break_characters s) p

-- the ends of the text, in increasing order
abbrev pub ends : Scheme → Text → List ℕ
ends s text = map (λ p. p.end) (filter (is_end s) (placed 0 text))

-- how many ends the text has
abbrev pub end_count : Scheme → Text → ℕ
end_count s text = length (ends s text)

-- how many ends are at or before the byte index
abbrev pub ends_up_to : Scheme → Text → ℕ → ℕ
ends_up_to s text byte = count_by (λ e. nat_le e byte) (ends s text)

-- 0 at 0, the k-th least end at k, and the text's size past the last end
abbrev pub end_at : Scheme → Text → ℕ → ℕ
end_at s text zero = 0
end_at s text (suc k) = slice_index_or (ends s text) k (size text)

-- the byte indices between the chars, with 0 and the size
abbrev pub boundaries : Text → List ℕ
boundaries text = 0 ∷ ends Chars text

-- the weight of the chars that end at or before the byte index, each by w
abbrev pub weighed : (ℕ → ℕ) → Text → ℕ → ℕ
weighed w text byte = sum_by w (cut text byte)

-- the greatest boundary before which the chars weigh at most k
abbrev pub boundary_weighed : (ℕ → ℕ) → Text → ℕ → ℕ
boundary_weighed w text k = fold max 0 (filter (λ p. nat_le (weighed w text p) k) (boundaries text))

-- the UTF-16 code units of the chars that end at or before the byte index
abbrev pub units : Text → ℕ → ℕ
units text byte = weighed weight text byte

-- the greatest boundary before which the chars take at most k units
abbrev pub boundary_at_units : Text → ℕ → ℕ
boundary_at_units text k = boundary_weighed weight text k

abbrev pub count : Scheme → Text → ℕ
count Utf16 text = units text (size text)
count s text = end_count s text

abbrev pub from_byte_idx : Scheme → Text → ℕ → ℕ
from_byte_idx Utf16 text byte = units text byte
from_byte_idx s text byte = ends_up_to s text byte

abbrev pub to_byte_idx : Scheme → Text → ℕ → ℕ
to_byte_idx Utf16 text index = boundary_at_units text index
to_byte_idx s text index = end_at s text index

-- how many chars take a surrogate pair
abbrev pub surrogates : Text → ℕ
surrogates text = count_by (λ c. weight c == 2) text
