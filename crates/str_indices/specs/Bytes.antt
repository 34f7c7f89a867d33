-- The counts that kernels make over the bytes of a text.
--     sum_below f n                    f 0 + f 1 + .. up to n, without n
--     flag b                           1 for true, 0 for false
--     mark test b                      1 for a byte that passes the test, else 0
--     weight_before weight bytes n     the weights of the first n bytes, added
--     passing_before test bytes n      how many of the first n bytes pass the test
--     is_trailing b                    whether a byte doesn't begin its char
--     is_leading b                     whether a byte begins its char
--     begins_four_bytes b              whether a byte begins a char of four bytes, which takes a surrogate pair
--     units_begun b                    how many UTF-16 code units the char takes that a byte begins, else 0
--     units_before bytes n             how many UTF-16 code units the chars take that begin in the first n bytes
--     is_line_feed b                   whether a byte is LF
--     is_carriage_return b             whether a byte is CR
--     byte_before bytes n              the byte before place n
--     starts_break before b            whether LF, CR or CRLF starts with b, which stands after `before`
--     break_start bytes n              1 where LF, CR or CRLF starts at place n
--     breaks_before bytes n            how many LF, CR and CRLF start before place n: a CRLF counts at its CR
--     is_middle bytes n                whether place n stands between CR and LF
use Rattle.std.specs.Prelude.{ℕ, zero, suc, ◌+◌, Bool, not, ◌==◌, ◌&&◌, ◌||◌, if◌then◌else◌, List, bit_and, slice_index}
use Rattle.str_indices.specs.Text.{line_feed, carriage_return}

abbrev pub sum_below : (ℕ → ℕ) → ℕ → ℕ
sum_below f zero = 0
sum_below f (suc n) = sum_below f n + f n

abbrev pub flag : Bool → ℕ
flag b = if b then 1 else 0

abbrev pub mark : (ℕ → Bool) → ℕ → ℕ
mark test b = flag (test b)

abbrev pub weight_before : (ℕ → ℕ) → List ℕ → ℕ → ℕ
weight_before weight bytes n = sum_below (λ j. weight (slice_index bytes j)) n

abbrev pub passing_before : (ℕ → Bool) → List ℕ → ℕ → ℕ
passing_before test bytes n = weight_before (mark test) bytes n

abbrev pub is_trailing : ℕ → Bool
is_trailing b = bit_and b 0xC0 == 0x80

abbrev pub is_leading : ℕ → Bool
is_leading b = not (is_trailing b)

abbrev pub begins_four_bytes : ℕ → Bool
begins_four_bytes b = bit_and b 0xF0 == 0xF0

-- one at a byte that begins a char, and one more where it begins four bytes
abbrev pub units_begun : ℕ → ℕ
units_begun b = mark is_leading b + mark begins_four_bytes b

abbrev pub units_before : List ℕ → ℕ → ℕ
units_before bytes n = weight_before units_begun bytes n

abbrev pub is_line_feed : ℕ → Bool
is_line_feed b = b == line_feed

abbrev pub is_carriage_return : ℕ → Bool
is_carriage_return b = b == carriage_return

-- 0 where there is none
abbrev pub byte_before : List ℕ → ℕ → ℕ
byte_before bytes zero = 0
byte_before bytes (suc n) = slice_index bytes n

abbrev pub starts_break : ℕ → ℕ → Bool
starts_break before b = is_carriage_return b || (is_line_feed b && not (is_carriage_return before))

abbrev pub break_start : List ℕ → ℕ → ℕ
break_start bytes n = mark (starts_break (byte_before bytes n)) (slice_index bytes n)

abbrev pub breaks_before : List ℕ → ℕ → ℕ
breaks_before bytes n = sum_below (break_start bytes) n

abbrev pub is_middle : List ℕ → ℕ → Bool
is_middle bytes n = is_carriage_return (byte_before bytes n) && is_line_feed (slice_index bytes n)
