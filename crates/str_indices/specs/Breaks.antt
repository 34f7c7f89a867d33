-- Where a kernel of `lines` counts a break: CRLF at its LF, and each other break at its first byte.
--     is_ascii_break b                  LF, VT, FF or CR
--     is_crlf b next                    CR and the byte after it, LF
--     is_next_line b next               the two bytes of U+0085
--     ends_separator after              whether a byte is the third of a separator
--     is_separator b next after         the three bytes of U+2028 or U+2029
--     is_narrow_break b next            a break of one byte, or a CRLF at its LF
--     is_break b next after             whether a break is counted at a byte, by the two bytes after it
--     narrow_break_at bytes j           1 where a break of one byte, or CRLF, is counted at the j-th byte, else 0
--     next_line_at bytes j              1 where the j-th byte begins U+0085, else 0
--     separator_at bytes j              1 where the j-th byte begins U+2028 or U+2029, else 0
--     break_at bytes j                  1 where a break is counted at the j-th byte, else 0
--     breaks_counted_before bytes n     how many breaks are counted at the first n bytes
use Rattle.std.specs.Prelude.{ℕ, ◌+◌, Bool, not, ◌==◌, ◌&&◌, ◌||◌, nat_lt, List, slice_index}
use Rattle.str_indices.specs.Bytes.{flag, sum_below}

abbrev pub is_ascii_break : ℕ → Bool
is_ascii_break b = nat_lt 0x09 b && nat_lt b 0x0E

abbrev pub is_crlf : ℕ → ℕ → Bool
is_crlf b next = b == 0x0D && next == 0x0A

abbrev pub is_next_line : ℕ → ℕ → Bool
is_next_line b next = b == 0xC2 && next == 0x85

-- whether a byte is the third of a separator
abbrev pub ends_separator : ℕ → Bool
ends_separator after = after == 0xA8 || after == 0xA9

abbrev pub is_separator : ℕ → ℕ → ℕ → Bool
is_separator b next after = (b == 0xE2 && next == 0x80) && ends_separator after

-- a break of one byte, or a CRLF at its LF
abbrev pub is_narrow_break : ℕ → ℕ → Bool
is_narrow_break b next = is_ascii_break b && not (is_crlf b next)

abbrev pub is_break : ℕ → ℕ → ℕ → Bool
is_break b next after = is_narrow_break b next || is_next_line b next || is_separator b next after

abbrev pub narrow_break_at : List ℕ → ℕ → ℕ
narrow_break_at bytes j = flag (is_narrow_break (slice_index bytes j) (slice_index bytes (1 + j)))

abbrev pub next_line_at : List ℕ → ℕ → ℕ
next_line_at bytes j = flag (is_next_line (slice_index bytes j) (slice_index bytes (1 + j)))

abbrev pub separator_at : List ℕ → ℕ → ℕ
separator_at bytes j =
    flag (is_separator (slice_index bytes j) (slice_index bytes (1 + j)) (slice_index bytes (2 + j)))

abbrev pub break_at : List ℕ → ℕ → ℕ
break_at bytes j = flag (is_break (slice_index bytes j) (slice_index bytes (1 + j)) (slice_index bytes (2 + j)))

abbrev pub breaks_counted_before : List ℕ → ℕ → ℕ
breaks_counted_before bytes n = sum_below (break_at bytes) n
