-- Lemmas for the laws of this crate's traits.
--     flag-le b                a flag is at most 1
--     mark-le test b           a byte marks 1 at most
--     units_begun-le b         a byte begins 2 UTF-16 code units at most
--     break_start-le bytes n   at each place one break of `Crlf` starts at most
--     break_at-le bytes n      at each byte one break of `Lines` is counted at most
use Rattle.std.specs.Prelude.{ℕ, ◌+◌, ◌≤◌, Bool, true, false, List, slice_index}
use Rattle.std.proofs.Common.{arith}
use Rattle.str_indices.specs.Bytes.{flag, mark, is_leading, begins_four_bytes, units_begun, byte_before, starts_break, break_start}
use Rattle.str_indices.specs.Breaks.{is_break, break_at}

pub flag-le : (b : Bool) → flag b ≤ 1
flag-le true = omega arith
flag-le false = omega arith

pub mark-le : (test : ℕ → Bool) (b : ℕ) → mark test b ≤ 1
mark-le test b = flag-le (test b)

pub units_begun-le : (b : ℕ) → units_begun b ≤ 2
units_begun-le b = omega (arith, mark-le is_leading b, mark-le begins_four_bytes b)

pub break_start-le : (bytes : List ℕ) (n : ℕ) → break_start bytes n ≤ 1
break_start-le bytes n = mark-le (starts_break (byte_before bytes n)) (slice_index bytes n)

pub break_at-le : (bytes : List ℕ) (n : ℕ) → break_at bytes n ≤ 1
break_at-le bytes n =
    flag-le (is_break (slice_index bytes n) (slice_index bytes (1 + n)) (slice_index bytes (2 + n)))
