-- Whether bytes may follow those before them, for all lanes of a chunk at once.
--     ShowsFaults most size right lanes     there are `size` lanes, each at most `most`, and 0 just where the place is right
--     is_masked mask byte b                 whether b is `byte` where the mask has bits
--     is_long x y                           whether a char of three or four bytes that began at x or y goes on
--     is_due long z b                       whether b is a trailing byte just where one is due, and in a long char z is one
--     may_lead z                            whether z is none of 0xC0, 0xC1 and 0xF8 to 0xFF
--     keeps_min z b                         whether the trailing byte b may follow 0xE0 or 0xF0, where z is one of them
--     keeps_max z b                         whether it may follow 0xED or 0xF4, likewise, and z is none of 0xF5 to 0xF7
--     IsNibbles size f lanes                there are `size` lanes, f of its place in each, all below 16
use Rattle.std.specs.Prelude.{ℕ, ◌≡◌, ◌<◌, ◌≤◌, Bool, not, ◌&&◌, ◌||◌, ◌==◌, if◌then◌else◌, List, bit_and, length, nat_le, slice_index}
use Rattle.std.specs.Simd.Lanes.{Each1}
use Rattle.str_indices.specs.Bytes.{is_trailing}
use Rattle.str_indices.specs.Lanes.{HasLanes}

pub record ShowsFaults (most size : ℕ) (right : ℕ → Bool) (lanes : List ℕ) : Type 0 where
  pub long : length lanes ≡ size
  pub small : (j : ℕ) → j < size → slice_index lanes j ≤ most
  pub each : (j : ℕ) → j < size → (slice_index lanes j == 0) ≡ right j

abbrev pub is_masked : ℕ → ℕ → ℕ → Bool
is_masked mask byte b = bit_and b mask == byte

abbrev pub is_long : ℕ → ℕ → Bool
is_long x y = nat_le 0xF0 x || nat_le 0xE0 y

abbrev pub is_due : Bool → ℕ → ℕ → Bool
is_due long z b =
    if long then is_trailing z && is_trailing b
    else (if is_masked 0xC0 0xC0 z then is_trailing b else not (is_trailing b))

abbrev pub may_lead : ℕ → Bool
may_lead z = not (is_masked 0xFE 0xC0 z) && not (is_masked 0xF8 0xF8 z)

abbrev pub keeps_min : ℕ → ℕ → Bool
keeps_min z b = not (z == 0xE0 && is_masked 0x20 0 b) && not (z == 0xF0 && is_masked 0x30 0 b)

abbrev pub keeps_max : ℕ → ℕ → Bool
keeps_max z b = not (z == 0xED && is_masked 0x20 0x20 b) && not (is_masked 0xFC 0xF4 z && not (z == 0xF4 && is_masked 0x30 0 b))

pub record IsNibbles (size : ℕ) (f : ℕ → ℕ) (lanes : List ℕ) : Type 0 where
  pub each : HasLanes size f lanes
  pub small : Each1 (λ lane. lane < 16) lanes
