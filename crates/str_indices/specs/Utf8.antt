-- UTF-8 as a rule on each byte and the three before it (the Unicode Standard, table 3-7).
--     may_follow x y z b              whether byte b may follow x, y and z
--     leaves_open x y z               whether a char goes on after x, y and z
--     after_zeros bytes               the bytes, after three bytes 0
--     follows bytes i                 whether the byte at i may follow the three before it; before the first they are 0
--     is_open bytes i                 whether a char goes on at place i
--     open_start bytes i              where the char begins that goes on at place i, or else i
--     AllFollow bytes from to         the bytes between two places may each follow the three before them
--     IsFault bytes at                the first byte that may not follow the three before it is at `at`
--     AreBytes size lanes             there are `size` lanes, and each is a byte
--     IsWindow size bytes at lanes    the lanes are the `size` bytes of `after_zeros bytes` from `at` on
--     AreFour size bytes at first second third fourth
--                                     the four chunks that the bytes have from place `at` on
--     AreAscii size first second third fourth
--                                     all lanes of the four chunks are ASCII
--     EndsAt size bytes at lanes      the last lane is the byte of `after_zeros bytes` at `at`
--     AreBefore size bytes at one two three
--                                     the last lanes of three chunks are the bytes one, two and three back from place `at`
use Rattle.std.specs.Prelude.{ℕ, ◌≡◌, ◌+◌, ◌-◌, ◌*◌, ◌<◌, ◌≤◌, Bool, not, ◌&&◌, ◌||◌, if◌then◌else◌, List, ◌∷◌, length, nat_le, nat_lt, slice_index, IsTrue, IsFalse}
use Rattle.std.specs.Int.{is_in_range}
use Rattle.std.specs.Simd.Lanes.{Each1}
use Rattle.std.specs.Str.Lossy.{second_byte_min, second_byte_max}

-- In a char of three or four bytes that began at x or y, z and b are trailing bytes. Else after ASCII or a trailing byte b
-- begins a char, and after the first byte of a char it is one that may be the second.
abbrev pub may_follow : ℕ → ℕ → ℕ → ℕ → Bool
may_follow x y z b =
    if nat_le 0xF0 x || nat_le 0xE0 y then is_in_range 0x80 0xBF z && is_in_range 0x80 0xBF b
    else (if nat_lt z 0xC0 then not (is_in_range 0x80 0xBF b)
    else is_in_range 0xC2 0xF4 z && is_in_range (second_byte_min z) (second_byte_max z) b)

abbrev pub leaves_open : ℕ → ℕ → ℕ → Bool
leaves_open x y z = nat_le 0xF0 x || (nat_le 0xE0 y || nat_le 0xC0 z)

abbrev pub after_zeros : List ℕ → List ℕ
after_zeros bytes = 0 ∷ 0 ∷ 0 ∷ bytes

abbrev pub follows : List ℕ → ℕ → Bool
follows bytes i =
    let all = after_zeros bytes in
    may_follow (slice_index all i) (slice_index all (i + 1)) (slice_index all (i + 2)) (slice_index all (i + 3))

abbrev pub is_open : List ℕ → ℕ → Bool
is_open bytes i =
    let all = after_zeros bytes in
    leaves_open (slice_index all i) (slice_index all (i + 1)) (slice_index all (i + 2))

abbrev pub open_start : List ℕ → ℕ → ℕ
open_start bytes i =
    let all = after_zeros bytes in
    if nat_le 0xC0 (slice_index all (i + 2)) then i - 1
    else (if nat_le 0xE0 (slice_index all (i + 1)) then i - 2
    else (if nat_le 0xF0 (slice_index all i) then i - 3 else i))

abbrev pub AllFollow : List ℕ → ℕ → ℕ → Type 0
AllFollow bytes from to = (i : ℕ) → from ≤ i → i < to → IsTrue (follows bytes i)

pub record AreBytes (size : ℕ) (lanes : List ℕ) : Type 0 where
  pub long : length lanes ≡ size
  pub small : Each1 (λ lane. lane < 256) lanes

pub record IsFault (bytes : List ℕ) (at : ℕ) : Type 0 where
  pub within : at < length bytes
  pub follow : AllFollow bytes 0 at
  pub stops : IsFalse (follows bytes at)

pub record IsWindow (size : ℕ) (bytes : List ℕ) (at : ℕ) (lanes : List ℕ) : Type 0 where
  pub are : AreBytes size lanes
  pub each : (j : ℕ) → j < size → slice_index lanes j ≡ slice_index (after_zeros bytes) (at + j)

pub record AreFour (size : ℕ) (bytes : List ℕ) (at : ℕ) (first second third fourth : List ℕ) : Type 0 where
  pub within : at + 4 * size ≤ length bytes
  pub is_first : IsWindow size bytes (at + 3) first
  pub is_second : IsWindow size bytes (at + size + 3) second
  pub is_third : IsWindow size bytes (at + 2 * size + 3) third
  pub is_fourth : IsWindow size bytes (at + 3 * size + 3) fourth

abbrev pub AreAscii : ℕ → List ℕ → List ℕ → List ℕ → List ℕ → Type 0
AreAscii size first second third fourth = (j : ℕ) → j < size
    → (slice_index first j < 128) × (slice_index second j < 128) × (slice_index third j < 128) × (slice_index fourth j < 128)

pub record EndsAt (size : ℕ) (bytes : List ℕ) (at : ℕ) (lanes : List ℕ) : Type 0 where
  pub are : AreBytes size lanes
  pub last : slice_index lanes (size - 1) ≡ slice_index (after_zeros bytes) at

pub record AreBefore (size : ℕ) (bytes : List ℕ) (at : ℕ) (one two three : List ℕ) : Type 0 where
  pub one_back : EndsAt size bytes (at + 2) one
  pub two_back : EndsAt size bytes (at + 1) two
  pub three_back : EndsAt size bytes at three
