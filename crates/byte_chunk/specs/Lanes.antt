-- Chunks as contracts see them: lists of lanes.
use Rattle.std.specs.Prelude.{ℕ, List, ◌≤◌, ◌==◌, ◌&&◌, nat_lt, if◌then◌else◌}
use Rattle.std.specs.Simd.Lanes.{digits_l}

-- the n lanes of a word: lane i is its byte i, the lowest first
unfoldable pub word_lanes : ℕ → ℕ → List ℕ
word_lanes n word = digits_l 256 n word

-- 1 where the lane is the byte, else 0
abbrev pub is_byte : ℕ → ℕ → ℕ
is_byte byte lane = if lane == byte then 1 else 0

-- 1 where the lane is above a and below b, else 0
abbrev pub is_between : ℕ → ℕ → ℕ → ℕ
is_between a b lane = if nat_lt a lane && nat_lt lane b then 1 else 0

-- the sizes that a chunk type may have: its lanes, and the greatest lane that it sums
pub record IsLawful (size max_acc : ℕ) : Type 0 where
  pub least : 4 ≤ size
  pub most : size ≤ 64
  pub room : 4 ≤ max_acc
  pub fits : max_acc ≤ 255
