-- The lanes of a chunk by their places, and counts before a place of a text.
--     HasLanes size f lanes            there are `size` lanes, and f of its place in each
--     HasLaterLanes size f lanes       there are `size` lanes, and f of its place in each but the first
--     IsHandedOn carries carry         some chunk hands that carry on
--     IsChunk bytes at size lanes      the lanes are the `size` bytes from `at` on
--     AddsUp counted most size from to chunks lanes
--                                      the lanes of `chunks` chunks, added, hold the count from `from` to `to`
--     CountsUpTo counted most size from to lanes
--                                      the lanes hold the count from `from` to `to`
--     FitsIn counted n                 at each place up to n the count is at most n
--     IsSteady counted n               and between two such places it grows by at most one more than there are bytes
--     CountsOn each carries byte count carry
--                                      a count goes on from the place `byte`
--     SearchesOn counted_at carries text idx byte count carry
--                                      a search for the byte that takes the count above idx goes on from there
use Rattle.std.specs.Prelude.{ℕ, ◌≡◌, ◌+◌, ◌-◌, ◌*◌, ◌<◌, ◌≤◌, List, drop, length, slice_index, sum}
use Rattle.std.specs.Simd.Lanes.{Each1}
use Rattle.str_indices.specs.Bytes.{sum_below}

pub record HasLanes (size : ℕ) (f : ℕ → ℕ) (lanes : List ℕ) : Type 0 where
  pub long : length lanes ≡ size
  pub each : (j : ℕ) → j < size → slice_index lanes j ≡ f j

pub record HasLaterLanes (size : ℕ) (f : ℕ → ℕ) (lanes : List ℕ) : Type 0 where
  pub long : length lanes ≡ size
  pub each : (j : ℕ) → 0 < j → j < size → slice_index lanes j ≡ f j

pub record IsHandedOn {C : Type 0} (carries : ℕ → C → Type 0) (carry : C) : Type 0 where
  pub place : ℕ
  pub there : carries place carry

pub record IsChunk (bytes : List ℕ) (at size : ℕ) (lanes : List ℕ) : Type 0 where
  pub long : length lanes ≡ size
  pub each : (j : ℕ) → j < size → slice_index lanes j ≡ slice_index bytes (at + j)

-- The lanes of `chunks` chunks were added, each lane at most `most`. The `size` lanes add up to what `counted`, the
-- count before a place, grows by from the place `from` to `to`.
pub record AddsUp (counted : ℕ → ℕ) (most size from to chunks : ℕ) (lanes : List ℕ) : Type 0 where
  pub long : length lanes ≡ size
  pub small : Each1 (λ lane. lane ≤ chunks * most) lanes
  pub added : counted to ≡ counted from + sum lanes

-- The lanes of the last `size` places before `to`, each `most` at most. From each place from `from` on, they add up to what
-- `counted`, the count before a place, grows by up to `to`; and those before `from` add nothing.
pub record CountsUpTo (counted : ℕ → ℕ) (most size from to : ℕ) (lanes : List ℕ) : Type 0 where
  pub long : length lanes ≡ size
  pub small : Each1 (λ lane. lane ≤ most) lanes
  pub added : counted to ≡ counted from + sum lanes
  pub rest : (place : ℕ) → from ≤ place → place ≤ to
      → counted to ≡ counted place + sum (drop (size - (to - place)) lanes)

-- at each place up to n the count is at most n
abbrev pub FitsIn : (ℕ → ℕ) → ℕ → Type 0
FitsIn counted n = (place : ℕ) → place ≤ n → counted place ≤ n

pub record IsSteady (counted : ℕ → ℕ) (n : ℕ) : Type 0 where
  pub fits : FitsIn counted n
  pub near : (at more : ℕ) → at + more ≤ n → counted (at + more) ≤ counted at + more + 1

-- A count goes on from the place `byte`: before it `count` are counted, the sum of `each` over the places, and the
-- chunk before it hands on `carry`.
pub record CountsOn {C : Type 0} (each : ℕ → ℕ) (carries : ℕ → C → Type 0) (byte count : ℕ) (carry : C) : Type 0 where
  pub counted : count ≡ sum_below each byte
  pub carried : carries byte carry

-- A search for the byte that takes the count above idx goes on from the place `byte`: before it `count` are counted, at
-- most idx, and the chunk before it hands on `carry`.
pub record SearchesOn {C : Type 0} (counted_at : ℕ → List ℕ → ℕ → ℕ) (carries : List ℕ → ℕ → C → Type 0) (text : List ℕ)
    (idx byte count : ℕ) (carry : C) : Type 0 where
  pub within : byte ≤ length text
  pub counted : count ≡ sum_below (counted_at (length text) text) byte
  pub at_most : count ≤ idx
  pub carried : carries text byte carry
