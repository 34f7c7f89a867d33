-- How much code reads of a text, by the counters of its probe, and how much a pass of a kernel may read.
--     Reads old new first turns loads spare    what was read between two states of a probe
--     IsCountingPass old new size lead n spare         what a pass that counts in n bytes may read
--     IsFindingPass old new size lead n place spare    what a pass that finds a place in n bytes may read
--     pass_turns size lead n                   the most single-byte turns of one pass over n bytes
--     pass_loads size lead n                   the most loads of one pass over n bytes
use Rattle.std.specs.Prelude.{ℕ, ◌≡◌, ◌+◌, ◌-◌, ◌*◌, ◌/◌, ◌≤◌, min}
use Rattle.byte_chunk.specs.ProbeState.{ProbeState}

-- the counter rose by at most `most`, and did not fall
pub record RisesWithin (old new most : ℕ) : Type 0 where
  pub rises : old ≤ new
  pub within : new ≤ old + most

-- From one state of a probe to a later one: the text is the same; there were at most `turns` turns and `loads` loads;
-- the least place loaded from is at least the lesser of `first` and what it was, and the same if nothing was loaded;
-- and there were at most two peeks for each turn, four for each load and `spare` more.
pub record Reads (old new : ProbeState) (first turns loads spare : ℕ) : Type 0 where
  pub text_kept : new.text ≡ old.text
  pub turns_within : RisesWithin old.turns new.turns turns
  pub loads_within : RisesWithin old.loads new.loads loads
  pub peeks_within : RisesWithin old.peeks new.peeks (2 * (new.turns - old.turns) + 4 * (new.loads - old.loads) + spare)
  pub low_reached : min old.low first ≤ new.low
  pub low_kept : new.loads ≡ old.loads → new.low ≡ old.low

-- how many of `lead` leading bytes a pass over n bytes covers
abbrev pub leading_bytes : ℕ → ℕ → ℕ
leading_bytes lead n = min lead n

-- the most single-byte turns of one pass over n bytes
abbrev pub pass_turns : ℕ → ℕ → ℕ → ℕ
pass_turns size lead n = leading_bytes lead n + size + 4

-- the most loads of one pass over n bytes
abbrev pub pass_loads : ℕ → ℕ → ℕ → ℕ
pass_loads size lead n = (n - leading_bytes lead n) / size

-- a pass that counts in n bytes: at most `pass_turns` turns and `pass_loads` loads, and `spare` peeks beside theirs
abbrev pub IsCountingPass : ProbeState → ProbeState → ℕ → ℕ → ℕ → ℕ → Type 0
IsCountingPass old new size lead n spare =
    Reads old new (leading_bytes lead n) (pass_turns size lead n) (pass_loads size lead n) spare

-- a pass that finds a place in n bytes: at most five loads more than there are chunks before the place
abbrev pub IsFindingPass : ProbeState → ProbeState → ℕ → ℕ → ℕ → ℕ → ℕ → Type 0
IsFindingPass old new size lead n place spare =
    Reads old new (leading_bytes lead n) (pass_turns size lead n) (place / size + 5) spare
