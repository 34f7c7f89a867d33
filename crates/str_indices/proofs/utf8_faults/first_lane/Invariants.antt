use Rattle.str_indices.proofs.lemmas.{◌≡◌, ℕ, ◌<◌, get_or}
use Rattle.str_indices.proofs.utf8_faults.first_lane.Given as goal

abbrev pub invariant-loop-lane : goal.invariant-loop-lane
invariant-loop-lane g l = (j : ℕ) → j < l.lane → get_or (g.T.ByteChunk.lanes l.fn.lanes) j 0 ≡ 0
