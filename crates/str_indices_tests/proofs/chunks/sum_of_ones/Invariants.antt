use Rattle.str_indices_tests.proofs.Common.{◌≡◌, ℕ, replicate}
use Rattle.str_indices_tests.proofs.chunks.sum_of_ones.Given as goal

abbrev pub invariant-rounds : goal.invariant-rounds
invariant-rounds g l = g.T.ByteChunk.lanes l.sums ≡ replicate {A = ℕ} g.T.ByteChunk.SIZE l.counter
