use Rattle.str_indices_tests.proofs.Common.{◌+◌, ◌≤◌, arith, Each1-zip2, Each2-replicate}
use Rattle.str_indices_tests.proofs.chunks.lane_count.Goals as goal

pub add-requires : goal.add-requires
add-requires g c = rw (c.zero.ensures, c.splat.ensures)
    (Each2-replicate (λ a b. a + b ≤ 255) g.T.ByteChunk.SIZE 0 1 (omega arith))

pub sum_bytes-requires : goal.sum_bytes-requires
sum_bytes-requires g c =
    let lawful = g.met.T.ByteChunk.lawful in
    rw (c.add.ensures, c.zero.ensures, c.splat.ensures)
    (Each1-zip2 (λ a b. a + b) (λ lane. lane ≤ g.T.ByteChunk.MAX_ACC) _ _
    (Each2-replicate (λ a b. a + b ≤ g.T.ByteChunk.MAX_ACC) g.T.ByteChunk.SIZE 0 1 (omega (arith, lawful.room))))
