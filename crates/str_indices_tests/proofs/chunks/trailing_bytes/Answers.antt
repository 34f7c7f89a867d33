use Rattle.str_indices_tests.proofs.Common.{ℕ, ◌≤◌, List, [], ◌∷◌, map, arith, Each1}
use Rattle.std.proofs.lemmas.Bool.Decides.{nat_tests}
use Rattle.byte_chunk.specs.Lanes.{is_byte}
use Rattle.str_indices_tests.proofs.chunks.trailing_bytes.Goals as goal

-- a mark is 0 or 1
mark_small : (byte lane most : ℕ) → 1 ≤ most → is_byte byte lane ≤ most
mark_small byte lane most one = grind (arith, nat_tests)

-- and so is each mark of a chunk
marks_small : (byte most : ℕ) (lanes : List ℕ) → 1 ≤ most → Each1 (λ lane. lane ≤ most) (map (is_byte byte) lanes)
marks_small byte most [] one = tt
marks_small byte most (lane ∷ lanes) one = (mark_small byte lane most one, marks_small byte most lanes one)

pub sum_bytes-requires : goal.sum_bytes-requires
sum_bytes-requires g c =
    let lawful = g.met.T.ByteChunk.lawful in
    rw c.cmp_eq_byte.ensures (marks_small 0x80 g.T.ByteChunk.MAX_ACC (g.T.ByteChunk.lanes c.bitand.result)
    (omega (arith, lawful.room)))
