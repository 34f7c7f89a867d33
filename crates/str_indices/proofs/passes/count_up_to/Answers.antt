use Rattle.str_indices.proofs.lemmas.{arith, counting_pass, then_, Each1-weaker}
use Rattle.str_indices.proofs.passes.count_up_to.Goals as goal

pub returns-clause-reads : goal.returns-clause-reads
returns-clause-reads g c =
    counting_pass c.args.lead g.met.T.ByteChunk.lawful.least (omega (arith, c.min-byte.ensures))
    (then_ c.walk-count.ensures.reads c.carry_at-carry.ensures.reads) c.count_chunks-after_chunks.ensures.reads
    c.lanes_up_to-rest.ensures.reads c.count_chunks-after_chunks.ensures.reached.1 (omega (arith, c.min-byte.ensures))

pub sum_bytes-requires : goal.sum_bytes-requires
sum_bytes-requires g c =
    Each1-weaker _ _ (λ lane le. omega (arith, g.met.C.PlaceCounts.bounded.1, g.met.T.ByteChunk.lawful.room, le)) _
    c.lanes_up_to-rest.ensures.lanes.small
