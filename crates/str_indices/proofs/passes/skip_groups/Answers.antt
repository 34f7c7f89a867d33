use Rattle.str_indices.proofs.lemmas.{ap, arith, length, chunk_read, div-add-le, few_chunks, weaken}
use Rattle.str_indices.proofs.passes.skip_groups.Goals as goal

pub returns-clause-reads : goal.returns-clause-reads
returns-clause-reads g c =
    let steps = c.skip_chunks-after_steps in
    let least = g.met.T.ByteChunk.lawful.least in
    let steps_read = steps.ensures.reads_at_end
    (omega (arith, rw c.SIZE.ensures at c.if-least-SIZE.false, c.len.ensures.len, ap length steps.ensures.reads.text_kept)) in
    let few = few_chunks g.C.PlaceCounts.GROUP g.C.PlaceCounts.MOST g.met.C.PlaceCounts.bounded.0 g.met.C.PlaceCounts.grouped.1 in
    let parts = div-add-le g.T.ByteChunk.SIZE c.args.from.byte steps.result.byte c.skip_chunks.result.byte least
    steps.ensures.onward c.skip_chunks.ensures.onward in
    weaken (chunk_read steps.ensures.onward steps_read c.skip_chunks.ensures.reads) (omega arith) (omega arith)
    (omega (arith, parts, few, c.GROUP-group.ensures)) (omega arith)
