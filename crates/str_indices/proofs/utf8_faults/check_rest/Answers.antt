use Rattle.str_indices.proofs.lemmas.{◌-◌, ap, arith, window_loaded}
use Rattle.str_indices.proofs.utf8_faults.check_rest.Goals as goal

pub check_alone-requires-clause-chunk : goal.check_alone-requires-clause-chunk
check_alone-requires-clause-chunk g c =
    let text = c.args.probe.now.text in
    let at = c.len.result - c.SIZE.result in
    let turned = ap (λ p. p.text) c.chunk_by_turns-chunk.ensures.turns in
    rw turned
    (window_loaded text at g.T.ByteChunk.SIZE _ c.len.ensures.bytes (omega (arith, c.len.ensures.len, c.requires)) c.chunk_by_turns-chunk.ensures.lanes)
