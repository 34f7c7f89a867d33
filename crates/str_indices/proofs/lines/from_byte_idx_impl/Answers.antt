use Rattle.str_indices.proofs.lemmas.{arith, min, length, then_, pass_after_peeks, Reads}
use Rattle.str_indices.proofs.lines.from_byte_idx_impl.Goals as goal
use Rattle.str_indices.proofs.lines.from_byte_idx_impl.Goals.{then-end-byte_idx, else-end-byte_idx}

-- up to three peeks: one where the byte is a boundary, and then two more
pub returns-then-is_outside_crlf-clause-pass : goal.returns-then-is_outside_crlf-clause-pass
returns-then-is_outside_crlf-clause-pass g c =
    let placed = c.boundary_at_or_before-end.ensures in
    let peeked : Reads c.args.probe.now c.if-end-byte_idx.probe 0 0 0 3 =
    elim c.if-end-byte_idx.branch [
      | then-end-byte_idx w ↦ rw w.probe-is placed.reads
      | else-end-byte_idx w ↦
          rw w.probe-is (then_ (placed.reads_once (omega arith)) w.is_not_crlf_middle-is_outside_crlf.ensures.reads)
    ] in
    pass_after_peeks g.T.ByteChunk.SIZE c.args.lead c.boundary_at_or_before-end.result
    (min c.args.byte_idx (length c.args.probe.now.text)) g.met.T.ByteChunk.lawful.least placed.within peeked
    c.count_breaks_impl-breaks.ensures.pass
