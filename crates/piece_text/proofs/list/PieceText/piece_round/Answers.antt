use Rattle.piece_text.proofs.lemmas.{◌<◌, ◌∙◌, ap, arith, length, [], take, get_or_default, size, size-append, joined, piece_at, joined-take}
use Rattle.piece_text.proofs.list.PieceText.piece_round.Goals as goal

-- the next piece starts where this one ends
pub loop-i-preserved : goal.loop-i-preserved
loop-i-preserved c =
    let items = c.self.inside.pieces.items in
    let i = c.loop-i.i in
    let inside : i < length items = omega (arith, ap length c.self.view_is, c.span_round-part.ensures.within, c.loop-i-test.true, ap length c.as_slice-2.ensures.value) in
    let own = ap size (c.index-piece.ensures ∙ get_or_default items i c.index-piece.result.now [] inside) in
    let more = ap size (joined-take items i inside) ∙ size-append (joined (take i items)) (piece_at items i) in
    record {
      start = omega (arith, own, more, c.loop-i.invariant.start, c.len-len.ensures);
      past = omega (arith, c.if-byte_idx-start.false, c.loop-i.invariant.past);
    }
