use Rattle.piece_text.proofs.lemmas.{◌<◌, ap, arith, chars, size, IsBoundary, IsCharBoundary-from_boundary, is_halved}
use Rattle.piece_text.proofs.piece.Piece.split.Goals as goal

pub split_at-requires : goal.split_at-requires
split_at-requires c =
    let boundary : IsBoundary (chars c.text.result.now) c.args.at = rw c.text.ensures c.requires.boundary in
    IsCharBoundary-from_boundary c.text.result.now c.text.utf8 c.args.at boundary

pub returns : goal.returns
returns c =
    let bytes = c.text.result.now in
    let at = c.args.at in
    let own = c.text.ensures in
    let boundary : IsBoundary (chars bytes) at = rw own c.requires.boundary in
    let below : at < size (chars bytes) = omega (arith, ap size own, c.requires.below) in
    rw (c.split_at.ensures.front, c.split_at.ensures.back, ← own)
    (is_halved bytes c.text.utf8 at boundary c.requires.above below)
