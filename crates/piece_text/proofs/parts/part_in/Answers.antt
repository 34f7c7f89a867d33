use Rattle.piece_text.proofs.lemmas.{◌+◌, drop, take, joined, split_at_place, place_followed}
use Rattle.positions.specs.Lines.{scheme_of}
use Rattle.piece_text.proofs.parts.part_in.Goals as goal

pub of_piece-requires-clause-followed : goal.of_piece-requires-clause-followed
of_piece-requires-clause-followed c =
    place_followed (scheme_of c.args.lines) c.args.p.now.texts c.args.placed.now c.requires c.len-short.ensures.short

pub returns-clause-part : goal.returns-clause-part
returns-clause-part c =
    let texts = c.args.p.now.texts in
    let placed = c.args.placed.now in
    let a = joined (take placed.piece texts) in
    let back = joined (drop (placed.piece + 1) texts) in
    rw (split_at_place (scheme_of c.args.lines) texts placed c.requires)
    (rw c.text.ensures.text at (c.of_piece.ensures.part a back c.requires.before_is))
