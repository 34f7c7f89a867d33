use Rattle.positions.specs.Lines.{scheme_of}
use Rattle.piece_text.proofs.lemmas.{place_has_byte}
use Rattle.piece_text.proofs.parts.part_at_byte.Goals as goal

pub returns-clause-round : goal.returns-clause-round
returns-clause-round c =
    let texts = c.args.p.now.texts in
    let place = rw c.scheme.ensures at c.piece_round-placed.ensures.place in
    let text = rw c.piece_round-placed.ensures.texts at c.part_in.ensures.text in
    place_has_byte (scheme_of c.args.lines) texts c.piece_round-placed.result c.args.byte c.part_in.result place text c.part_in.ensures.start
