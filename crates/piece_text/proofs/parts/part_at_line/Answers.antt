use Rattle.piece_text.proofs.lemmas.{place_has_line}
use Rattle.piece_text.proofs.parts.part_at_line.Goals as goal

pub returns-clause-round : goal.returns-clause-round
returns-clause-round c =
    let texts = c.args.p.now.texts in
    let came = rw c.scheme.ensures at c.piece_up_to-placed.ensures.comes in
    let part = rw c.piece_up_to-placed.ensures.texts at c.part_in.ensures.part in
    let text = rw c.piece_up_to-placed.ensures.texts at c.part_in.ensures.text in
    place_has_line c.args.lines c.args.encoding texts c.piece_up_to-placed.result c.args.line c.part_in.result part came text
    c.part_in.ensures.start
