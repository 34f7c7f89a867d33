use Rattle.positions.proofs.lemmas.{IsCharBoundary-from_boundary, back_of_bytes}
use Rattle.positions.proofs.texts.from_byte.Goals as goal

pub range_from-requires : goal.range_from-requires
range_from-requires c = λ _. IsCharBoundary-from_boundary c.args.text.now c.utf8.text c.args.at c.requires.boundary

pub returns : goal.returns
returns c =
    rw c.range_from.ensures.value (back_of_bytes c.args.text.now c.utf8.text c.args.at c.requires.boundary)
