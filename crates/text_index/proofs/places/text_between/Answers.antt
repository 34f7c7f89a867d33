use Rattle.text_index.proofs.lemmas.{chars, arith, boundary_upto}
use Rattle.text_index.proofs.places.text_between.Goals as goal

pub halves-requires-2 : goal.halves-requires-2
halves-requires-2 c =
    let front = chars c.halves.result.0.now in
    let back = chars c.halves.result.1.now in
    let start = rw c.halves.ensures.parts at c.requires.start in
    boundary_upto front back c.args.from (omega (arith, c.halves.ensures.place, c.requires.order)) start
