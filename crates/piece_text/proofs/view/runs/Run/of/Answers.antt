use Rattle.piece_text.proofs.lemmas.{arith, ◌+◌, ◌-◌, joined_size-part}
use Rattle.piece_text.proofs.view.runs.Run.of.Goals as goal

pub sum-whole-requires-clause-short : goal.sum-whole-requires-clause-short
sum-whole-requires-clause-short c =
    let first = c.args.first in
    omega (arith, joined_size-part c.args.pieces.now first (first + c.args.count - first), c.requires.short)
