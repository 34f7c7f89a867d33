use Rattle.piece_text.proofs.lemmas.{ap, arith, pieces_in, swapped_after}
use Rattle.piece_text.proofs.view.runs.Runs.swap.Goals as goal

-- the swap was after the runs
pub returns-else-at-self : goal.returns-else-at-self
returns-else-at-self c = swapped_after c.args.self.now c.args.pieces.now c.args.at c.args.swap c.requires.swapped
    (omega (arith, c.if-at-self.false, c.self.invariant, ap pieces_in c.self.view_is))
