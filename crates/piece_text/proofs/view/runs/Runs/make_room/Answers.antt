use Rattle.piece_text.proofs.lemmas.{ap, arith, pieces_in, pieces_in-le}
use Rattle.piece_text.proofs.view.runs.Runs.make_room.Goals as goal

-- the runs have no more pieces than there are
pub overflow_sub-pieces : goal.overflow_sub-pieces
overflow_sub-pieces c =
    omega (arith, c.self.invariant, ap pieces_in c.self.view_is, pieces_in-le c.args.self.now c.args.pieces.now c.requires.are)
