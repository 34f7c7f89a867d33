use Rattle.piece_text.proofs.lemmas.{arith, ap, [], ◌∷◌, AreRuns, pieces_in, pieces_in-append, gathered}
use Rattle.piece_text.proofs.view.runs.Runs.gather.Goals as goal

pub invariant_of-self-2 : goal.invariant_of-self-2
invariant_of-self-2 c = omega (
  arith,
  ap pieces_in c.in-Ok.ensures.items,
  pieces_in-append c.self.inside.runs.items (c.of-run.result ∷ []),
  c.of-run.ensures.count,
  c.self.invariant,
)

pub returns : goal.returns
returns c =
    let items = c.self.inside.runs.items in
    let are : AreRuns items c.args.pieces.now = rw (← c.self.view_is) at c.requires.are in
    rw c.in-Ok.ensures.items (gathered items c.args.pieces.now 64 c.of-run.result are (rw c.self.invariant at c.of-run.ensures.run))
