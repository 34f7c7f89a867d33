use Rattle.piece_text.proofs.lemmas.{arith, take, joined, piece_at, next_piece, tells_at, TellsAt}
use Rattle.piece_text.proofs.queries.step_over.Goals.{After-step}
use Rattle.piece_text.proofs.queries.step_over.Goals as goal

pub step-requires : goal.step-requires
step-requires c = next_piece c.args.s c.args.p.now.texts c.args.i c.args.front c.summary-piece.result c.requires.inside
    c.requires.front c.summary-piece.ensures.summary c.summary-piece.ensures.some c.summary-piece.ensures.short

told : (c : After-step) → TellsAt c.args.s c.args.p.now.texts c.args.i c.args.front c.step.result
told c =
    let before = joined (take c.args.i c.args.p.now.texts) in
    let piece = piece_at c.args.p.now.texts c.args.i in
    let some = c.summary-piece.ensures.some in
    tells_at c.args.s c.args.p.now.texts c.args.i c.args.front c.step.result c.requires.inside some c.requires.front
    (c.step.ensures before piece c.requires.front c.summary-piece.ensures.summary some)

pub returns-clause-reached : goal.returns-clause-reached
returns-clause-reached c =
    let before = joined (take c.args.i c.args.p.now.texts) in
    let piece = piece_at c.args.p.now.texts c.args.i in
    let look = c.step.ensures before piece c.requires.front c.summary-piece.ensures.summary c.summary-piece.ensures.some in
    omega (arith, look.reached, c.requires.front.total)

pub returns-clause-after : goal.returns-clause-after
returns-clause-after c = (told c).after

pub returns-clause-from_here : goal.returns-clause-from_here
returns-clause-from_here c = (told c).from_here

pub returns-clause-to_reached : goal.returns-clause-to_reached
returns-clause-to_reached c = (told c).to_reached

pub returns-clause-to_here : goal.returns-clause-to_here
returns-clause-to_here c = (told c).to_here
