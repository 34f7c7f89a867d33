use Rattle.piece_text.proofs.lemmas.{joined, run_before, run_joined, next_run, ◌∙◌}
use Rattle.piece_text.proofs.ranges.pass.Goals as goal

-- the run is one of the text
pub whole-whole-requires : goal.whole-whole-requires
whole-whole-requires c = (c.args.first, c.requires.run)

pub step-requires : goal.step-requires
step-requires c = next_run c.args.s c.args.p.now.texts c.args.first c.args.front c.args.run.now c.whole-whole.result
    c.requires.run c.requires.front c.whole-whole.ensures.whole c.whole-whole.ensures.short

pub returns-clause-after : goal.returns-clause-after
returns-clause-after c =
    let texts = c.args.p.now.texts in
    let run = c.requires.run in
    let front = rw (run_before texts c.args.first c.args.run.now run) at c.requires.front in
    let look = c.step.ensures (joined run.before) (joined run.own) front (c.whole-whole.ensures.whole ∙ run.is.whole)
    run.is.some in
    rw (run_joined texts c.args.first c.args.run.now run) look.after
