use Rattle.piece_text.proofs.lemmas.{◌+◌, refl, ap, arith, rules, ◌∙◌, passing, passed, no_run, PiecesState, add_assoc}
use Rattle.piece_text.proofs.ranges.past_all_runs.Goals as goal

-- nothing is before the first run
pub loop-run-init : goal.loop-run-init
loop-run-init c =
    let front = c.none-front.ensures c.args.s in
    record { first = refl; front = front; state = search rules; looks = omega arith }

-- the run has its place there
pub pass-front-requires-clause-run : goal.pass-front-requires-clause-run
pass-front-requires-clause-run c =
    let runs = c.runs-run-items.result.now in
    let texts = c.args.p.now.texts in
    let here = passing runs texts c.loop-run.first c.loop-run.run-index no_run c.runs-run-items.ensures c.loop-run-test.true
    c.loop-run.invariant.first in
    rw (ap (λ p. p.texts) c.loop-run.invariant.state) here.at

pub overflow_add-first : goal.overflow_add-first
overflow_add-first c =
    let runs = c.runs-run-items.result.now in
    let texts = c.args.p.now.texts in
    let here = passing runs texts c.loop-run.first c.loop-run.run-index no_run c.runs-run-items.ensures c.loop-run-test.true
    c.loop-run.invariant.first in
    omega (arith, here.within, c.len-all.ensures.len)

pub loop-run-preserved : goal.loop-run-preserved
loop-run-preserved c =
    let runs = c.runs-run-items.result.now in
    let texts = c.args.p.now.texts in
    let here = passing runs texts c.loop-run.first c.loop-run.run-index no_run c.runs-run-items.ensures c.loop-run-test.true
    c.loop-run.invariant.first in
    let texts_is = ap (λ p. p.texts) c.loop-run.invariant.state in
    record {
      first = here.next;
      front = rw texts_is at c.pass-front.ensures.after;
      state = rw (← add_assoc) (c.pass-front.ensures.state ∙ ap {A = PiecesState} (λ p. record p { looks = p.looks + 1 }) c.loop-run.invariant.state);
      looks = omega (arith, here.some, c.loop-run.invariant.looks);
    }

pub returns-clause-range : goal.returns-clause-range
returns-clause-range c =
    let runs = c.runs-run-items.result.now in
    let texts = c.args.p.now.texts in
    let le = passed runs texts c.loop-run.first c.loop-run.run-index c.runs-run-items.ensures c.loop-run.invariant.first in
    record {
      order = omega (arith, le, c.len-all.ensures.len);
      within = omega (arith, c.len-all.ensures.len);
      front = c.loop-run.invariant.front;
    }

pub returns-clause-looks : goal.returns-clause-looks
returns-clause-looks c =
    let runs = c.runs-run-items.result.now in
    let texts = c.args.p.now.texts in
    let le = passed runs texts c.loop-run.first c.loop-run.run-index c.runs-run-items.ensures c.loop-run.invariant.first in
    omega (arith, le, c.len-all.ensures.len, ap (λ p. p.looks) c.loop-run.invariant.state, c.loop-run.invariant.looks)
