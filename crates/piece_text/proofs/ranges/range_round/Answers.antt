use Rattle.piece_text.proofs.lemmas.{◌+◌, refl, ap, arith, rules, ◌∙◌, passing, passed, no_run, PiecesState, add_assoc}
use Rattle.piece_text.proofs.ranges.range_round.Goals as goal

-- nothing is before the first run
pub loop-run-init : goal.loop-run-init
loop-run-init c =
    let front = c.none-front.ensures c.args.s in
    record { first = refl; front = front; state = search rules; looks = omega arith; past = omega (arith, front.len); left = λ some. some }

pub overflow_add-end : goal.overflow_add-end
overflow_add-end c =
    let runs = c.runs-run-items.result.now in
    let texts = c.args.p.now.texts in
    let here = passing runs texts c.loop-run.first c.loop-run.run-index no_run c.runs-run-items.ensures c.loop-run-test.true
    c.loop-run.invariant.first in
    omega (arith, here.within, c.len-all.ensures.len)

-- the run has its place there
pub pass-after-requires-clause-run : goal.pass-after-requires-clause-run
pass-after-requires-clause-run c =
    let runs = c.runs-run-items.result.now in
    let texts = c.args.p.now.texts in
    let here = passing runs texts c.loop-run.first c.loop-run.run-index no_run c.runs-run-items.ensures c.loop-run-test.true
    c.loop-run.invariant.first in
    rw (ap (λ p. p.texts) c.loop-run.invariant.state) here.at

pub loop-run-preserved : goal.loop-run-preserved
loop-run-preserved c =
    let runs = c.runs-run-items.result.now in
    let texts = c.args.p.now.texts in
    let here = passing runs texts c.loop-run.first c.loop-run.run-index no_run c.runs-run-items.ensures c.loop-run-test.true
    c.loop-run.invariant.first in
    let texts_is = ap (λ p. p.texts) c.loop-run.invariant.state in
    record {
      first = here.next;
      front = rw texts_is at c.pass-after.ensures.after;
      state = rw (← add_assoc) (c.pass-after.ensures.state ∙ ap {A = PiecesState} (λ p. record p { looks = p.looks + 1 }) c.loop-run.invariant.state);
      looks = omega (arith, here.some, c.loop-run.invariant.looks);
      past = omega (arith, c.if-b-after.false);
      left = λ _. omega (arith, here.within, c.len-all.ensures.len, c.if-end-all.false);
    }

pub returns-clause-range : goal.returns-clause-range
returns-clause-range c =
    let runs = c.runs-run-items.result.now in
    let texts = c.args.p.now.texts in
    let le = passed runs texts c.loop-run.first c.loop-run.run-index c.runs-run-items.ensures c.loop-run.invariant.first in
    record {
      order = omega (arith, le, c.len-all.ensures.len);
      within = omega (arith, c.len-all.ensures.len);
      front = c.loop-run.invariant.front;
    }

pub returns-clause-looks : goal.returns-clause-looks
returns-clause-looks c =
    let runs = c.runs-run-items.result.now in
    let texts = c.args.p.now.texts in
    let le = passed runs texts c.loop-run.first c.loop-run.run-index c.runs-run-items.ensures c.loop-run.invariant.first in
    omega (arith, le, c.len-all.ensures.len, ap (λ p. p.looks) c.loop-run.invariant.state, c.loop-run.invariant.looks)

pub returns-then-b-after-clause-range : goal.returns-then-b-after-clause-range
returns-then-b-after-clause-range c =
    let runs = c.runs-run-items.result.now in
    let texts = c.args.p.now.texts in
    let here = passing runs texts c.loop-run.first c.loop-run.run-index no_run c.runs-run-items.ensures c.loop-run-test.true
    c.loop-run.invariant.first in
    record {
      order = omega arith;
      within = omega (arith, here.within, c.len-all.ensures.len, c.if-end-all.false);
      front = c.loop-run.invariant.front;
    }

pub returns-then-b-after-clause-looks : goal.returns-then-b-after-clause-looks
returns-then-b-after-clause-looks c =
    let runs = c.runs-run-items.result.now in
    let texts = c.args.p.now.texts in
    let here = passing runs texts c.loop-run.first c.loop-run.run-index no_run c.runs-run-items.ensures c.loop-run-test.true
    c.loop-run.invariant.first in
    let state = c.pass-after.ensures.state ∙ ap {A = PiecesState} (λ p. record p { looks = p.looks + 1 }) c.loop-run.invariant.state in
    omega (arith, here.within, c.len-all.ensures.len, ap (λ p. p.looks) state, c.loop-run.invariant.looks, c.if-end-all.false)

-- the run has pieces
pub returns-then-end-all-clause-some : goal.returns-then-end-all-clause-some
returns-then-end-all-clause-some c =
    let runs = c.runs-run-items.result.now in
    let texts = c.args.p.now.texts in
    let here = passing runs texts c.loop-run.first c.loop-run.run-index no_run c.runs-run-items.ensures c.loop-run-test.true
    c.loop-run.invariant.first in
    λ _. omega (arith, here.some)

pub returns-then-b-after-clause-some : goal.returns-then-b-after-clause-some
returns-then-b-after-clause-some c =
    let runs = c.runs-run-items.result.now in
    let texts = c.args.p.now.texts in
    let here = passing runs texts c.loop-run.first c.loop-run.run-index no_run c.runs-run-items.ensures c.loop-run-test.true
    c.loop-run.invariant.first in
    λ _. omega (arith, here.some)

pub returns-clause-some : goal.returns-clause-some
returns-clause-some c = λ some. grind (arith, c.len-all.ensures.len, some, c.loop-run.invariant.left)
