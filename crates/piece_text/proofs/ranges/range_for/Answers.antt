use Rattle.piece_text.proofs.lemmas.{◌+◌, refl, ap, arith, rules, ◌∙◌, passing, passed, no_run, PiecesState, count-nil, add_assoc}
use Rattle.piece_text.proofs.ranges.range_for.Goals as goal

-- nothing is before the first run
pub loop-run-init : goal.loop-run-init
loop-run-init c =
    let front = c.none-front.ensures c.args.s in
    record { first = refl; front = front; state = search rules; looks = omega arith; below = omega (arith, front.total, c.requires, count-nil c.args.s); left = λ some. absurd (omega (arith, some)) }

pub overflow_add-end : goal.overflow_add-end
overflow_add-end c =
    let runs = c.runs-run-items.result.now in
    let texts = c.args.p.now.texts in
    let here = passing runs texts c.loop-run.first c.loop-run.run-index no_run c.runs-run-items.ensures c.loop-run-test.true
    c.loop-run.invariant.first in
    omega (arith, here.within, c.len-all.ensures.len)

-- the run has its place there
pub pass-after-requires-clause-run : goal.pass-after-requires-clause-run
pass-after-requires-clause-run c =
    let runs = c.runs-run-items.result.now in
    let texts = c.args.p.now.texts in
    let here = passing runs texts c.loop-run.first c.loop-run.run-index no_run c.runs-run-items.ensures c.loop-run-test.true
    c.loop-run.invariant.first in
    rw (ap (λ p. p.texts) c.loop-run.invariant.state) here.at

pub loop-run-preserved : goal.loop-run-preserved
loop-run-preserved c =
    let runs = c.runs-run-items.result.now in
    let texts = c.args.p.now.texts in
    let here = passing runs texts c.loop-run.first c.loop-run.run-index no_run c.runs-run-items.ensures c.loop-run-test.true
    c.loop-run.invariant.first in
    let texts_is = ap (λ p. p.texts) c.loop-run.invariant.state in
    record {
      first = here.next;
      front = rw texts_is at c.pass-after.ensures.after;
      state = rw (← add_assoc) (c.pass-after.ensures.state ∙ ap {A = PiecesState} (λ p. record p { looks = p.looks + 1 }) c.loop-run.invariant.state);
      looks = omega (arith, here.some, c.loop-run.invariant.looks);
      below = omega (arith, c.if-k-after.false);
      left = λ _. omega (arith, here.within, c.len-all.ensures.len, c.if-all-end-lt2.false);
    }

pub returns-clause-range : goal.returns-clause-range
returns-clause-range c =
    let runs = c.runs-run-items.result.now in
    let texts = c.args.p.now.texts in
    let le = passed runs texts c.loop-run.first c.loop-run.run-index c.runs-run-items.ensures c.loop-run.invariant.first in
    record {
      order = omega (arith, le, c.len-all.ensures.len);
      within = omega (arith, c.len-all.ensures.len);
      front = c.loop-run.invariant.front;
    }

pub returns-clause-looks : goal.returns-clause-looks
returns-clause-looks c =
    let runs = c.runs-run-items.result.now in
    let texts = c.args.p.now.texts in
    let le = passed runs texts c.loop-run.first c.loop-run.run-index c.runs-run-items.ensures c.loop-run.invariant.first in
    omega (arith, le, c.len-all.ensures.len, ap (λ p. p.looks) c.loop-run.invariant.state, c.loop-run.invariant.looks)

pub returns-then-all-end-lt2-clause-range : goal.returns-then-all-end-lt2-clause-range
returns-then-all-end-lt2-clause-range c =
    let runs = c.runs-run-items.result.now in
    let texts = c.args.p.now.texts in
    let le = passed runs texts c.loop-run.first c.loop-run.run-index c.runs-run-items.ensures c.loop-run.invariant.first in
    record {
      order = omega (arith, le, c.len-all.ensures.len);
      within = omega (arith, c.len-all.ensures.len);
      front = c.loop-run.invariant.front;
    }

pub returns-then-all-end-lt2-clause-looks : goal.returns-then-all-end-lt2-clause-looks
returns-then-all-end-lt2-clause-looks c =
    let runs = c.runs-run-items.result.now in
    let texts = c.args.p.now.texts in
    let le = passed runs texts c.loop-run.first c.loop-run.run-index c.runs-run-items.ensures c.loop-run.invariant.first in
    omega (arith, le, c.len-all.ensures.len, ap (λ p. p.looks) c.loop-run.invariant.state, c.loop-run.invariant.looks)

pub overflow_sub-all : goal.overflow_sub-all
overflow_sub-all c =
    let runs = c.runs-run-items.result.now in
    let texts = c.args.p.now.texts in
    let here = passing runs texts c.loop-run.first c.loop-run.run-index no_run c.runs-run-items.ensures c.loop-run-test.true
    c.loop-run.invariant.first in
    omega (arith, here.within, c.len-all.ensures.len)

-- the run has pieces
pub returns-then-all-end-lt2-clause-some : goal.returns-then-all-end-lt2-clause-some
returns-then-all-end-lt2-clause-some c =
    let runs = c.runs-run-items.result.now in
    let texts = c.args.p.now.texts in
    let here = passing runs texts c.loop-run.first c.loop-run.run-index no_run c.runs-run-items.ensures c.loop-run-test.true
    c.loop-run.invariant.first in
    λ _. omega (arith, here.within, here.some, c.len-all.ensures.len)

pub returns-clause-some : goal.returns-clause-some
returns-clause-some c = λ some. grind (arith, c.len-all.ensures.len, some, c.loop-run.invariant.left)
