use Rattle.piece_text.proofs.lemmas.{◌+◌, refl, ap, sym, arith, rules, ◌∙◌, joined, passing, passed, no_run, PiecesState, add_assoc, summary_of, run_before, run_joined, run_summed}
use Rattle.piece_text.proofs.sums.sum_of_runs.Goals as goal

-- nothing is before the first run
pub loop-run-init : goal.loop-run-init
loop-run-init c = record { pieces = refl; whole = c.none-whole.ensures; state = search rules; looks = omega arith }

-- the run has its place there
pub whole-requires : goal.whole-requires
whole-requires c =
    let texts = c.args.p.now.texts in
    let here = passing c.runs-run-items.result.now texts c.loop-run.pieces c.loop-run.run-index no_run c.runs-run-items.ensures
    c.loop-run-test.true c.loop-run.invariant.pieces in
    (c.loop-run.pieces, rw (ap (λ p. p.texts) c.loop-run.invariant.state) here.at)

pub join_summaries-whole-requires : goal.join_summaries-whole-requires
join_summaries-whole-requires c =
    let texts = c.args.p.now.texts in
    let here = passing c.runs-run-items.result.now texts c.loop-run.pieces c.loop-run.run-index no_run c.runs-run-items.ensures
    c.loop-run-test.true c.loop-run.invariant.pieces in
    run_summed texts c.loop-run.pieces _ c.loop-run.whole c.whole.result here.at c.loop-run.invariant.whole c.whole.ensures.whole
    c.len-all.ensures.short

pub overflow_add-pieces : goal.overflow_add-pieces
overflow_add-pieces c =
    let texts = c.args.p.now.texts in
    let here = passing c.runs-run-items.result.now texts c.loop-run.pieces c.loop-run.run-index no_run c.runs-run-items.ensures
    c.loop-run-test.true c.loop-run.invariant.pieces in
    omega (arith, here.within, c.len-all.ensures.len)

pub loop-run-preserved : goal.loop-run-preserved
loop-run-preserved c =
    let texts = c.args.p.now.texts in
    let here = passing c.runs-run-items.result.now texts c.loop-run.pieces c.loop-run.run-index no_run c.runs-run-items.ensures
    c.loop-run-test.true c.loop-run.invariant.pieces in
    let front = c.loop-run.invariant.whole ∙ ap (λ t. summary_of (joined t)) (run_before texts c.loop-run.pieces _ here.at) in
    record {
      pieces = here.next;
      whole = c.join_summaries-whole.ensures (joined here.at.before) (joined here.at.own) front (c.whole.ensures.whole ∙ here.at.is.whole)
          ∙ ap summary_of (sym (run_joined texts c.loop-run.pieces _ here.at));
      state = rw (← add_assoc) (c.whole.ensures.state ∙ ap {A = PiecesState} (λ p. record p { looks = p.looks + 1 }) c.loop-run.invariant.state);
      looks = omega (arith, here.some, c.loop-run.invariant.looks);
    }

pub returns-clause-within : goal.returns-clause-within
returns-clause-within c =
    passed c.runs-run-items.result.now c.args.p.now.texts c.loop-run.pieces c.loop-run.run-index c.runs-run-items.ensures
    c.loop-run.invariant.pieces
