use Rattle.piece_text.proofs.lemmas.{arith, passing, passed, no_run, run_bytes}
use Rattle.piece_text.proofs.view.runs.span_round.Goals as goal

pub overflow_add-end : goal.overflow_add-end
overflow_add-end c =
    let runs = c.args.runs.now in
    let texts = c.args.pieces.now in
    let here = passing runs texts c.loop-run.first c.loop-run.run-index no_run c.requires.runs c.loop-run-test.true
    c.loop-run.invariant.first in
    omega (arith, here.within)

-- the run has the bytes from where it starts on
pub returns-then-byte_idx-start : goal.returns-then-byte_idx-start
returns-then-byte_idx-start c =
    let runs = c.args.runs.now in
    let texts = c.args.pieces.now in
    let here = passing runs texts c.loop-run.first c.loop-run.run-index no_run c.requires.runs c.loop-run-test.true
    c.loop-run.invariant.first in
    let more = run_bytes texts c.loop-run.first _ here.at in
    record {
      order = omega arith;
      within = here.within;
      start = c.loop-run.invariant.start;
      past = c.loop-run.invariant.past;
      end_past = λ _. omega (arith, more, c.loop-run.invariant.start, c.loop-run.invariant.past, c.if-byte_idx-start.true);
    }

pub loop-run-preserved : goal.loop-run-preserved
loop-run-preserved c =
    let runs = c.args.runs.now in
    let texts = c.args.pieces.now in
    let here = passing runs texts c.loop-run.first c.loop-run.run-index no_run c.requires.runs c.loop-run-test.true
    c.loop-run.invariant.first in
    let more = run_bytes texts c.loop-run.first _ here.at in
    record {
      first = here.next;
      start = omega (arith, more, c.loop-run.invariant.start);
      past = omega (arith, c.loop-run.invariant.past, c.if-byte_idx-start.false);
    }

pub returns : goal.returns
returns c =
    let le = passed c.args.runs.now c.args.pieces.now c.loop-run.first c.loop-run.run-index c.requires.runs
    c.loop-run.invariant.first in
    record {
      order = omega (arith, le);
      within = omega (arith);
      start = c.loop-run.invariant.start;
      past = c.loop-run.invariant.past;
      end_past = λ before. absurd (omega (arith, before));
    }
