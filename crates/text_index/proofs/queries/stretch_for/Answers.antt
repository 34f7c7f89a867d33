use Rattle.text_index.proofs.lemmas.{◌+◌, ◌-◌, ◌/◌, ◌<◌, inl, inr, refl, ap, ◌∙◌, arith, stretches_of, nothing_before, none_halved, halved, ends_at_mark, answers_here}
use Rattle.text_index.proofs.queries.stretch_for.Goals as goal

pub halves-init : goal.halves-init
halves-init c =
    let text = c.args.m.now.text in
    let whole = c.whole.ensures in
    let all = c.stretches-high.ensures in
    let zero = nothing_before text c.first.result.now c.first.ensures.mark.is c.first.ensures.start c.args.s in
    record {
      order = omega (arith, all);
      within = omega (arith, all);
      start = c.first.ensures.mark;
      end = record {
        is = whole.mark;
        before = omega (arith, whole.end, all);
        near = λ inside. absurd (omega (arith, inside, all));
        at_end = λ _. whole.end;
      };
      past = omega (arith, zero, c.requires);
      reached = inr whole.end;
      text = refl;
      reads = refl;
      looks_kept = omega arith;
      halved = none_halved _ _ _ (omega arith) (omega (arith, all)) (omega arith);
    }

pub halves-preserved-then-count-k : goal.halves-preserved-then-count-k
halves-preserved-then-count-k c =
    let halves = c.halves.invariant in
    let state = c.mark-mark.ensures.state in
    let looks = ap (λ m. m.looks) state in
    record {
      order = omega (arith, c.halves-test.true);
      within = halves.within;
      start = rw halves.text at c.mark-mark.ensures.mark;
      end = halves.end;
      past = omega (arith, c.count.ensures, c.if-count-k.true);
      reached = halves.reached;
      text = ap (λ m. m.text) state ∙ halves.text;
      reads = ap (λ m. m.reads) state ∙ halves.reads;
      looks_kept = omega (arith, looks, halves.looks_kept);
      halved = halved (c.halves.m.looks - c.args.m.now.looks) _ (c.halves.high - c.halves.low) _ _
          (omega (arith, looks, halves.looks_kept)) (omega (arith, c.halves-test.true)) (omega (arith, c.halves-test.true))
          halves.halved;
    }

pub halves-preserved : goal.halves-preserved
halves-preserved c =
    let text = c.args.m.now.text in
    let halves = c.halves.invariant in
    let state = c.mark-mark.ensures.state in
    let looks = ap (λ m. m.looks) state in
    let middle = c.halves.low + (c.halves.high - c.halves.low) / 2 in
    let inside : middle < stretches_of text = omega (arith, halves.within, c.halves-test.true) in
    record {
      order = omega (arith, c.halves-test.true);
      within = omega (arith, inside);
      start = halves.start;
      end = ends_at_mark text middle c.mark-mark.result.now inside (rw halves.text at c.mark-mark.ensures.mark);
      past = halves.past;
      reached = inl (omega (arith, c.count.ensures, c.if-count-k.false));
      text = ap (λ m. m.text) state ∙ halves.text;
      reads = ap (λ m. m.reads) state ∙ halves.reads;
      looks_kept = omega (arith, looks, halves.looks_kept);
      halved = halved (c.halves.m.looks - c.args.m.now.looks) _ (c.halves.high - c.halves.low) _ _
          (omega (arith, looks, halves.looks_kept)) (omega (arith, c.halves-test.true)) (omega (arith, c.halves-test.true))
          halves.halved;
    }

pub returns-clause-answers : goal.returns-clause-answers
returns-clause-answers c =
    let halves = c.halves.invariant in
    answers_here c.args.s c.args.m.now.text c.args.k c.halves.low c.halves.high c.halves.found halves.start halves.end
    (omega (arith, halves.order, c.halves-test.false)) halves.past halves.reached

pub returns-clause-looks : goal.returns-clause-looks
returns-clause-looks c = c.halves.invariant.halved.few
