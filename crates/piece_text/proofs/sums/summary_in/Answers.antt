use Rattle.piece_text.proofs.lemmas.{◌≡◌, ◌<◌, ap, sym, arith, ◌∙◌, take, take_all, length, joined, piece_at, joined-take, summary_of, piece_summed}
use Rattle.piece_text.proofs.sums.summary_in.Goals as goal

pub join_summaries-whole-requires : goal.join_summaries-whole-requires
join_summaries-whole-requires c =
    let texts = c.args.p.now.texts in
    let kept = ap (λ p. p.texts) c.loop-i.invariant.state ∙ c.sum_of_runs-sum.ensures.texts in
    let own = rw kept at c.summary.ensures.summary in
    piece_summed texts c.loop-i.i c.loop-i.whole c.summary.result (omega (arith, c.loop-i-test.true, c.len-all.ensures.len))
    c.loop-i.invariant.whole own c.len-all.ensures.short

pub loop-i-preserved : goal.loop-i-preserved
loop-i-preserved c =
    let texts = c.args.p.now.texts in
    let i = c.loop-i.i in
    let inside : i < length texts = omega (arith, c.loop-i-test.true, c.len-all.ensures.len) in
    let kept = ap (λ p. p.texts) c.loop-i.invariant.state ∙ c.sum_of_runs-sum.ensures.texts in
    let own = rw kept at c.summary.ensures.summary in
    record {
      whole = c.join_summaries-whole.ensures (joined (take i texts)) (piece_at texts i) c.loop-i.invariant.whole own
          ∙ ap summary_of (sym (joined-take texts i inside));
      state = grind (arith, c.summary.ensures.state, c.loop-i.invariant.state);
    }

pub returns-clause-answer : goal.returns-clause-answer
returns-clause-answer c =
    let texts = c.args.p.now.texts in
    let all : take c.loop-i.i texts ≡ texts = take_all c.loop-i.i texts (omega (arith, c.loop-i-test.false, c.len-all.ensures.len)) in
    c.loop-i.invariant.whole ∙ ap (λ t. summary_of (joined t)) all
