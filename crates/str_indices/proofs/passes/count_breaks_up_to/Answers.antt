use Rattle.str_indices.proofs.lemmas.{arith, sum_below-earlier}
use Rattle.str_indices.proofs.passes.count_breaks_up_to.Goals as goal

pub returns-then-walked-bytes-clause-first : goal.returns-then-walked-bytes-clause-first
returns-then-walked-bytes-clause-first g c = λ d before.
    let few = rw c.len-len.ensures.len at c.walk-walked.ensures.at_most in
    sum_below-earlier _ c.args.breaks c.walk-walked.result.place d (omega (arith, few)) (omega arith)

pub returns-clause-first : goal.returns-clause-first
returns-clause-first g c = λ d before.
    let few = rw c.len-len.ensures.len at c.walk-walked.ensures.at_most in
    sum_below-earlier _ c.args.breaks c.walk-walked.result.place d (omega (arith, few)) (omega arith)
