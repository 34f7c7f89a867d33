use Rattle.str_indices.proofs.lemmas.{arith, sum_below-earlier}
use Rattle.str_indices.proofs.passes.find_first.Goals as goal

pub returns-then-last-len-clause-first : goal.returns-then-last-len-clause-first
returns-then-last-len-clause-first g c = λ d before.
    let few = rw (c.carry_at-carry.ensures.reads.text_kept, c.count_breaks_up_to-byte.ensures.reads.text_kept) at
    c.find_from-last.ensures.at_most in
    sum_below-earlier _ c.args.idx c.find_from-last.result d (omega (arith, few)) (omega arith)

pub returns-else-last-len-clause-first : goal.returns-else-last-len-clause-first
returns-else-last-len-clause-first g c = λ d before.
    let few = rw (c.carry_at-carry.ensures.reads.text_kept, c.count_breaks_up_to-byte.ensures.reads.text_kept) at
    c.find_from-last.ensures.at_most in
    sum_below-earlier _ c.args.idx c.find_from-last.result d (omega (arith, few)) (omega arith)
