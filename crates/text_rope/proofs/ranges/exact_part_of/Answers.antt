use Rattle.std.specs.Prelude.{IsTrue}
use Rattle.std.proofs.Common.{subst}
use Rattle.text_rope.proofs.lemmas.{exact_in_order}
use Rattle.text_rope.specs.Ranges.{is_ordered}
use Rattle.text_rope.proofs.ranges.exact_part_of.Goals as goal

pub returns-clause-ordered : goal.returns-clause-ordered
returns-clause-ordered c =
    let ordered = subst (λ range. IsTrue (is_ordered range)) c.in-Some.is c.requires.ordered in
    exact_in_order c.args.encoding c.args.rope.now c.in-Some.range c.in_ok-start.start c.in_ok-end.end ordered
    c.in_ok-start.ensures.answer c.in_ok-end.ensures.answer
