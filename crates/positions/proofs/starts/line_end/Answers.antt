use Rattle.positions.proofs.lemmas.{◌∙◌, sym, subst, arith, IsBoundary, IsBoundary-line_end, line_end_past, none_taken, taken_within}
use Rattle.positions.proofs.starts.line_end.Goals as goal

pub returns-then-count-line-clause-answer : goal.returns-then-count-line-clause-answer
returns-then-count-line-clause-answer g c =
    c.len.ensures.len
    ∙ sym (line_end_past c.args.lines (g.P.Parts.state c.args.parts.now).text c.args.line (omega (arith, c.count.ensures, c.if-count-line.true)))

pub returns-then-count-line-clause-boundary : goal.returns-then-count-line-clause-boundary
returns-then-count-line-clause-boundary g c =
    let cs = (g.P.Parts.state c.args.parts.now).text in
    subst (IsBoundary cs) (sym (returns-then-count-line-clause-answer g c)) (IsBoundary-line_end c.args.lines cs c.args.line)

pub returns-then-count-line-clause-cost : goal.returns-then-count-line-clause-cost
returns-then-count-line-clause-cost g c =
    taken_within c.len.ensures.searched (omega arith) (omega arith)
    (none_taken (g.P.Parts.state c.args.parts.now))

pub returns-clause-boundary : goal.returns-clause-boundary
returns-clause-boundary g c =
    let cs = (g.P.Parts.state c.args.parts.now).text in
    let text = c.line_in-next.ensures.cost.text in
    let is = rw text at c.end_before.ensures in
    subst (IsBoundary cs) (sym is) (IsBoundary-line_end c.args.lines cs c.args.line)

pub returns-clause-answer : goal.returns-clause-answer
returns-clause-answer g c = rw c.line_in-next.ensures.cost.text at c.end_before.ensures
