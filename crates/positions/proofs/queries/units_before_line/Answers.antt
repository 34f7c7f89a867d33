use Rattle.positions.proofs.lemmas.{◌+◌, ◌∙◌, sym, ap, arith, zero-add, weighed, weighed_none, units_of, to_byte_idx, to_byte_idx-zero, scheme_of, none_taken, taken_within, taken_after}
use Rattle.positions.proofs.queries.units_before_line.Goals as goal

pub returns-then-line-eq0-clause-answer : goal.returns-then-line-eq0-clause-answer
returns-then-line-eq0-clause-answer g c =
    let cs = (g.P.Parts.state c.args.parts.now).text in
    let s = scheme_of c.args.lines in
    let w = units_of c.args.encoding in
    let begins = ap (to_byte_idx s cs) c.if-line-eq0.true ∙ to_byte_idx-zero s cs in
    sym (ap (weighed w cs) begins ∙ weighed_none w cs)

pub returns-then-line-eq0-clause-cost : goal.returns-then-line-eq0-clause-cost
returns-then-line-eq0-clause-cost g c =
    taken_within c.len-len.ensures.searched (omega arith) (omega arith) (none_taken (g.P.Parts.state c.args.parts.now))

pub returns-clause-answer : goal.returns-clause-answer
returns-clause-answer g c =
    let w = units_of c.args.encoding in
    let start = c.line_in-start.ensures in
    c.units_up_to.ensures.answer ∙ ap (λ t. weighed w t (c.line_in-start.result.part.start + c.line_in-start.result.offset)) start.cost.text
    ∙ ap (weighed w (g.P.Parts.state c.args.parts.now).text) start.place

pub returns-clause-cost : goal.returns-clause-cost
returns-clause-cost g c =
    let first = c.line_in-start.ensures.cost in
    rw (first.unit_searches, zero-add) at (taken_after first c.units_up_to.ensures.cost)
