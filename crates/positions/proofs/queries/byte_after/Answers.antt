use Rattle.positions.proofs.lemmas.{◌∙◌, ap, arith, boundary_weighed, units_of, byte_made, taken_after}
use Rattle.positions.proofs.queries.byte_after.Goals as goal

pub returns-clause-answer : goal.returns-clause-answer
returns-clause-answer g c =
    let cs = (g.P.Parts.state c.args.parts.now).text in
    let end = c.line_end-end.ensures in
    let short = rw end.cost.text at c.len-len.ensures.short in
    let place = c.byte_of_units.ensures.answer
    ∙ ap (λ t. boundary_weighed (units_of c.args.encoding) t c.saturating_add-units.result) end.cost.text in
    c.min.ensures ∙ byte_made c.args.lines c.args.encoding cs c.args.position c.line_end-end.result c.args.before_line
    c.saturating_add-units.result 18446744073709551615 c.byte_of_units.result end.answer c.requires
    c.saturating_add-units.ensures (omega (arith, short)) place

pub returns-clause-cost : goal.returns-clause-cost
returns-clause-cost g c = taken_after c.line_end-end.ensures.cost c.byte_of_units.ensures.cost
