use Rattle.positions.proofs.lemmas.{◌≡◌, ◌∙◌, ap, arith, byte_at, byte_at-le, none_taken, taken_within, taken_after, taken_both}
use Rattle.positions.proofs.queries.byte_range.Goals as goal

pub returns-then-not-is_at_or_before-clause-cost : goal.returns-then-not-is_at_or_before-clause-cost
returns-then-not-is_at_or_before-clause-cost g c =
    taken_within c.len-len.ensures.searched (omega arith) (omega arith) (none_taken (g.P.Parts.state c.args.parts.now))

pub returns-then-not-is_at_or_before-clause-on_line : goal.returns-then-not-is_at_or_before-clause-on_line
returns-then-not-is_at_or_before-clause-on_line g c = λ _.
    taken_within c.len-len.ensures.searched (omega arith) (omega arith) (none_taken (g.P.Parts.state c.args.parts.now))

pub returns-clause-ordered : goal.returns-clause-ordered
returns-clause-ordered g c =
    let cs = (g.P.Parts.state c.args.parts.now).text in
    let l = c.args.lines in
    let e = c.args.encoding in
    let range = c.args.range in
    let ordered = c.is_at_or_before.ensures.order.0 c.if-not-is_at_or_before.false in
    let lines = c.later_line-last.ensures.cost.text ∙ c.line_in-first.ensures.cost.text in
    let from : c.byte_on-from.result ≡ byte_at l e cs range.start =
    c.byte_on-from.ensures.answer ∙ ap (λ t. byte_at l e t range.start) lines in
    let to : c.byte_on-to.result ≡ byte_at l e cs range.end =
    c.byte_on-to.ensures.answer ∙ ap (λ t. byte_at l e t range.end) (c.byte_on-from.ensures.cost.text ∙ lines) in
    omega (arith, byte_at-le l e cs range.start range.end ordered, from, to)

pub returns-clause-cost : goal.returns-clause-cost
returns-clause-cost g c =
    let first = c.line_in-first.ensures.cost in
    let last = c.later_line-last.ensures.cost in
    let from = c.byte_on-from.ensures.cost in
    taken_both c.len-len.ensures.searched (taken_after (taken_after first last) from) c.byte_on-to.ensures.cost
    (omega (arith, first.unit_searches, last.unit_searches, from.unit_searches)) (omega arith)

pub returns-clause-on_line : goal.returns-clause-on_line
returns-clause-on_line g c = λ same.
    let first = c.line_in-first.ensures.cost in
    let last = c.later_line-last.ensures.same same in
    let from = c.byte_on-from.ensures.cost in
    taken_both c.len-len.ensures.searched (taken_after (taken_after first last) from) c.byte_on-to.ensures.cost
    (omega (arith, first.unit_searches, last.unit_searches, from.unit_searches)) (omega arith)
