use Rattle.positions.proofs.lemmas.{◌∙◌, ap, sym, same_behind, weighed_same, subst, refl, arith, chars, byte_at, exact_byte_at, IsBoundary, boundary_within, IsBoundary-byte_at, part_within, place_told, exact_place, no_place, taken_within, taken_both}
use Rattle.positions.proofs.queries.exact_byte_of.Goals as goal

pub returns-then-not-has_line-clause-cost : goal.returns-then-not-has_line-clause-cost
returns-then-not-has_line-clause-cost g c =
    taken_within c.len-len.ensures.searched (omega arith) (omega arith) c.line_in-start.ensures.cost

pub tells-requires : goal.tells-requires
tells-requires g c =
    let start = c.line_in-start in
    rw start.ensures.cost.text
    (λ k. ((refl, tt), part_within (g.P.Parts.state c.args.parts.now).text c.args.lines c.args.encoding start.result.part start.ensures.part))

pub returns-then-units_before-position-clause-answer : goal.returns-then-units_before-position-clause-answer
returns-then-units_before-position-clause-answer g c =
    let cs = (g.P.Parts.state c.args.parts.now).text in
    let l = c.args.lines in
    let e = c.args.encoding in
    let start = c.line_in-start in
    let rest = chars c.from_byte-rest.result.now in
    let own = c.place_on_line-offset in
    let own_is = own.ensures cs start.result.offset start.ensures.part start.ensures.offset c.from_byte-rest.ensures in
    let same = same_behind e c.encoding.result (chars start.result.part.text.now) (c.encoding.ensures cs l start.ensures.part) rest
    start.result.offset c.from_byte-rest.ensures in
    let counted = c.units_before.ensures ∙ sym (weighed_same e c.encoding.result rest same own.result) in
    let told = rw start.ensures.cost.text at (c.tells.ensures.0 c.if-tells.true) in
    no_place cs l e start.result.part start.ensures.part start.result.offset rest c.from_byte-rest.ensures c.args.position start.ensures.place own.result own_is told (λ same. c.if-units_before-position.true (counted ∙ same))

pub returns-then-units_before-position-clause-cost : goal.returns-then-units_before-position-clause-cost
returns-then-units_before-position-clause-cost g c = taken_within c.len-len.ensures.searched (omega arith) (omega arith) c.line_in-start.ensures.cost

pub overflow_add-result : goal.overflow_add-result
overflow_add-result g c =
    let cs = (g.P.Parts.state c.args.parts.now).text in
    let l = c.args.lines in
    let e = c.args.encoding in
    let start = c.line_in-start in
    let rest = chars c.from_byte-rest.result.now in
    let own = c.place_on_line-offset in
    let own_is = own.ensures cs start.result.offset start.ensures.part start.ensures.offset c.from_byte-rest.ensures in
    let told = rw start.ensures.cost.text at (c.tells.ensures.0 c.if-tells.true) in
    let is = place_told cs l e start.result.part start.ensures.part start.result.offset rest c.from_byte-rest.ensures c.args.position start.ensures.place own.result own_is told in
    omega (arith, is, boundary_within cs (byte_at l e cs c.args.position) (IsBoundary-byte_at l e cs c.args.position), c.len-len.ensures.short)

pub overflow_add-result-then-tells : goal.overflow_add-result-then-tells
overflow_add-result-then-tells g c =
    let cs = (g.P.Parts.state c.args.parts.now).text in
    let l = c.args.lines in
    let e = c.args.encoding in
    let start = c.line_in-start in
    let rest = chars c.from_byte-rest.result.now in
    let own = c.place_on_line-offset in
    let own_is = own.ensures cs start.result.offset start.ensures.part start.ensures.offset c.from_byte-rest.ensures in
    let told = rw start.ensures.cost.text at (c.tells.ensures.0 c.if-tells.true) in
    let is = place_told cs l e start.result.part start.ensures.part start.result.offset rest c.from_byte-rest.ensures c.args.position start.ensures.place own.result own_is told in
    omega (arith, is, boundary_within cs (byte_at l e cs c.args.position) (IsBoundary-byte_at l e cs c.args.position), c.len-len.ensures.short)

pub returns-then-tells-clause-answer : goal.returns-then-tells-clause-answer
returns-then-tells-clause-answer g c =
    let cs = (g.P.Parts.state c.args.parts.now).text in
    let l = c.args.lines in
    let e = c.args.encoding in
    let start = c.line_in-start in
    let rest = chars c.from_byte-rest.result.now in
    let own = c.place_on_line-offset in
    let own_is = own.ensures cs start.result.offset start.ensures.part start.ensures.offset c.from_byte-rest.ensures in
    let same = same_behind e c.encoding.result (chars start.result.part.text.now) (c.encoding.ensures cs l start.ensures.part) rest
    start.result.offset c.from_byte-rest.ensures in
    let counted = c.units_before.ensures ∙ sym (weighed_same e c.encoding.result rest same own.result) in
    let told = rw start.ensures.cost.text at (c.tells.ensures.0 c.if-tells.true) in
    exact_place cs l e start.result.part start.ensures.part start.result.offset rest c.from_byte-rest.ensures c.args.position start.ensures.place own.result own_is told (rw start.ensures.cost.text at (c.has_line.ensures.0 c.if-not-has_line.false)) (sym counted ∙ c.if-units_before-position.false)

pub returns-then-tells-clause-boundary : goal.returns-then-tells-clause-boundary
returns-then-tells-clause-boundary g c =
    let cs = (g.P.Parts.state c.args.parts.now).text in
    let l = c.args.lines in
    let e = c.args.encoding in
    let start = c.line_in-start in
    let rest = chars c.from_byte-rest.result.now in
    let own = c.place_on_line-offset in
    let own_is = own.ensures cs start.result.offset start.ensures.part start.ensures.offset c.from_byte-rest.ensures in
    let told = rw start.ensures.cost.text at (c.tells.ensures.0 c.if-tells.true) in
    subst (IsBoundary cs) (sym (place_told cs l e start.result.part start.ensures.part start.result.offset rest c.from_byte-rest.ensures c.args.position start.ensures.place own.result own_is told)) (IsBoundary-byte_at l e cs c.args.position)

pub returns-then-tells-clause-cost : goal.returns-then-tells-clause-cost
returns-then-tells-clause-cost g c = taken_within c.len-len.ensures.searched (omega arith) (omega arith) c.line_in-start.ensures.cost

pub returns-clause-answer : goal.returns-clause-answer
returns-clause-answer g c = c.exact_byte_after.ensures.answer
    ∙ ap (λ t. exact_byte_at c.args.lines c.args.encoding t c.args.position) c.line_in-start.ensures.cost.text

pub returns-clause-boundary : goal.returns-clause-boundary
returns-clause-boundary g c = rw c.line_in-start.ensures.cost.text at c.exact_byte_after.ensures.boundary

pub returns-clause-cost : goal.returns-clause-cost
returns-clause-cost g c =
    let first = c.line_in-start.ensures.cost in
    taken_both c.len-len.ensures.searched first c.exact_byte_after.ensures.cost (omega (arith, first.unit_searches)) (omega arith)
