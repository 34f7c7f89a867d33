use Rattle.positions.proofs.lemmas.{◌∙◌, ap, sym, subst, refl, arith, chars, byte_at, IsBoundary, part_within, place_told, boundary_within, IsBoundary-byte_at, add-zero, none_taken, taken_within, taken_after}
use Rattle.positions.proofs.queries.byte_on.Goals as goal

pub tells-requires : goal.tells-requires
tells-requires g c =
    λ k. ((refl, tt), part_within (g.P.Parts.state c.args.parts.now).text c.args.lines c.args.encoding c.args.start.now.part c.requires.part)

pub overflow_add-result : goal.overflow_add-result
overflow_add-result g c =
    let cs = (g.P.Parts.state c.args.parts.now).text in
    let l = c.args.lines in
    let e = c.args.encoding in
    let start = c.args.start.now in
    let rest = chars c.from_byte-rest.result.now in
    let is = place_told cs l e start.part c.requires.part start.offset rest c.from_byte-rest.ensures c.args.position c.requires.place
    c.place_on_line-offset.result (c.place_on_line-offset.ensures cs start.offset c.requires.part c.requires.offset c.from_byte-rest.ensures) (c.tells.ensures.0 c.if-tells.true) in
    omega (arith, is, boundary_within cs (byte_at l e cs c.args.position) (IsBoundary-byte_at l e cs c.args.position), c.len-len.ensures.short)

pub overflow_add-result-then-tells : goal.overflow_add-result-then-tells
overflow_add-result-then-tells g c =
    let cs = (g.P.Parts.state c.args.parts.now).text in
    let l = c.args.lines in
    let e = c.args.encoding in
    let start = c.args.start.now in
    let rest = chars c.from_byte-rest.result.now in
    let is = place_told cs l e start.part c.requires.part start.offset rest c.from_byte-rest.ensures c.args.position c.requires.place
    c.place_on_line-offset.result (c.place_on_line-offset.ensures cs start.offset c.requires.part c.requires.offset c.from_byte-rest.ensures) (c.tells.ensures.0 c.if-tells.true) in
    omega (arith, is, boundary_within cs (byte_at l e cs c.args.position) (IsBoundary-byte_at l e cs c.args.position), c.len-len.ensures.short)

pub returns-then-tells-clause-answer : goal.returns-then-tells-clause-answer
returns-then-tells-clause-answer g c =
    let cs = (g.P.Parts.state c.args.parts.now).text in
    let l = c.args.lines in
    let e = c.args.encoding in
    let start = c.args.start.now in
    let rest = chars c.from_byte-rest.result.now in
    place_told cs l e start.part c.requires.part start.offset rest c.from_byte-rest.ensures c.args.position c.requires.place
    c.place_on_line-offset.result (c.place_on_line-offset.ensures cs start.offset c.requires.part c.requires.offset c.from_byte-rest.ensures) (c.tells.ensures.0 c.if-tells.true)

pub returns-then-tells-clause-boundary : goal.returns-then-tells-clause-boundary
returns-then-tells-clause-boundary g c =
    let cs = (g.P.Parts.state c.args.parts.now).text in
    let l = c.args.lines in
    let e = c.args.encoding in
    subst (IsBoundary cs) (sym (returns-then-tells-clause-answer g c)) (IsBoundary-byte_at l e cs c.args.position)

pub returns-then-tells-clause-cost : goal.returns-then-tells-clause-cost
returns-then-tells-clause-cost g c =
    taken_within c.len-len.ensures.searched (omega arith) (omega arith) (none_taken (g.P.Parts.state c.args.parts.now))

pub units_up_to-before_line-requires : goal.units_up_to-before_line-requires
units_up_to-before_line-requires g c = λ k. (
  (refl, tt),
  (
    c.requires.part,
    (c.requires.units, boundary_within (chars c.args.start.now.part.text.now) c.args.start.now.offset c.requires.boundary),
  ),
)

pub returns-clause-boundary : goal.returns-clause-boundary
returns-clause-boundary g c =
    let cs = (g.P.Parts.state c.args.parts.now).text in
    let l = c.args.lines in
    let e = c.args.encoding in
    let is = c.byte_after.ensures.answer ∙ ap (λ t. byte_at l e t c.args.position) c.units_up_to-before_line.ensures.cost.text in
    subst (IsBoundary cs) (sym is) (IsBoundary-byte_at l e cs c.args.position)

pub returns-clause-cost : goal.returns-clause-cost
returns-clause-cost g c =
    let before = c.units_up_to-before_line.ensures.cost in
    rw (add-zero) at (taken_after before c.byte_after.ensures.cost)
