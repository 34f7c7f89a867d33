use Rattle.str_indices.proofs.lemmas.Callers.{IsBoundary-to_byte_idx}
use Rattle.positions.proofs.lemmas.{◌∙◌, sym, subst, ap, arith, chars, to_byte_idx-le-size, line_end, scheme_of, refl, line_end_told, IsBoundary, IsBoundary-line_end, boundary_within, part_within, taken_within, taken_after}
use Rattle.positions.specs.declared.encodings.Encoding.TheVariants.{Utf8}
use Rattle.positions.proofs.starts.line.Goals as goal

pub tells-requires : goal.tells-requires
tells-requires g c =
    let start = c.line_in-start in
    rw start.ensures.cost.text
    (λ k. ((refl, tt), part_within (g.P.Parts.state c.args.parts.now).text c.args.lines Utf8 start.result.part start.ensures.part))

pub returns-then-tells-clause-end : goal.returns-then-tells-clause-end
returns-then-tells-clause-end g c =
    let cs = (g.P.Parts.state c.args.parts.now).text in
    let start = c.line_in-start in
    let own = c.content_end-offset in
    let is = own.ensures cs Utf8 start.result.offset start.ensures.part start.ensures.offset c.from_byte-rest.ensures in
    let told = rw start.ensures.cost.text at (c.tells.ensures.0 c.if-tells.true) in
    line_end_told cs c.args.lines Utf8 start.result.part start.ensures.part start.result.offset (chars c.from_byte-rest.result.now)
    c.from_byte-rest.ensures c.args.line own.result start.ensures.place is told

pub returns-then-tells-clause-cost : goal.returns-then-tells-clause-cost
returns-then-tells-clause-cost g c = taken_within c.len-len.ensures.searched (omega arith) (omega arith) c.line_in-start.ensures.cost

pub overflow_add-begins : goal.overflow_add-begins
overflow_add-begins g c =
    let cs = (g.P.Parts.state c.args.parts.now).text in
    omega (arith, c.line_in-start.ensures.place, to_byte_idx-le-size (scheme_of c.args.lines) cs c.args.line, c.len-len.ensures.short)

pub overflow_add-result : goal.overflow_add-result
overflow_add-result g c =
    let cs = (g.P.Parts.state c.args.parts.now).text in
    let start = c.line_in-start in
    let own = c.content_end-offset in
    let is = own.ensures cs Utf8 start.result.offset start.ensures.part start.ensures.offset c.from_byte-rest.ensures in
    let told = rw start.ensures.cost.text at (c.tells.ensures.0 c.if-tells.true) in
    let end = line_end_told cs c.args.lines Utf8 start.result.part start.ensures.part start.result.offset
    (chars c.from_byte-rest.result.now) c.from_byte-rest.ensures c.args.line own.result start.ensures.place is told in
    omega (arith, end, boundary_within cs (line_end c.args.lines cs c.args.line) (IsBoundary-line_end c.args.lines cs c.args.line), c.len-len.ensures.short)

pub returns-clause-end : goal.returns-clause-end
returns-clause-end g c = c.line_end.ensures.answer ∙ ap (λ t. line_end c.args.lines t c.args.line) c.line_in-start.ensures.cost.text

pub returns-clause-cost : goal.returns-clause-cost
returns-clause-cost g c = taken_after c.line_in-start.ensures.cost c.line_end.ensures.cost

pub returns-then-tells-clause-boundaries : goal.returns-then-tells-clause-boundaries
returns-then-tells-clause-boundaries g c =
    let cs = (g.P.Parts.state c.args.parts.now).text in
    let end = returns-then-tells-clause-end g c in (
      subst (IsBoundary cs) (sym c.line_in-start.ensures.place) (IsBoundary-to_byte_idx (scheme_of c.args.lines) cs c.args.line),
      subst (IsBoundary cs) (sym end) (IsBoundary-line_end c.args.lines cs c.args.line),
    )

pub returns-clause-boundaries : goal.returns-clause-boundaries
returns-clause-boundaries g c =
    let cs = (g.P.Parts.state c.args.parts.now).text in (
      subst (IsBoundary cs) (sym c.line_in-start.ensures.place) (IsBoundary-to_byte_idx (scheme_of c.args.lines) cs c.args.line),
      subst (IsBoundary cs) (sym (returns-clause-end g c)) (IsBoundary-line_end c.args.lines cs c.args.line),
    )
