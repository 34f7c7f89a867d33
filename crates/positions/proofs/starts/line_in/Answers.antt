use Rattle.positions.proofs.lemmas.{◌-◌, ◌∙◌, sym, ap, subst, arith, chars, to_byte_idx, IsBoundary, IsBoundary-to_byte_idx, lines_within, line_place}
use Rattle.positions.proofs.starts.line_in.Goals as goal

pub overflow_sub-line : goal.overflow_sub-line
overflow_sub-line g c =
    let part = c.part_of_line-part in
    lines_within (g.P.Parts.state c.args.parts.now).text c.args.lines c.args.encoding part.result part.ensures.part c.args.line
    part.ensures.round

pub returns-clause-offset : goal.returns-clause-offset
returns-clause-offset g c =
    let part = c.part_of_line-part in
    let own = chars part.result.text.now in
    let k = c.args.line - part.result.lines in
    c.to_byte_idx-offset.ensures.answer ∙ ap (λ s. to_byte_idx s own k) c.scheme-scheme.ensures
    ∙ sym ((c.kind.ensures (g.P.Parts.state c.args.parts.now).text c.args.encoding part.ensures.part).to k)

pub returns-clause-place : goal.returns-clause-place
returns-clause-place g c =
    let part = c.part_of_line-part in
    omega (
      arith,
      returns-clause-offset g c,
      line_place (g.P.Parts.state c.args.parts.now).text c.args.lines c.args.encoding part.result part.ensures.part c.args.line
          part.ensures.round,
    )

pub returns-clause-boundary : goal.returns-clause-boundary
returns-clause-boundary g c =
    let own = chars c.part_of_line-part.result.text.now in
    subst (IsBoundary own) (sym c.to_byte_idx-offset.ensures.answer)
    (IsBoundary-to_byte_idx c.scheme-scheme.result own (c.args.line - c.part_of_line-part.result.lines))
