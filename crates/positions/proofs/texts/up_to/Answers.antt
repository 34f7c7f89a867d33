use Rattle.positions.proofs.lemmas.{◌≡◌, ◌-◌, ◌∙◌, ap, arith, take, chars, chars-take, IsCharBoundary-from_boundary}
use Rattle.positions.proofs.texts.up_to.Goals as goal

pub range-requires-clause-end_boundary : goal.range-requires-clause-end_boundary
range-requires-clause-end_boundary c = IsCharBoundary-from_boundary c.args.text.now c.utf8.text c.args.at c.requires.boundary

pub returns : goal.returns
returns c =
    let text = c.args.text.now in
    let at = c.args.at in
    let up_to : at - 0 ≡ at = omega arith in
    ap chars (c.range.ensures.value ∙ ap (λ n. take n text) up_to)
    ∙ chars-take text c.utf8.text at (IsCharBoundary-from_boundary text c.utf8.text at c.requires.boundary)
