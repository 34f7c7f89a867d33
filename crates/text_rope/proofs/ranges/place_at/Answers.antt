use Rattle.std.proofs.Common.{ap, ◌∙◌}
use Rattle.positions.specs.Positions.{exact_byte_at}
use Rattle.positions.specs.declared.line_type.LineType.TheVariants.{Crlf}
use Rattle.text_rope.proofs.ranges.place_at.Goals as goal

pub returns-clause-answer : goal.returns-clause-answer
returns-clause-answer c =
    c.exact_byte_of.ensures.answer ∙ ap (λ cs. exact_byte_at Crlf c.args.encoding cs c.args.position) c.view.ensures.text
