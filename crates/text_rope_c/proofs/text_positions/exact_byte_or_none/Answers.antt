use Rattle.std.proofs.Common.{◌-◌, ◌^◌, ◌∙◌, ap}
use Rattle.std.specs.Prelude.{unwrap_or}
use Rattle.c_values.specs.Numbers.{line_type_at}
use Rattle.positions.specs.Positions.{exact_byte_at}
use Rattle.text_rope_c.proofs.text_positions.exact_byte_or_none.Goals as goal

pub returns : goal.returns
returns c = c.byte_or_none.ensures ∙ ap (λ byte. unwrap_or byte (2 ^ 64 - 1)) (
    c.exact_byte_of-byte.ensures.answer
    ∙ ap (λ cs. exact_byte_at c.line_type_at.result c.encoding_at.result cs c.args.position) c.view.ensures.text
    ∙ ap (λ l. exact_byte_at l c.encoding_at.result c.args.text.now c.args.position) c.line_type_at.ensures
    ∙ ap (λ e. exact_byte_at (line_type_at c.args.lines) e c.args.text.now c.args.position) c.encoding_at.ensures)
