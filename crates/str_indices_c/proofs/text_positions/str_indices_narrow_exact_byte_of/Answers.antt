use Rattle.std.proofs.Common.{◌∙◌, ap, ◌^◌, ◌-◌, chars, unwrap_or}
use Rattle.c_values.specs.Numbers.{line_type_at}
use Rattle.positions.specs.Positions.{exact_byte_at}
use Rattle.str_indices_c.proofs.text_positions.str_indices_narrow_exact_byte_of.Goals as goal

pub returns : goal.returns
returns c = c.byte_or_none.ensures ∙ ap (λ byte. unwrap_or byte (2 ^ 64 - 1)) (
    c.exact_byte_of-byte.ensures.answer
    ∙ ap (λ cs. exact_byte_at c.line_type_at.result c.encoding_at.result cs c.args.position) c.whole_of.ensures
    ∙ ap (λ l. exact_byte_at l c.encoding_at.result (chars c.args.text.now) c.args.position) c.line_type_at.ensures
    ∙ ap (λ e. exact_byte_at (line_type_at c.args.lines) e (chars c.args.text.now) c.args.position) c.encoding_at.ensures)
