use Rattle.std.proofs.Common.{◌∙◌, ap, ◌^◌, ◌-◌, unwrap_or}
use Rattle.c_values.specs.Numbers.{line_type_at}
use Rattle.positions.specs.Positions.{exact_byte_at}
use Rattle.text_index_c.specs.Handles.{text_of}
use Rattle.text_index_c.proofs.index_positions.str_index_exact_byte_of.Goals as goal

pub returns : goal.returns
returns c = c.byte_or_none.ensures ∙ ap (λ byte. unwrap_or byte (2 ^ 64 - 1)) (
    c.exact_byte_of-byte.ensures.answer
    ∙ ap (λ m. exact_byte_at c.line_type_at.result c.encoding_at.result m.text c.args.position) c.view_of.ensures
    ∙ ap (λ l. exact_byte_at l c.encoding_at.result (text_of c.args.handle.now) c.args.position) c.line_type_at.ensures
    ∙ ap (λ e. exact_byte_at (line_type_at c.args.lines) e (text_of c.args.handle.now) c.args.position) c.encoding_at.ensures)
