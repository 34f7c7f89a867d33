use Rattle.std.proofs.Common.{◌∙◌, ap, chars}
use Rattle.positions.specs.Positions.{byte_at, position_at}
use Rattle.positions.specs.declared.line_type.LineType.TheVariants.{Crlf}
use Rattle.positions.specs.declared.encodings.Encoding.TheVariants.{Utf16}
use Rattle.text_tests.proofs.text_positions.back_from_byte.Goals as goal

pub returns : goal.returns
returns c =
    let same = c.byte_of-byte.ensures.cost.text ∙ c.of.ensures in
    ap (λ p. p.line) c.position_of.ensures.answer
    ∙ ap (λ cs. (position_at Crlf Utf16 cs c.byte_of-byte.result).line) same
    ∙ ap (λ byte. (position_at Crlf Utf16 (chars c.args.text.now) byte).line)
    (c.byte_of-byte.ensures.answer ∙ ap (λ cs. byte_at Crlf Utf16 cs c.args.position) c.of.ensures)
    ∙ c.position_round_trip.ensures.line
