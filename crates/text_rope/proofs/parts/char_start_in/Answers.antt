use Rattle.positions.proofs.lemmas.Callers.{greatest_in_part}
use Rattle.text_rope.proofs.lemmas.{in_text, inl, chars, joined}
use Rattle.text_rope.proofs.parts.char_start_in.Goals as goal

pub returns-clause-answer : goal.returns-clause-answer
returns-clause-answer c =
    let chunk = c.in-Some.chunk in
    let is = in_text c.in-Some.ensures.chunk in
    greatest_in_part (joined c.args.v.now.texts) is.front (chars chunk.text.now) is.back chunk.start is.parts is.place c.args.byte
    c.char_start.result is.after (inl is.inside) c.char_start.ensures
