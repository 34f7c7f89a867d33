use Rattle.text_summary.proofs.lemmas.{◌∙◌, ap, arith, sym, chars}
use Rattle.text_summary.proofs.summaries.Summary.to_byte_idx.Goals as goal

pub returns-in-Bytes : goal.returns-in-Bytes
returns-in-Bytes c =
    let way = c.in-Bytes.ensures (chars c.args.text.now) c.requires in
    omega (arith, c.min.ensures, way.to c.args.idx, ap (λ m. m.len) c.requires)

pub returns-in-By : goal.returns-in-By
returns-in-By c =
    let way = c.in-By.ensures (chars c.args.text.now) c.requires in
    c.to_byte_idx.ensures.answer ∙ sym (way.to c.args.idx)
