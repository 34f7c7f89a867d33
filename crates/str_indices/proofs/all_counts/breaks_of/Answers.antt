use Rattle.str_indices.proofs.lemmas.{◌∙◌, sym, chars, as_many_breaks}
use Rattle.str_indices.proofs.all_counts.breaks_of.Goals as goal

pub returns-then-lf-lines : goal.returns-then-lf-lines
returns-then-lf-lines c =
    let t = chars c.args.text.now in
    c.requires.lf ∙ as_many_breaks t (sym c.requires.lf ∙ c.if-lf-lines.true ∙ c.requires.lines)
