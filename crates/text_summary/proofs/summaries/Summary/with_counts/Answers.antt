use Rattle.text_summary.proofs.lemmas.{arith, ◌∙◌, sym, chars, size-chars, summary_is}
use Rattle.text_summary.proofs.summaries.Summary.with_counts.Goals as goal

pub returns : goal.returns
returns c = summary_is c.of_each.result (chars c.args.text.now)
    (c.of_each.ensures.len ∙ sym (size-chars c.args.text.now c.utf8.text))
    (λ s. omega (arith, c.of_each.ensures.counts s, c.requires s)) (c.of_each.ensures.starts ∙ c.starts_lf.ensures)
    (c.of_each.ensures.ends ∙ c.ends_cr.ensures)
