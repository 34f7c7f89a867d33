use Rattle.text_summary.proofs.lemmas.{◌++◌, ◌∙◌, ap, arith, size-append, summary_is}
use Rattle.text_summary.proofs.changes.apply_update.Goals as goal

pub returns : goal.returns
returns c a m b t whole_is is starts ends =
    summary_is c.of_each.result (a ++ (t ++ b))
    (omega (
      arith,
      c.of_each.ensures.len,
      ap (λ n. n.len) whole_is,
      ap (λ n. n.len) is.removed,
      ap (λ n. n.len) is.inserted,
      size-append a (m ++ b),
      size-append m b,
      size-append a (t ++ b),
      size-append t b,
    ))
    (λ s. let h = c.of_each.ensures.counts s in grind (arith, h))
    (c.of_each.ensures.starts ∙ starts)
    (c.of_each.ensures.ends ∙ ends)
