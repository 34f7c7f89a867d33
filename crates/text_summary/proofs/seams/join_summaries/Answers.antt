use Rattle.text_summary.proofs.lemmas.{◌++◌, ◌∙◌, ap, arith, size-append, summary_is}
use Rattle.std.proofs.Common.{rules}
use Rattle.text_summary.proofs.seams.join_summaries.Goals as goal

pub returns : goal.returns
returns c a b front_is after_is =
    let ends = ap (λ m. m.ends_cr) front_is in
    let starts = ap (λ m. m.starts_lf) after_is in
    summary_is c.of_each.result (a ++ b)
    (omega (arith, c.of_each.ensures.len, ap (λ m. m.len) front_is, ap (λ m. m.len) after_is, size-append a b))
    (λ s. let h = c.of_each.ensures.counts s in search (rules, h))
    (c.of_each.ensures.starts
    ∙ c.joined_starts_lf.ensures a b (ap (λ m. m.len) front_is) (λ some. ap (λ m. m.starts_lf) front_is) starts)
    (c.of_each.ensures.ends
    ∙ c.joined_ends_cr.ensures a b ends (ap (λ m. m.len) after_is) (λ some. ap (λ m. m.ends_cr) after_is))
