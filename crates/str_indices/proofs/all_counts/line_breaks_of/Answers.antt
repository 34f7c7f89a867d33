use Rattle.std.proofs.Common.{inl, inr}
use Rattle.str_indices.proofs.lemmas.{◌∙◌, lines_without_leads, lines_without_pairs}
use Rattle.str_indices.proofs.all_counts.line_breaks_of.Goals as goal

pub returns-then-has_narrow_breaks-clause-lines : goal.returns-then-has_narrow_breaks-clause-lines
returns-then-has_narrow_breaks-clause-lines c =
    let narrow = c.has_narrow_breaks.ensures.narrow c.if-has_narrow_breaks.true in
    c.returns_of-crlf.ensures ∙ elim narrow.1 [
      | inl leads ↦ lines_without_leads c.args.text.now c.utf8.text narrow.0 leads
      | inr pairs ↦ lines_without_pairs c.args.text.now c.utf8.text narrow.0 pairs
    ]
