use Rattle.text_summary.proofs.lemmas.Callers.{count_of-summary}
use Rattle.text_summary.specs.Summaries.{count_of}
use Rattle.positions.proofs.lemmas.{◌∙◌, ap, scheme_of}
use Rattle.positions.proofs.pieces.part_counts.Goals as goal

pub returns : goal.returns
returns c = λ text is.
    let s = scheme_of c.args.lines in
    record {
      chars = ap (λ own. own.chars) is;
      units = c.count_units.ensures text is;
      lf = ap (λ own. own.lf) is;
      breaks = c.count.ensures ∙ ap (count_of c.args.summary.now) c.scheme.ensures ∙ ap (λ own. count_of own s) is ∙ count_of-summary s text;
    }
