use Rattle.text_summary.proofs.lemmas.Callers.{count_of-summary}
use Rattle.text_summary.specs.Summaries.{count_of}
use Rattle.positions.proofs.lemmas.Known.{bytes_are, units_are}
use Rattle.positions.proofs.lemmas.{◌∙◌, sym, ap}
use Rattle.positions.proofs.pieces.count_units.Goals as goal

pub returns-in-None : goal.returns-in-None
returns-in-None c = λ text is.
    ap (λ own. own.len) is ∙ bytes_are c.args.encoding text (sym c.unit_scheme.ensures ∙ c.in-None.is)

pub returns-in-Some : goal.returns-in-Some
returns-in-Some c = λ text is.
    c.count.ensures ∙ ap (λ own. count_of own c.in-Some.s) is ∙ count_of-summary c.in-Some.s text
    ∙ units_are c.args.encoding c.in-Some.s text (sym c.unit_scheme.ensures ∙ c.in-Some.is)
