use Rattle.text_index.proofs.lemmas.{◌∙◌, sym, units_by_bytes, units_by_scheme}
use Rattle.text_index.proofs.mark.Mark.units.Goals as goal

pub returns-in-None : goal.returns-in-None
returns-in-None c = λ text is.
    units_by_bytes text c.args.self.now is c.args.encoding (sym c.unit_scheme.ensures ∙ c.in-None.is)

pub returns-in-Some : goal.returns-in-Some
returns-in-Some c = λ text is. c.count.ensures
    ∙ units_by_scheme text c.args.self.now is c.args.encoding c.in-Some.s (sym c.unit_scheme.ensures ∙ c.in-Some.is)
