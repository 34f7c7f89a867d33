use Rattle.positions.proofs.lemmas.Callers.{placed_by_bytes, placed_by_scheme}
use Rattle.text_index.proofs.lemmas.{◌∙◌, sym, arith, took_count}
use Rattle.text_index.proofs.parts.MarksParts.byte_of_units.Goals as goal

pub returns-in-None-clause-answer : goal.returns-in-None-clause-answer
returns-in-None-clause-answer c = placed_by_bytes c.args.encoding c.args.self.now.text c.args.units c.char_start_in.result
    (sym c.unit_scheme.ensures ∙ c.in-None.is) c.char_start_in.ensures.answer

pub returns-in-None-clause-cost : goal.returns-in-None-clause-cost
returns-in-None-clause-cost c =
    let found = c.char_start_in.ensures in
    took_count c.args.self.now c.char_start_in.new.m found.text found.looks_kept (omega (arith, found.reads))
    (omega (arith, found.reads)) found.few

pub returns-in-Some-clause-answer : goal.returns-in-Some-clause-answer
returns-in-Some-clause-answer c = c.to_in.ensures.answer
    ∙ placed_by_scheme c.args.encoding c.args.self.now.text c.args.units c.in-Some.s (sym c.unit_scheme.ensures ∙ c.in-Some.is)

pub returns-in-Some-clause-cost : goal.returns-in-Some-clause-cost
returns-in-Some-clause-cost c =
    let found = c.to_in.ensures in
    took_count c.args.self.now c.to_in.new.m found.text found.looks_kept found.reads found.reads_kept found.looks
