use Rattle.positions.proofs.lemmas.Callers.{weighed_by_bytes, weighed_by_scheme}
use Rattle.text_index.proofs.lemmas.{◌∙◌, sym, arith, took_byte}
use Rattle.text_index.proofs.parts.MarksParts.units_of_byte.Goals as goal

pub returns-in-None-clause-answer : goal.returns-in-None-clause-answer
returns-in-None-clause-answer c = weighed_by_bytes c.args.encoding c.args.self.now.text c.args.byte c.char_start_in.result
    (sym c.unit_scheme.ensures ∙ c.in-None.is) c.char_start_in.ensures.answer

pub returns-in-None-clause-cost : goal.returns-in-None-clause-cost
returns-in-None-clause-cost c =
    let found = c.char_start_in.ensures in
    took_byte c.args.self.now c.char_start_in.new.m found.text found.looks_kept (omega (arith, found.reads))
    (omega (arith, found.reads)) found.looks

pub returns-in-Some-clause-answer : goal.returns-in-Some-clause-answer
returns-in-Some-clause-answer c = c.from_in.ensures.answer
    ∙ weighed_by_scheme c.args.encoding c.args.self.now.text c.args.byte c.in-Some.s (sym c.unit_scheme.ensures ∙ c.in-Some.is)

pub returns-in-Some-clause-cost : goal.returns-in-Some-clause-cost
returns-in-Some-clause-cost c =
    let found = c.from_in.ensures in
    took_byte c.args.self.now c.from_in.new.m found.text found.looks_kept found.reads found.reads_kept found.looks
