use Rattle.positions.proofs.lemmas.Callers.{ascii_placed, placed_by_bytes, placed_by_scheme}
use Rattle.text_rope.proofs.lemmas.{◌∙◌, ap, sym, joined, took_none}
use Rattle.std.specs.Prelude.{min}
use Rattle.text_rope.proofs.parts.ViewParts.byte_of_units.Goals as goal

pub returns-then-is_ascii-clause-answer : goal.returns-then-is_ascii-clause-answer
returns-then-is_ascii-clause-answer c =
    let cs = joined c.args.self.now.texts in
    c.min.ensures ∙ ap (λ n. min c.args.units n) c.len.ensures.len
    ∙ ascii_placed c.args.encoding cs (c.is_ascii.ensures c.if-is_ascii.true) c.args.units

pub returns-then-is_ascii-clause-cost : goal.returns-then-is_ascii-clause-cost
returns-then-is_ascii-clause-cost c = took_none c.args.self.now

pub returns-in-None-clause-answer : goal.returns-in-None-clause-answer
returns-in-None-clause-answer c = placed_by_bytes c.args.encoding (joined c.args.self.now.texts) c.args.units c.char_start_in.result
    (sym c.unit_scheme.ensures ∙ c.in-None.is) c.char_start_in.ensures.answer

pub returns-in-Some-clause-answer : goal.returns-in-Some-clause-answer
returns-in-Some-clause-answer c = c.to_in.ensures.answer
    ∙ placed_by_scheme c.args.encoding (joined c.args.self.now.texts) c.args.units c.in-Some.s (sym c.unit_scheme.ensures ∙ c.in-Some.is)
