use Rattle.text_index.proofs.lemmas.{◌∙◌, arith, took_byte}
use Rattle.text_index.proofs.parts.MarksParts.part_of_byte.Goals as goal

pub returns-clause-cost : goal.returns-clause-cost
returns-clause-cost c =
    let stretch = c.stretch_at-stretch.ensures in
    let part = c.part_in.ensures in
    took_byte c.args.self.now c.part_in.new.m (part.kept ∙ stretch.text) (omega (arith, part.looks, stretch.looks_kept))
    (omega (arith, part.reads, stretch.reads)) (omega (arith, part.reads, stretch.reads))
    (omega (arith, part.looks, stretch.looks))
