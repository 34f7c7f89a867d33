use Rattle.text_index.proofs.lemmas.{◌-◌, ◌*◌, ◌^◌, ◌≤◌, ◌∙◌, ap, arith, stretches_of, has_line, took_count}
use Rattle.text_index.proofs.parts.MarksParts.part_of_line.Goals as goal

pub returns-clause-round : goal.returns-clause-round
returns-clause-round c =
    let stretch = c.stretch_up_to-stretch in
    let reaches = rw c.scheme.ensures at stretch.ensures.reaches in
    let part = rw stretch.ensures.text at c.part_in.ensures.part in
    has_line c.args.lines c.args.self.now.text c.args.line stretch.result c.part_in.result reaches part.lines
    c.part_in.ensures.start c.part_in.ensures.end

pub returns-clause-cost : goal.returns-clause-cost
returns-clause-cost c =
    let old = c.args.self.now in
    let stretch = c.stretch_up_to-stretch.ensures in
    let part = c.part_in.ensures in
    let few : 2 ^ (c.part_in.new.m.looks - old.looks) ≤ 2 * stretches_of old.text =
    omega (arith, stretch.looks, ap (λ n. 2 ^ (n - old.looks)) part.looks) in
    took_count old c.part_in.new.m (part.kept ∙ stretch.text) (omega (arith, part.looks, stretch.looks_kept))
    (omega (arith, part.reads, stretch.reads)) (omega (arith, part.reads, stretch.reads)) few
