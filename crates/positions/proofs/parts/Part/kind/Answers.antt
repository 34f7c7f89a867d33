use Rattle.positions.proofs.lemmas.{◌∙◌, sym, chars, part_counts_are, as_feeds}
use Rattle.positions.proofs.parts.Part.kind.Goals as goal

pub returns-in-Some : goal.returns-in-Some
returns-in-Some c = λ cs e is.
    let own = part_counts_are cs c.args.lines e c.args.self.now c.in-Some.counts is c.in-Some.is in
    as_feeds c.args.lines (chars c.args.self.now.text.now) (sym own.breaks ∙ sym c.if-counts.true ∙ own.lf)
