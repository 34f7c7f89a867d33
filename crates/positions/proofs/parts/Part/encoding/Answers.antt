use Rattle.positions.proofs.lemmas.{◌∙◌, sym, chars, part_counts_are, as_bytes, as_chars}
use Rattle.positions.proofs.parts.Part.encoding.Goals as goal

pub returns-then-counts-len_of : goal.returns-then-counts-len_of
returns-then-counts-len_of c = λ cs l is.
    let e = c.args.encoding in
    let own = part_counts_are cs l e c.args.self.now c.in-Some.counts is c.in-Some.is in
    as_bytes e (chars c.args.self.now.text.now) (sym own.units ∙ c.if-counts-len_of.true ∙ c.len_of.ensures)

pub returns-then-counts : goal.returns-then-counts
returns-then-counts c = λ cs l is.
    let e = c.args.encoding in
    let own = part_counts_are cs l e c.args.self.now c.in-Some.counts is c.in-Some.is in
    as_chars e (chars c.args.self.now.text.now) (sym own.units ∙ c.if-counts.true ∙ own.chars)
