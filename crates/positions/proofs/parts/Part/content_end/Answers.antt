use Rattle.positions.proofs.lemmas.{◌-◌, ◌∙◌, arith, chars, all_content, none_behind_last}
use Rattle.positions.proofs.parts.Part.content_end.Goals as goal

pub returns : goal.returns
returns g c = λ cs e at is place behind.
    let l = c.args.lines in
    let own = chars c.args.self.now.text.now in
    let rest = chars c.args.rest.now in
    let last = c.ends_on.ensures cs l e is c.if-not-ends_on.false in
    c.len_of.ensures ∙ all_content l rest
    (none_behind_last l own rest at (c.args.line - c.args.self.now.lines) place (omega (arith, last)) behind)
