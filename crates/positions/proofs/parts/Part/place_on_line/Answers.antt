use Rattle.positions.proofs.lemmas.{◌-◌, ◌∙◌, sym, arith, chars, same_behind, placed_same, first_same, unbroken_place, none_behind_last, all_units, byte_of_plain}
use Rattle.positions.proofs.parts.Part.place_on_line.Goals as goal

pub returns-then-has_at_most : goal.returns-then-has_at_most
returns-then-has_at_most g c = λ cs at is place behind.
    let l = c.args.lines in
    let e = c.args.encoding in
    let own = chars c.args.self.now.text.now in
    let rest = chars c.args.rest.now in
    let last = c.ends_on.ensures cs l e is c.if-ends_on.true in
    let few = c.has_at_most.ensures cs l e is c.if-has_at_most.true in
    c.len_of.ensures ∙ all_units e own rest at c.args.character few behind
    ∙ unbroken_place l e rest c.args.character
    (none_behind_last l own rest at (c.args.line - c.args.self.now.lines) place (omega (arith, last)) behind)

pub returns-then-ends_on : goal.returns-then-ends_on
returns-then-ends_on g c = λ cs at is place behind.
    let l = c.args.lines in
    let e = c.args.encoding in
    let own = chars c.args.self.now.text.now in
    let rest = chars c.args.rest.now in
    let same = same_behind e c.encoding.result own (c.encoding.ensures cs l is) rest at behind in
    let last = c.ends_on.ensures cs l e is c.if-ends_on.true in
    c.place_of.ensures.answer ∙ sym (placed_same e c.encoding.result rest same c.args.character)
    ∙ unbroken_place l e rest c.args.character
    (none_behind_last l own rest at (c.args.line - c.args.self.now.lines) place (omega (arith, last)) behind)

pub returns-then-is_after_plain : goal.returns-then-is_after_plain
returns-then-is_after_plain g c = λ cs at is place behind.
    byte_of_plain c.args.lines c.args.encoding (chars c.args.rest.now) c.args.character
    (c.is_after_plain.ensures c.if-is_after_plain.true).1

pub returns : goal.returns
returns g c = λ cs at is place behind.
    let e = c.args.encoding in
    let rest = chars c.args.rest.now in
    let same = same_behind e c.encoding-2.result (chars c.args.self.now.text.now) (c.encoding-2.ensures cs c.args.lines is) rest at
    behind in
    c.place_on_first_line.ensures ∙ sym (first_same c.args.lines e c.encoding-2.result rest c.args.character same)
