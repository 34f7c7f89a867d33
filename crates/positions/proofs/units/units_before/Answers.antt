use Rattle.positions.proofs.lemmas.{◌≡◌, ◌∙◌, sym, ap, chars, arith, units_of, weighed, weighed_none, weighed_by_bytes, weighed_by_scheme}
use Rattle.positions.proofs.units.units_before.Goals as goal

pub returns-then-byte-eq0 : goal.returns-then-byte-eq0
returns-then-byte-eq0 g c =
    let none : c.args.byte ≡ 0 = omega (arith, c.if-byte-eq0.true) in
    sym (ap (weighed (units_of c.args.encoding) (chars c.args.text.now)) none ∙ weighed_none (units_of c.args.encoding) (chars c.args.text.now))

pub returns-in-None : goal.returns-in-None
returns-in-None g c = weighed_by_bytes c.args.encoding (chars c.args.text.now) c.args.byte c.char_start.result
    (sym c.unit_scheme.ensures ∙ c.in-None.is) c.char_start.ensures

pub returns-in-Some : goal.returns-in-Some
returns-in-Some g c = c.from_byte_idx.ensures
    ∙ weighed_by_scheme c.args.encoding (chars c.args.text.now) c.args.byte c.in-Some.scheme (sym c.unit_scheme.ensures ∙ c.in-Some.is)
