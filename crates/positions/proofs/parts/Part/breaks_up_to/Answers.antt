use Rattle.positions.proofs.lemmas.{◌∙◌, sym, ap, from_byte_idx, arith, chars, from_byte_idx-le-count, scheme_of}
use Rattle.positions.proofs.parts.Part.breaks_up_to.Goals as goal

pub returns-then-ends_on : goal.returns-then-ends_on
returns-then-ends_on g c = λ cs e is. omega (
  arith,
  from_byte_idx-le-count (scheme_of c.args.lines) (chars c.args.self.now.text.now) c.args.at,
  c.ends_on.ensures cs c.args.lines e is c.if-ends_on.true,
)

pub returns : goal.returns
returns g c = λ cs e is.
    let own = chars c.args.self.now.text.now in
    c.from_byte_idx.ensures ∙ ap (λ s. from_byte_idx s own c.args.at) c.scheme.ensures
    ∙ sym ((c.kind.ensures cs e is).from c.args.at)
