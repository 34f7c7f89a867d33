use Rattle.positions.proofs.lemmas.{chars, byte_at-le}
use Rattle.positions.proofs.laws.bytes_in_order.Goals as goal

pub returns : goal.returns
returns c = byte_at-le c.args.lines c.args.encoding (chars c.args.text.now) c.args.p c.args.q
