use Rattle.positions.proofs.lemmas.{chars, position_at-le}
use Rattle.positions.proofs.laws.positions_in_order.Goals as goal

pub returns : goal.returns
returns c = position_at-le c.args.lines c.args.encoding (chars c.args.text.now) c.args.i c.args.j
