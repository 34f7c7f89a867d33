use Rattle.positions.proofs.lemmas.{chars, exact_goes_back, exact_of_byte}
use Rattle.positions.proofs.laws.exact_positions.Goals as goal

pub returns-clause-back : goal.returns-clause-back
returns-clause-back c = exact_goes_back c.args.lines c.args.encoding (chars c.args.text.now) c.args.position

pub returns-clause-only : goal.returns-clause-only
returns-clause-only c = exact_of_byte c.args.lines c.args.encoding (chars c.args.text.now) c.args.position c.args.byte
