use Rattle.positions.proofs.lemmas.{chars, units_of_position, byte_of_units}
use Rattle.positions.proofs.laws.units_of_the_text.Goals as goal

pub returns-clause-offset : goal.returns-clause-offset
returns-clause-offset c = units_of_position c.args.lines c.args.encoding (chars c.args.text.now) c.args.byte

pub returns-clause-byte : goal.returns-clause-byte
returns-clause-byte c = byte_of_units c.args.lines c.args.encoding (chars c.args.text.now) c.args.position
