use Rattle.positions.proofs.lemmas.{chars, some_byte_range, byte_range_in_order, byte_range_at_boundaries}
use Rattle.positions.proofs.laws.byte_ranges.Goals as goal

pub returns-clause-some : goal.returns-clause-some
returns-clause-some c = some_byte_range c.args.lines c.args.encoding (chars c.args.text.now) c.args.range

pub returns-clause-ordered : goal.returns-clause-ordered
returns-clause-ordered c = byte_range_in_order c.args.lines c.args.encoding (chars c.args.text.now) c.args.range

pub returns-clause-boundaries : goal.returns-clause-boundaries
returns-clause-boundaries c = byte_range_at_boundaries c.args.lines c.args.encoding (chars c.args.text.now) c.args.range
