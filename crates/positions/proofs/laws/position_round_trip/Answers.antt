use Rattle.positions.proofs.lemmas.{chars, line-position_at-byte_at, cut_to_line, inside_to_first, last_line_end}
use Rattle.positions.proofs.laws.position_round_trip.Goals as goal

pub returns-clause-line : goal.returns-clause-line
returns-clause-line c = line-position_at-byte_at c.args.lines c.args.encoding (chars c.args.text.now) c.args.position

pub returns-clause-cut : goal.returns-clause-cut
returns-clause-cut c has = cut_to_line c.args.lines c.args.encoding (chars c.args.text.now) c.args.position has

pub returns-clause-inside : goal.returns-clause-inside
returns-clause-inside c has inside = inside_to_first c.args.lines c.args.encoding (chars c.args.text.now) c.args.position has inside

pub returns-clause-past : goal.returns-clause-past
returns-clause-past c past = last_line_end c.args.lines c.args.encoding (chars c.args.text.now) c.args.position past
