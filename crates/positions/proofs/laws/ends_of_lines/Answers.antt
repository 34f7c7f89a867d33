use Rattle.positions.proofs.lemmas.{chars, arith, line_end, line_end_is_least, line_of_place, line_end_le}
use Rattle.positions.proofs.laws.ends_of_lines.Goals as goal

pub returns-clause-least : goal.returns-clause-least
returns-clause-least c = line_end_is_least c.args.lines (chars c.args.text.now) c.args.line

pub returns-clause-on_line : goal.returns-clause-on_line
returns-clause-on_line c = let cs = chars c.args.text.now in
    line_of_place c.args.lines cs c.args.line (line_end c.args.lines cs c.args.line) (omega arith) (omega arith)

pub returns-clause-order : goal.returns-clause-order
returns-clause-order c = line_end_le c.args.lines (chars c.args.text.now) c.args.line c.args.next
