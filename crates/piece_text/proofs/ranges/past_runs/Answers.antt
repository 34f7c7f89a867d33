use Rattle.piece_text.proofs.lemmas.{arith}
use Rattle.piece_text.proofs.ranges.past_runs.Goals as goal

-- nothing is before the first piece
pub returns-clause-range : goal.returns-clause-range
returns-clause-range c = record {
  order = omega arith;
  within = omega (arith, c.len.ensures.len);
  front = c.none.ensures c.args.s;
}
