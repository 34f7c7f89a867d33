use Rattle.std.proofs.lemmas.Bool.{leb-true}
use Rattle.positions.proofs.lemmas.{arith, part_counts_are}
use Rattle.positions.proofs.parts.Part.has_at_most.Goals as goal

pub returns-in-Some : goal.returns-in-Some
returns-in-Some c = λ cs l e is same. omega (
  arith,
  (part_counts_are cs l e c.args.self.now c.in-Some.counts is c.in-Some.is).units,
  leb-true _ _ same,
)
