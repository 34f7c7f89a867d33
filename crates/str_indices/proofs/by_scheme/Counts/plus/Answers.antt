use Rattle.std.proofs.Common.{arith}
use Rattle.str_indices.proofs.by_scheme.Counts.plus.Goals as goal

pub returns : goal.returns
returns c = λ s. omega (arith, c.of_each.ensures s, c.requires s)
