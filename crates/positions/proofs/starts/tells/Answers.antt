use Rattle.positions.proofs.lemmas.{arith}
use Rattle.positions.proofs.starts.tells.Goals as goal

pub overflow_add-result : goal.overflow_add-result
overflow_add-result g c = omega (arith, c.requires, c.len_of.ensures, c.len-len.ensures.short)
