use Rattle.text_summary.proofs.lemmas.{arith}
use Rattle.text_summary.proofs.changes.lost_round.Goals as goal

pub overflow_add-result : goal.overflow_add-result
overflow_add-result c = omega (arith, c.lost_at_seam-before.ensures.small, c.lost_at_seam-after.ensures.small)
