use Rattle.text_summary.proofs.lemmas.{arith, is_joined}
use Rattle.text_summary.proofs.fronts.Front.count_before.Goals as goal

pub overflow_sub-result : goal.overflow_sub-result
overflow_sub-result c =
    let is = c.requires in
    let lost = c.lost_at_seam.ensures.loss is.a is.b is.front_is.ends_cr is.starts_is in
    omega (arith, lost, is.front_is.total, (is_joined c.args.s is.a is.b).loss_within)
