use Rattle.text_summary.proofs.lemmas.{ap, arith, added}
use Rattle.text_summary.proofs.seams.joined_count.Goals as goal

pub overflow_sub-result : goal.overflow_sub-result
overflow_sub-result c =
    let two = c.requires in
    let lost = c.lost_at_seam-lost.ensures.loss two.a two.b (ap (λ m. m.ends_cr) two.front_is) (ap (λ m. m.starts_lf) two.after_is) in
    omega (arith, lost, (added c.args.s c.args.front.now c.args.after.now two.a two.b two.front_is two.after_is).lost_le)

pub overflow_add-result : goal.overflow_add-result
overflow_add-result c =
    let two = c.requires in
    let lost = c.lost_at_seam-lost.ensures.loss two.a two.b (ap (λ m. m.ends_cr) two.front_is) (ap (λ m. m.starts_lf) two.after_is) in
    let sum = added c.args.s c.args.front.now c.args.after.now two.a two.b two.front_is two.after_is in
    omega (arith, lost, sum.fits, two.short)

pub returns : goal.returns
returns c a b front_is after_is =
    let lost = c.lost_at_seam-lost.ensures.loss a b (ap (λ m. m.ends_cr) front_is) (ap (λ m. m.starts_lf) after_is) in
    omega (arith, lost, (added c.args.s c.args.front.now c.args.after.now a b front_is after_is).is)
