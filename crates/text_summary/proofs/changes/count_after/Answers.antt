use Rattle.text_summary.proofs.lemmas.{arith, exchanged}
use Rattle.text_summary.proofs.changes.count_after.Goals as goal

pub overflow_add-result : goal.overflow_add-result
overflow_add-result c =
    let is = exchanged c.args.s c.args.whole.now c.args.update.now c.requires.a c.requires.m c.requires.b c.requires.t c.requires.whole_is
    c.requires.update_is c.lost_round-gained.result c.lost_round-lost.result c.lost_round-gained.ensures c.lost_round-lost.ensures in
    omega (arith, is.gained_fits, c.requires.short_old)

pub overflow_sub-result : goal.overflow_sub-result
overflow_sub-result c =
    let is = exchanged c.args.s c.args.whole.now c.args.update.now c.requires.a c.requires.m c.requires.b c.requires.t c.requires.whole_is
    c.requires.update_is c.lost_round-gained.result c.lost_round-lost.result c.lost_round-gained.ensures c.lost_round-lost.ensures in
    omega (arith, is.out_le)

pub overflow_add-result-2 : goal.overflow_add-result-2
overflow_add-result-2 c =
    let is = exchanged c.args.s c.args.whole.now c.args.update.now c.requires.a c.requires.m c.requires.b c.requires.t c.requires.whole_is
    c.requires.update_is c.lost_round-gained.result c.lost_round-lost.result c.lost_round-gained.ensures c.lost_round-lost.ensures in
    omega (arith, is.fits, c.requires.short_new)

pub overflow_sub-result-2 : goal.overflow_sub-result-2
overflow_sub-result-2 c =
    let is = exchanged c.args.s c.args.whole.now c.args.update.now c.requires.a c.requires.m c.requires.b c.requires.t c.requires.whole_is
    c.requires.update_is c.lost_round-gained.result c.lost_round-lost.result c.lost_round-gained.ensures c.lost_round-lost.ensures in
    omega (arith, is.lost_le)

pub returns : goal.returns
returns c a m b t whole_is update_is =
    let is = exchanged c.args.s c.args.whole.now c.args.update.now a m b t whole_is update_is c.lost_round-gained.result
    c.lost_round-lost.result c.lost_round-gained.ensures c.lost_round-lost.ensures in
    omega (arith, is.is)
