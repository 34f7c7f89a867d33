use Rattle.std.proofs.Math.Nat.{pow-le-pow_right}
use Rattle.text_index.proofs.lemmas.{◌-◌, ◌^◌, ◌≤◌, arith}
use Rattle.text_index.proofs.queries.stretch_at.Goals as goal

pub returns-clause-few : goal.returns-clause-few
returns-clause-few c =
    let few : c.stretch_round.new.m.looks - c.args.m.now.looks ≤ 2 = omega (arith, c.stretch_round.ensures.looks) in
    let most : 2 ^ (c.stretch_round.new.m.looks - c.args.m.now.looks) ≤ 2 ^ 2 = pow-le-pow_right (omega arith) few in
    omega (arith, most, c.stretches-last.ensures, c.if-last-eq0.false)
