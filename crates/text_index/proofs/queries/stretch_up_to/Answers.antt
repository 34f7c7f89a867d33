use Rattle.std.proofs.Math.Nat.{pow-le-pow_right}
use Rattle.text_index.proofs.lemmas.{◌-◌, ◌^◌, ◌≤◌, arith}
use Rattle.text_index.proofs.queries.stretch_up_to.Goals as goal

pub returns-then-k-eq0-clause-looks : goal.returns-then-k-eq0-clause-looks
returns-then-k-eq0-clause-looks c =
    let few : c.end_by.new.self.looks - c.args.m.now.looks ≤ 1 = omega (arith, c.end_by.ensures.looks) in
    let most : 2 ^ (c.end_by.new.self.looks - c.args.m.now.looks) ≤ 2 ^ 1 = pow-le-pow_right (omega arith) few in
    omega (arith, most)
