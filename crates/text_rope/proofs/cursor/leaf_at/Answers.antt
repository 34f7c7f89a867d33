use Rattle.text_rope.proofs.lemmas.{◌-◌, arith, few_looks, length}
use Rattle.text_rope.proofs.cursor.leaf_at.Goals as goal

pub returns-clause-looks : goal.returns-clause-looks
returns-clause-looks c =
    let subtree = c.in-Some.subtree.now in
    rw (← c.in-Some.ensures) (few_looks (c.leaf_at_in.new.v.looks - c.args.v.now.looks) subtree.height (length subtree.texts)
    (omega (arith, c.leaf_at_in.ensures.low)) c.height-height.ensures.many)
