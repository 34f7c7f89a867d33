use Rattle.text_rope.proofs.lemmas.Trees.{joined_on_left, joined_on_right}
use Rattle.text_rope.proofs.joins.+join.Goals as goal

pub returns-in_ok-share-clause-joined : goal.returns-in_ok-share-clause-joined
returns-in_ok-share-clause-joined t c =
    joined_on_right c.balance.result c.open.result.0.now c.open.result.1.now c.in_ok-back.back c.args.left.now c.args.right.now
    c.open.ensures.branch c.in_ok-back.ensures.joined (rw (c.height-l.ensures.height, c.height-r.ensures.height) at c.if-l-r.true)
    (rw c.in_ok-share.ensures at c.balance.ensures.joined) (rw c.in_ok-share.ensures at c.balance.ensures.even)

pub returns-in_ok-share-2-clause-joined : goal.returns-in_ok-share-2-clause-joined
returns-in_ok-share-2-clause-joined t c =
    joined_on_left c.balance-then-r-l-2.result c.open-then-r-l.result.0.now c.open-then-r-l.result.1.now c.in_ok-front.front
    c.args.left.now c.args.right.now c.open-then-r-l.ensures.branch c.in_ok-front.ensures.joined
    (rw (c.height-l.ensures.height, c.height-r.ensures.height) at c.if-r-l.true)
    (rw c.in_ok-share-2.ensures at c.balance-then-r-l-2.ensures.joined) (rw c.in_ok-share-2.ensures at c.balance-then-r-l-2.ensures.even)
