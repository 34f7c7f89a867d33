use Rattle.text_rope.proofs.lemmas.{arith, length, joined_size, height-most, height_of_bytes}
use Rattle.text_rope.proofs.joins.height_of.Goals as goal

pub returns-in-Some-clause-low : goal.returns-in-Some-clause-low
returns-in-Some-clause-low c =
    let texts = c.in-Some.subtree.now.texts in
    rw c.in-Some.is (height_of_bytes c.in-Some.subtree.now.height (length texts) (joined_size texts) c.height.ensures.many c.summary-short.ensures.few)

pub returns-in-Some-clause-most : goal.returns-in-Some-clause-most
returns-in-Some-clause-most c =
    let texts = c.in-Some.subtree.now.texts in
    rw c.in-Some.is (height-most c.in-Some.subtree.now.height (length texts) c.height.ensures.many
    (omega (arith, c.summary-short.ensures.few, c.summary-short.ensures.short)))
