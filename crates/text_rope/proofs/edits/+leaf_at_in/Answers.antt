use Rattle.text_rope.proofs.lemmas.{ap, leaf_right}
use Rattle.text_rope.proofs.edits.+leaf_at_in.Goals as goal

pub returns-else-at-middle-clause-place : goal.returns-else-at-middle-clause-place
returns-else-at-middle-clause-place t c = rw c.in-Subtrees.ensures.look.texts
    (leaf_right c.in-Subtrees.left.now.texts (ap (λ s. s.len) c.summary.ensures.summary) c.leaf_at_in-else-at-middle.ensures.place)
