use Rattle.text_rope.proofs.lemmas.{arith, ap, size, size-chars}
use Rattle.text_rope.proofs.loads.tree_from.Goals as goal

pub tree_of-requires : goal.tree_of-requires
tree_of-requires c = omega (arith, ap size c.in_ok-chunks.ensures.text, size-chars c.args.text.now c.utf8.text, c.requires)
