use Rattle.text_rope.proofs.loads.+build_tree.Given as goal

-- each half has fewer chunks
abbrev pub decreases-build_tree : goal.decreases-build_tree
decreases-build_tree l = l.many
