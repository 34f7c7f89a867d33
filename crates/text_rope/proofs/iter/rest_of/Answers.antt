use Rattle.text_rope.proofs.lemmas.{◌-◌, arith, drop, length, rest_of_leaf, take_all}
use Rattle.std.proofs.lemmas.List.{length-drop}
use Rattle.text_rope.proofs.iter.rest_of.Goals as goal

pub returns-clause-rest : goal.returns-clause-rest
returns-clause-rest c =
    let chunks = c.leaf_at-place.result.chunks.now in
    let i = c.leaf_at-place.result.index in
    rest_of_leaf c.leaf_at-place.ensures.place (take_all (length chunks - i) (drop i chunks) (omega (arith, length-drop i chunks)))
