use Rattle.text_rope.proofs.lemmas.{arith, length, no_looks, end_of_leaf, leaf_next, starts_there, sym}
use Rattle.text_rope.proofs.cursor.place_after.Goals as goal

pub returns-then-place-clause-start : goal.returns-then-place-clause-start
returns-then-place-clause-start c =
    starts_there (end_of_leaf c.requires.place (sym c.requires.end)) c.leaf_at.ensures.place

pub returns-clause-place : goal.returns-clause-place
returns-clause-place c =
    leaf_next c.requires.place (omega (arith, c.requires.place.index_is, c.if-place.false)) c.requires.end

pub returns-clause-looks : goal.returns-clause-looks
returns-clause-looks c = no_looks c.args.v.now.looks (length c.args.v.now.texts)
