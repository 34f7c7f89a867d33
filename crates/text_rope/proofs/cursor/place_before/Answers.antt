use Rattle.text_rope.proofs.lemmas.{◌≡◌, ◌+◌, ◌-◌, arith, length, no_looks, chunk_end_le, ends_there, leaf_prev, len_before, start_of_leaf}
use Rattle.text_rope.proofs.cursor.place_before.Goals as goal

pub leaf_at-requires : goal.leaf_at-requires
leaf_at-requires c = omega (
  arith,
  chunk_end_le c.args.v.now.texts c.args.place.now.start (start_of_leaf c.requires.place),
  c.requires.some,
)

pub returns-then-place-eq0-clause-place : goal.returns-then-place-eq0-clause-place
returns-then-place-eq0-clause-place c = c.leaf_at.ensures.place.leaf

pub returns-then-place-eq0-clause-end : goal.returns-then-place-eq0-clause-end
returns-then-place-eq0-clause-end c = ends_there (start_of_leaf c.requires.place) c.requires.some c.leaf_at.ensures.place

pub overflow_sub-result : goal.overflow_sub-result
overflow_sub-result c =
    let index = c.args.place.now.index in
    let one : index - 1 + 1 ≡ index = omega (arith, c.if-place-eq0.false) in
    omega (arith, len_before (index - 1) c.requires.place one, c.len.ensures.len)

pub returns-clause-place : goal.returns-clause-place
returns-clause-place c =
    let index = c.args.place.now.index in
    let one : index - 1 + 1 ≡ index = omega (arith, c.if-place-eq0.false) in
    leaf_prev (index - 1) c.requires.place one
    (omega (arith, len_before (index - 1) c.requires.place one, c.len.ensures.len))

pub returns-clause-end : goal.returns-clause-end
returns-clause-end c =
    let index = c.args.place.now.index in
    let one : index - 1 + 1 ≡ index = omega (arith, c.if-place-eq0.false) in
    omega (arith, len_before (index - 1) c.requires.place one, c.len.ensures.len)

pub returns-clause-looks : goal.returns-clause-looks
returns-clause-looks c = no_looks c.args.v.now.looks (length c.args.v.now.texts)
