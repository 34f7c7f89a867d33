use Rattle.text_rope.proofs.lemmas.{◌≡◌, ◌∙◌, ◌++◌, ap, arith, chars, drop, refl, rest_chunk, rest_of_leaf, size, sym}
use Rattle.text_rope.specs.Rests.{IsRestAt}
use Rattle.text_rope.proofs.edits.stretch_at.Goals as goal

pub returns-clause-chunk : goal.returns-clause-chunk
returns-clause-chunk c =
    let place = c.leaf_at_in-place.result in
    let is = c.leaf_at_in-place.ensures.place in
    let rest : IsRestAt 0 c.args.subtree.now.texts (drop place.index place.chunks.now) place.start c.args.at = rest_of_leaf is refl in
    let chunk : chars c.read-text.result.now ≡ rest.chunk = c.read-text.ensures.text ∙ c.chunk.ensures ∙ sym (rest_chunk is rest) in
    record {
      front = rest.front;
      back = rest.others ++ rest.back;
      parts = rw chunk rest.parts;
      start_is = omega (arith, rest.place);
      end_is = omega (arith, c.read-text.ensures.len, ap size c.read-text.ensures.text);
    }

pub returns-clause-inside : goal.returns-clause-inside
returns-clause-inside c = omega (
  arith,
  c.leaf_at_in-place.ensures.place.inside,
  c.read-text.ensures.len,
  ap size c.chunk.ensures,
)
