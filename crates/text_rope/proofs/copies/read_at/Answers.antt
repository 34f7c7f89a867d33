use Rattle.text_rope.proofs.lemmas.{◌∙◌, ap, sym, arith, refl, joined, joined_size, length-encodes, read_of_part}
use Rattle.text_rope.proofs.copies.read_at.Goals as goal

pub returns-then-len-at : goal.returns-then-len-at
returns-then-len-at c = record {
  len = omega (arith, c.if-len-at.true, length-encodes (joined c.args.tree.now), c.len.ensures.len);
  is = refl;
}

pub returns : goal.returns
returns c =
    let chunks = c.from_chunk-chunks.result.0 in
    let is = c.from_chunk-chunks.ensures in
    rw (← is.texts, ← is.place) (read_of_part c.read_chunks.ensures.read (is.end ∙ ap joined_size (sym is.texts)) c.read_chunks.ensures.full)
