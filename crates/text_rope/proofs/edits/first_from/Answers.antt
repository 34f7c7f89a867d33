use Rattle.text_rope.proofs.lemmas.{arith, chars, chunk_within}
use Rattle.text_rope.proofs.edits.first_from.Goals as goal

pub stretch_at-requires : goal.stretch_at-requires
stretch_at-requires c =
    omega (arith, chunk_within c.args.subtree.now.texts (chars c.args.last.text.now) c.args.last.start c.args.last.end c.requires.chunk)
