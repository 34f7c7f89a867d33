use Rattle.text_rope.proofs.lemmas.{lent_full, lent_in_text}
use Rattle.text_rope.proofs.rope.Rope.chunk_at.Goals as goal

pub returns-clause-chunk : goal.returns-clause-chunk
returns-clause-chunk c = lent_in_text _ _ c.args.self.now c.chunk_in.result c.view.ensures.text c.chunk_in.ensures.chunk

pub returns-clause-full : goal.returns-clause-full
returns-clause-full c =
    lent_full _ _ c.args.self.now c.chunk_in.result c.view.ensures.text c.view.ensures.filled c.chunk_in.ensures.chunk
