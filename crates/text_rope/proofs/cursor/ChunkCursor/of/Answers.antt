use Rattle.text_rope.proofs.lemmas.{ap, leaf_has, one_asked}
use Rattle.text_rope.proofs.cursor.ChunkCursor.of.Goals as goal

pub returns-clause-chunk : goal.returns-clause-chunk
returns-clause-chunk c = rw (ap (λ v. v.texts) c.of-view.ensures.view) at (leaf_has c.leaf_at-place.ensures.place)

pub returns-clause-cost : goal.returns-clause-cost
returns-clause-cost c =
    let place = c.leaf_at-place.ensures in
    rw c.of-view.ensures.view at (one_asked place.texts place.looks place.looks_kept place.reads c.read-text.ensures.state)
