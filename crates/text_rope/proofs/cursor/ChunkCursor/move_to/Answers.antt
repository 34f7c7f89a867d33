use Rattle.text_rope.proofs.lemmas.{ap, arith, asked_within, none_asked, one_asked, leaf_has, piece_at}
use Rattle.text_rope.specs.Chunks.{HasChunkAt}
use Rattle.text_rope.specs.Rests.{IsLeafAt}
use Rattle.text_rope.proofs.cursor.ChunkCursor.move_to.Goals as goal

pub returns-then-byte_idx-self-clause-moved : goal.returns-then-byte_idx-self-clause-moved
returns-then-byte_idx-self-clause-moved c told =
    let place = c.leaf_at-place.result in
    let part : HasChunkAt c.self.inside.view.texts (piece_at place.chunks.now place.index) place.start c.args.byte_idx =
    leaf_has c.leaf_at-place.ensures.place in
    rw (ap (λ s. s.view.texts) c.self.view_is) at part

pub returns-else-self-len-clause-moved : goal.returns-else-self-len-clause-moved
returns-else-self-len-clause-moved c told =
    let place = c.self.inside.place in
    let here : IsLeafAt 0 c.self.inside.view.texts place.chunks.now place.index place.start c.args.byte_idx = record {
      leaf = c.self.invariant.leaf;
      after = omega (arith, c.if-byte_idx-self.false);
      inside = omega (arith, c.if-self-len.false, c.len-len.ensures.len);
    } in
    let part : HasChunkAt c.self.inside.view.texts (piece_at place.chunks.now place.index) place.start c.args.byte_idx =
    leaf_has here in
    rw (ap (λ s. s.view.texts) c.self.view_is, ap (λ s. s.chunk) c.self.view_is, ap (λ s. s.start) c.self.view_is) at part

pub returns-then-len-byte_idx-clause-cost : goal.returns-then-len-byte_idx-clause-cost
returns-then-len-byte_idx-clause-cost c = asked_within (omega arith) (none_asked _)

pub returns-then-byte_idx-self-clause-cost : goal.returns-then-byte_idx-self-clause-cost
returns-then-byte_idx-self-clause-cost c =
    let place = c.leaf_at-place.ensures in
    rw (ap (λ s. s.view) c.self.view_is) at
    (one_asked place.texts place.looks place.looks_kept place.reads c.read-self-inside.ensures.state)

pub returns-else-self-len-clause-cost : goal.returns-else-self-len-clause-cost
returns-else-self-len-clause-cost c =
    rw (ap (λ s. s.view) c.self.view_is) at (asked_within {j = 0} {k = 1} (omega arith) (none_asked c.self.inside.view))
