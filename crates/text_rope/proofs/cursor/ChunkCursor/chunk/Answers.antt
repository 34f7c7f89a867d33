use Rattle.text_rope.proofs.lemmas.{ap, arith, leaf_has, piece_at, size, size-some}
use Rattle.text_rope.specs.Chunks.{HasChunkAt}
use Rattle.text_rope.specs.Rests.{IsLeafAt}
use Rattle.text_rope.proofs.cursor.ChunkCursor.chunk.Goals as goal

pub returns-clause-own : goal.returns-clause-own
returns-clause-own c =
    let place = c.self.inside.place in
    let some = size-some c.chunk.result.now c.summary-own.ensures.some in
    let here : IsLeafAt 0 c.self.inside.view.texts place.chunks.now place.index place.start place.start = record {
      leaf = c.self.invariant.leaf;
      after = omega arith;
      inside = omega (arith, some, ap size c.chunk.ensures);
    } in
    let part : HasChunkAt c.self.inside.view.texts (piece_at place.chunks.now place.index) place.start place.start =
    leaf_has here in
    rw (ap (λ s. s.view.texts) c.self.view_is, ap (λ s. s.chunk) c.self.view_is, ap (λ s. s.start) c.self.view_is) at part
