use Rattle.text_rope.proofs.lemmas.{◌+◌, ap, arith, chunk_end_le, end_of_leaf, joined_size, one_asked, asked_within, none_asked, refl, size}
use Rattle.text_rope.specs.ChunkEnds.{IsChunkEnd}
use Rattle.text_rope.proofs.cursor.ChunkCursor.next.Goals as goal

pub overflow_add-end : goal.overflow_add-end
overflow_add-end c =
    let texts = c.self.inside.view.texts in
    let end : IsChunkEnd texts (c.self.inside.place.start + c.len.result) =
    end_of_leaf c.self.invariant.leaf (omega (arith, c.len.ensures.len)) in
    omega (arith, chunk_end_le texts _ end, c.len-whole.ensures.short)

pub place_after-next-requires-clause-inside : goal.place_after-next-requires-clause-inside
place_after-next-requires-clause-inside c =
    let texts = c.self.inside.view.texts in
    let end : IsChunkEnd texts (c.self.inside.place.start + c.len.result) =
    end_of_leaf c.self.invariant.leaf (omega (arith, c.len.ensures.len)) in
    omega (arith, chunk_end_le texts _ end, c.len-whole.ensures.len, c.if-end-whole.false)

pub returns-clause-some : goal.returns-clause-some
returns-clause-some c =
    let texts = c.self.inside.view.texts in
    let end : IsChunkEnd texts (c.self.inside.place.start + c.len.result) =
    end_of_leaf c.self.invariant.leaf (omega (arith, c.len.ensures.len)) in (
      λ told. omega (
        arith,
        chunk_end_le texts _ end,
        c.len.ensures.len,
        c.len-whole.ensures.len,
        c.if-end-whole.false,
        ap (λ s. s.start) c.self.view_is,
        ap (λ s. size s.chunk) c.self.view_is,
        ap (λ s. joined_size s.view.texts) c.self.view_is,
      ),
      λ before. refl,
    )

pub returns-clause-moved : goal.returns-clause-moved
returns-clause-moved c told =
    omega (
      arith,
      c.place_after-next.ensures.start,
      c.len.ensures.len,
      ap (λ s. s.start) c.self.view_is,
      ap (λ s. size s.chunk) c.self.view_is,
    )

pub returns-then-end-whole-clause-cost : goal.returns-then-end-whole-clause-cost
returns-then-end-whole-clause-cost c = asked_within (omega arith) (none_asked _)

pub returns-clause-cost : goal.returns-clause-cost
returns-clause-cost c =
    let next = c.place_after-next.ensures in
    rw (ap (λ s. s.view) c.self.view_is) at
    (one_asked next.texts next.looks next.looks_kept next.reads c.read-self-inside.ensures.state)
