use Rattle.std.specs.Prelude.{◌+◌}
use Rattle.std.proofs.Common.{◌∙◌, ap, arith, refl, subst, sym}
use Rattle.std.proofs.lemmas.List.{length-set}
use Rattle.str_indices.specs.Text.{size}
use Rattle.text_rope_c.proofs.ChunkLists.{IsLent, is_lent, lent_end, no_more, set_at, set_rest, set_sized}
use Rattle.text_rope.specs.ChunkSizes.{IsFilled}
use Rattle.text_summary.specs.Pieces.{joined, joined_size}
use Rattle.text_rope_c.proofs.chunk_lists.put_chunks_at.Goals as goal

pub returns-then-not-next-clause-chunks : goal.returns-then-not-next-clause-chunks
returns-then-not-next-clause-chunks c =
    let i = c.chunks.invariant in
    let lent : IsLent c.chunks.cursor c.of.result =
    is_lent c.chunks.cursor c.of.result c.chunk.result c.of.ensures.text c.of.ensures.start c.chunk.ensures.text c.chunk.ensures.start in
    (set_at c.args.rope.now c.args.byte_idx c.chunks.out c.chunks.count c.chunks.cursor c.of.result
    (omega (arith, c.chunks-test.true, i.room)) i.chunks i.next lent i.text c.chunk.ensures.own).chunks

pub returns-then-not-next-clause-sized : goal.returns-then-not-next-clause-sized
returns-then-not-next-clause-sized c =
    let i = c.chunks.invariant in
    let now = c.chunks.cursor in
    let lent : IsLent now c.of.result =
    is_lent now c.of.result c.chunk.result c.of.ensures.text c.of.ensures.start c.chunk.ensures.text c.chunk.ensures.start in
    set_sized c.args.rope.now c.chunks.out c.chunks.count now c.of.result (omega (arith, c.chunks-test.true, i.room)) i.sized lent i.text
    i.filled c.chunk.ensures.own c.chunk.ensures.piece

pub returns-then-not-next-clause-full : goal.returns-then-not-next-clause-full
returns-then-not-next-clause-full c more =
    let i = c.chunks.invariant in
    let now = c.chunks.cursor in
    let lent : IsLent now c.of.result =
    is_lent now c.of.result c.chunk.result c.of.ensures.text c.of.ensures.start c.chunk.ensures.text c.chunk.ensures.start in
    let set = set_at c.args.rope.now c.args.byte_idx c.chunks.out c.chunks.count now c.of.result
    (omega (arith, c.chunks-test.true, i.room)) i.chunks i.next lent i.text c.chunk.ensures.own in
    omega (
      arith,
      set.end,
      lent_end now c.of.result lent,
      no_more (now.start + size now.chunk) (joined_size now.view.texts) c.if-not-next.ensures.some.1,
      ap size i.text,
    )

pub chunks-preserved : goal.chunks-preserved
chunks-preserved c =
    let i = c.chunks.invariant in
    let now = c.chunks.cursor in
    let lent : IsLent now c.of.result =
    is_lent now c.of.result c.chunk.result c.of.ensures.text c.of.ensures.start c.chunk.ensures.text c.chunk.ensures.start in
    let set = set_at c.args.rope.now c.args.byte_idx c.chunks.out c.chunks.count now c.of.result
    (omega (arith, c.chunks-test.true, i.room)) i.chunks i.next lent i.text c.chunk.ensures.own in record {
      text = ap joined c.next.ensures.cost.texts ∙ i.text;
      chunks = set.chunks;
      filled = subst IsFilled (sym c.next.ensures.cost.texts) i.filled;
      sized = set_sized c.args.rope.now c.chunks.out c.chunks.count now c.of.result (omega (arith, c.chunks-test.true, i.room)) i.sized lent
          i.text i.filled c.chunk.ensures.own c.chunk.ensures.piece;
      next = set.next c.next.new.self (c.if-not-next.ensures.moved refl ∙ sym (lent_end now c.of.result lent));
      rest = set_rest c.chunks.out c.args.out.now c.chunks.count c.of.result i.rest;
      room = length-set c.chunks.out c.chunks.count c.of.result ∙ i.room;
    }
