use Rattle.std.specs.Prelude.{min}
use Rattle.std.proofs.Common.{◌∙◌, ap, arith, refl, subst, sym}
use Rattle.std.proofs.lemmas.List.{length-set}
use Rattle.str_indices.specs.Text.{size}
use Rattle.text_rope_c.proofs.ChunkLists.{IsLent, is_lent, no_more, set_before, set_rest, set_sized}
use Rattle.text_rope.specs.ChunkSizes.{IsFilled}
use Rattle.text_summary.specs.Pieces.{joined}
use Rattle.text_rope_c.proofs.chunk_lists.put_chunks_before.Goals as goal

pub returns-then-not-prev-clause-chunks : goal.returns-then-not-prev-clause-chunks
returns-then-not-prev-clause-chunks c =
    let i = c.chunks.invariant in
    let lent : IsLent c.chunks.cursor c.of.result =
    is_lent c.chunks.cursor c.of.result c.chunk.result c.of.ensures.text c.of.ensures.start c.chunk.ensures.text c.chunk.ensures.start in
    (set_before c.args.rope.now (min c.args.byte_idx (size c.args.rope.now)) c.chunks.out c.chunks.count c.chunks.cursor c.of.result
    (omega (arith, c.chunks-test.true, i.room)) i.chunks i.next lent i.text c.chunk.ensures.own).chunks

pub returns-then-not-prev-clause-sized : goal.returns-then-not-prev-clause-sized
returns-then-not-prev-clause-sized c =
    let i = c.chunks.invariant in
    let now = c.chunks.cursor in
    let lent : IsLent now c.of.result =
    is_lent now c.of.result c.chunk.result c.of.ensures.text c.of.ensures.start c.chunk.ensures.text c.chunk.ensures.start in
    set_sized c.args.rope.now c.chunks.out c.chunks.count now c.of.result (omega (arith, c.chunks-test.true, i.room)) i.sized lent i.text
    i.filled c.chunk.ensures.own c.chunk.ensures.piece

pub returns-then-not-prev-clause-full : goal.returns-then-not-prev-clause-full
returns-then-not-prev-clause-full c more =
    let i = c.chunks.invariant in
    let now = c.chunks.cursor in
    let lent : IsLent now c.of.result =
    is_lent now c.of.result c.chunk.result c.of.ensures.text c.of.ensures.start c.chunk.ensures.text c.chunk.ensures.start in
    let set = set_before c.args.rope.now (min c.args.byte_idx (size c.args.rope.now)) c.chunks.out c.chunks.count now c.of.result
    (omega (arith, c.chunks-test.true, i.room)) i.chunks i.next lent i.text c.chunk.ensures.own in
    omega (arith, set.start, lent.start, no_more 0 now.start c.if-not-prev.ensures.some.1)

pub chunks-preserved : goal.chunks-preserved
chunks-preserved c =
    let i = c.chunks.invariant in
    let now = c.chunks.cursor in
    let lent : IsLent now c.of.result =
    is_lent now c.of.result c.chunk.result c.of.ensures.text c.of.ensures.start c.chunk.ensures.text c.chunk.ensures.start in
    let set = set_before c.args.rope.now (min c.args.byte_idx (size c.args.rope.now)) c.chunks.out c.chunks.count now c.of.result
    (omega (arith, c.chunks-test.true, i.room)) i.chunks i.next lent i.text c.chunk.ensures.own in record {
      text = ap joined c.prev.ensures.cost.texts ∙ i.text;
      chunks = set.chunks;
      filled = subst IsFilled (sym c.prev.ensures.cost.texts) i.filled;
      sized = set_sized c.args.rope.now c.chunks.out c.chunks.count now c.of.result (omega (arith, c.chunks-test.true, i.room)) i.sized lent
          i.text i.filled c.chunk.ensures.own c.chunk.ensures.piece;
      next = set.next c.prev.new.self (c.if-not-prev.ensures.moved refl ∙ sym lent.start);
      rest = set_rest c.chunks.out c.args.out.now c.chunks.count c.of.result i.rest;
      room = length-set c.chunks.out c.chunks.count c.of.result ∙ i.room;
    }
