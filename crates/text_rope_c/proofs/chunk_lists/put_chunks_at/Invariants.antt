use Rattle.std.specs.Prelude.{◌≡◌, All, drop, length, take}
use Rattle.text_rope_c.specs.ChunkLists.{IsSized, AreChunksAt}
use Rattle.text_rope.specs.ChunkSizes.{IsFilled}
use Rattle.text_summary.specs.Pieces.{joined}
use Rattle.text_rope_c.proofs.ChunkLists.{IsNextAt}
use Rattle.text_rope_c.proofs.chunk_lists.put_chunks_at.Given as goal

-- the chunks up to here, and where the cursor is
abbrev pub invariant-chunks : goal.invariant-chunks
invariant-chunks l = record {
  text : joined l.cursor.view.texts ≡ l.fn.rope;
  chunks : AreChunksAt l.fn.rope l.fn.byte_idx (take l.count l.out);
  filled : IsFilled l.cursor.view.texts;
  sized : All (IsSized l.fn.rope) (take l.count l.out);
  next : IsNextAt l.fn.rope l.fn.byte_idx (take l.count l.out) l.cursor;
  rest : drop l.count l.out ≡ drop l.count l.fn.out;
  room : length l.out ≡ length l.fn.out;
}
