use Rattle.std.specs.Prelude.{◌≡◌, All, drop, length, min, take}
use Rattle.text_rope.specs.ChunkSizes.{IsFilled}
use Rattle.text_summary.specs.Pieces.{joined}
use Rattle.str_indices.specs.Text.{size}
use Rattle.text_rope_c.specs.ChunkLists.{IsSized, AreChunksBefore}
use Rattle.text_rope_c.proofs.ChunkLists.{IsNextBefore}
use Rattle.text_rope_c.proofs.chunk_lists.put_chunks_before.Given as goal

-- the chunks down to here, and where the cursor is
abbrev pub invariant-chunks : goal.invariant-chunks
invariant-chunks l =
    let at = min l.fn.byte_idx (size l.fn.rope) in record {
      text : joined l.cursor.view.texts ≡ l.fn.rope;
      chunks : AreChunksBefore l.fn.rope at (take l.count l.out);
      filled : IsFilled l.cursor.view.texts;
      sized : All (IsSized l.fn.rope) (take l.count l.out);
      next : IsNextBefore l.fn.rope at (take l.count l.out) l.cursor;
      rest : drop l.count l.out ≡ drop l.count l.fn.out;
      room : length l.out ≡ length l.fn.out;
    }
