-- Chunks of a text that follow each other, as C has them, in the order of the text or backwards.
--     end_of c                            the byte index where a chunk ends
--     IsSized text c                      it has as many bytes as a chunk of a rope with that text
--     AreChunksFrom text at chunks        each begins where the one before it ends, the first at a byte index
--     AreChunksAt text at chunks          the same, where that byte is in the first
--     end_after at chunks                 where the last of them ends; that byte index where there is none
--     AreChunksTo text at chunks          each ends where the one before it begins, the first at a byte index
--     AreChunksBefore text at chunks      the same, where the byte before that index is in the first
--     start_after at chunks               where the last of them begins; that byte index where there is none
use Rattle.std.specs.Prelude.{ℕ, ◌≡◌, ◌+◌, ◌-◌, ◌<◌, ◌≤◌, List, [], ◌∷◌, chars}
use Rattle.str_indices.specs.Text.{Text, size}
use Rattle.text_rope.specs.Chunks.{IsChunkAt}
use Rattle.text_rope.specs.ChunkSizes.{max_chunk, IsFull}
use Rattle.text_rope_c.specs.declared.reads.Chunk.{Chunk}

abbrev pub text_of : Chunk → Text
text_of c = chars c.text.now

abbrev pub end_of : Chunk → ℕ
end_of c = c.start + size (text_of c)

-- at most `max_chunk` bytes, and at least `min_chunk`, or all of the text
pub record IsSized (text : Text) (c : Chunk) : Type 0 where
  pub short : size (text_of c) ≤ max_chunk
  pub full : IsFull text (text_of c)

abbrev pub AreChunksFrom : Text → ℕ → List Chunk → Type 0
AreChunksFrom text at [] = Unit {0}
AreChunksFrom text at (c ∷ cs) = (c.start ≡ at) × IsChunkAt text (text_of c) c.start at × AreChunksFrom text (end_of c) cs

abbrev pub AreChunksAt : Text → ℕ → List Chunk → Type 0
AreChunksAt text at [] = Unit {0}
AreChunksAt text at (c ∷ cs) = IsChunkAt text (text_of c) c.start at × AreChunksFrom text (end_of c) cs

abbrev pub end_after : ℕ → List Chunk → ℕ
end_after at [] = at
end_after at (c ∷ cs) = end_after (end_of c) cs

abbrev pub AreChunksTo : Text → ℕ → List Chunk → Type 0
AreChunksTo text at [] = Unit {0}
AreChunksTo text at (c ∷ cs) = (end_of c ≡ at) × IsChunkAt text (text_of c) c.start c.start × AreChunksTo text c.start cs

abbrev pub AreChunksBefore : Text → ℕ → List Chunk → Type 0
AreChunksBefore text at [] = Unit {0}
AreChunksBefore text at (c ∷ cs) = (0 < at) × IsChunkAt text (text_of c) c.start (at - 1) × AreChunksTo text c.start cs

abbrev pub start_after : ℕ → List Chunk → ℕ
start_after at [] = at
start_after at (c ∷ cs) = start_after c.start cs
