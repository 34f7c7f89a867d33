use Rattle.byte_chunk.proofs.lemmas.{arith, word_load}
use Rattle.byte_chunk.proofs.chunks.double_word.U128ByteChunk.load.Goals as goal

pub returns : goal.returns
returns c = word_load 16 c.from_le_bytes.result c.args.bytes.now c.requires (λ i. (c.type_inv.bytes i).fits)
    (omega (arith, c.from_le_bytes.ensures))
