use Rattle.byte_chunk.proofs.lemmas.{arith, word_shr}
use Rattle.byte_chunk.proofs.chunks.double_word.U128ByteChunk.shr.Goals as goal

pub returns : goal.returns
returns c = cc (word_shr 16 c.args.n c.args.self.now (omega arith))
