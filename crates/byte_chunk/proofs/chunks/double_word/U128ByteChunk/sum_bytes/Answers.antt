use Rattle.byte_chunk.proofs.lemmas.{arith, word_sum}
use Rattle.byte_chunk.proofs.chunks.double_word.U128ByteChunk.sum_bytes.Goals as goal

pub returns : goal.returns
returns c = omega (arith, word_sum 15 c.args.self.now 15 (omega arith) c.requires)
