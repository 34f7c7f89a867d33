use Rattle.byte_chunk.proofs.lemmas.{arith, word_sum}
use Rattle.byte_chunk.proofs.chunks.word.UsizeByteChunk.sum_bytes.Goals as goal

pub returns : goal.returns
returns c = omega (arith, word_sum 7 c.args.self.now 31 (omega arith) c.requires)
