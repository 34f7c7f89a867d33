use Rattle.str_indices_tests.proofs.Common.{arith, word_shr}
use Rattle.str_indices_tests.proofs.chunks.half_word.HalfWordByteChunk.shr.Goals as goal

pub returns : goal.returns
returns c = cc (word_shr 4 c.args.n c.args.self.now.0 (omega arith))
