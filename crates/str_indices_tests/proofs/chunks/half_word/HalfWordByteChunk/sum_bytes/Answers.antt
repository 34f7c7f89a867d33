use Rattle.str_indices_tests.proofs.Common.{arith, word_sum}
use Rattle.str_indices_tests.proofs.chunks.half_word.HalfWordByteChunk.sum_bytes.Goals as goal

pub returns : goal.returns
returns c = omega (arith, word_sum 3 c.args.self.now.0 63 (omega arith) c.requires)
