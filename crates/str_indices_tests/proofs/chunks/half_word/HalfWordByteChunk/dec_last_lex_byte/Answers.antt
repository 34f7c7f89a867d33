use Rattle.str_indices_tests.proofs.Common.{arith, word_dec}
use Rattle.str_indices_tests.proofs.chunks.half_word.HalfWordByteChunk.dec_last_lex_byte.Goals as goal

pub returns : goal.returns
returns c = cc (word_dec 4 3 c.args.self.now.0 (omega arith) c.requires)
