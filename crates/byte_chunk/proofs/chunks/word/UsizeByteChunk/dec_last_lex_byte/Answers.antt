use Rattle.byte_chunk.proofs.lemmas.{arith, word_dec}
use Rattle.byte_chunk.proofs.chunks.word.UsizeByteChunk.dec_last_lex_byte.Goals as goal

pub returns : goal.returns
returns c = cc (word_dec 8 7 c.args.self.now (omega arith) c.requires)
