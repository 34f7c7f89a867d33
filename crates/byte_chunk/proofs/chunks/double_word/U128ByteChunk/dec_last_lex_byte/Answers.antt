use Rattle.byte_chunk.proofs.lemmas.{arith, word_dec}
use Rattle.byte_chunk.proofs.chunks.double_word.U128ByteChunk.dec_last_lex_byte.Goals as goal

pub returns : goal.returns
returns c = cc (word_dec 16 15 c.args.self.now (omega arith) c.requires)
