use Rattle.byte_chunk.proofs.lemmas.{arith, ◌-◌, word_inc, word_inc_fits, one_in_lane}
use Rattle.byte_chunk.proofs.chunks.double_word.U128ByteChunk.inc_nth_from_end_lex_byte.Goals as goal

pub overflow_add-result : goal.overflow_add-result
overflow_add-result c = record {
  fits = omega (
    arith,
    one_in_lane (15 - c.args.n) 128 (omega arith),
    word_inc_fits 16 (15 - c.args.n) c.args.self.now (omega arith) (omega arith) c.requires.room,
  );
}

pub returns : goal.returns
returns c = grind (
  arith,
  one_in_lane (15 - c.args.n) 128 (omega arith),
  word_inc 16 (15 - c.args.n) c.args.self.now (omega arith) c.requires.room,
)
