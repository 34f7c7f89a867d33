use Rattle.str_indices_tests.proofs.Common.{arith, ◌-◌, word_inc, word_inc_fits, one_in_lane}
use Rattle.str_indices_tests.proofs.chunks.half_word.HalfWordByteChunk.inc_nth_from_end_lex_byte.Goals as goal

pub overflow_add-result : goal.overflow_add-result
overflow_add-result c = record {
  fits = omega (
    arith,
    one_in_lane (3 - c.args.n) 32 (omega arith),
    word_inc_fits 4 (3 - c.args.n) c.args.self.now.0 (omega arith) (omega arith) c.requires.room,
  );
}

pub returns : goal.returns
returns c = cc (
  one_in_lane (3 - c.args.n) 32 (omega arith),
  word_inc 4 (3 - c.args.n) c.args.self.now.0 (omega arith) c.requires.room,
)
