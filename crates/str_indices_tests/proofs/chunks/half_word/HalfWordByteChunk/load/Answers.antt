use Rattle.str_indices_tests.proofs.Common.{arith, word_load}
use Rattle.str_indices_tests.proofs.chunks.half_word.HalfWordByteChunk.load.Goals as goal

pub returns : goal.returns
returns c = word_load 4 c.from_le_bytes.result c.args.bytes.now c.requires (λ i. (c.type_inv.bytes i).fits)
    (omega (arith, c.from_le_bytes.ensures))
