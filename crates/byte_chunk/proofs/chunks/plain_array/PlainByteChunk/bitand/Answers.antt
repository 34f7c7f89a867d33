use Rattle.byte_chunk.proofs.lemmas.{bit_and, rules, arith, and_comm, zip2_of-calls}
use Rattle.byte_chunk.proofs.chunks.plain_array.PlainByteChunk.bitand.Goals as goal

pub returns : goal.returns
returns c =
    zip2_of-calls bit_and 8 c.args.self.now.0 c.args.other.0 c.from_fn.result
    (λ i lane left call. search (rules, and_comm)) (omega arith) (omega arith) c.from_fn.ensures.items
