use Rattle.byte_chunk.proofs.lemmas.{rules, arith, is_byte, map_of-calls}
use Rattle.byte_chunk.proofs.chunks.plain_array.PlainByteChunk.cmp_eq_byte.Goals as goal

pub returns : goal.returns
returns c =
    map_of-calls (is_byte c.args.byte) 8 c.args.self.now.0 c.map.result (λ lane bit left call. search rules)
    (omega arith) c.map.ensures.items
