use Rattle.byte_chunk.proofs.lemmas.{rules, arith, is_between, map_of-calls}
use Rattle.byte_chunk.proofs.chunks.plain_array.PlainByteChunk.bytes_between_127.Goals as goal

pub returns : goal.returns
returns c =
    map_of-calls (is_between c.args.a c.args.b) 8 c.args.self.now.0 c.map.result (λ lane bit left call. search rules)
    (omega arith) c.map.ensures.items
