use Rattle.byte_chunk.proofs.lemmas.{◌-◌, ◌/◌, ◌%◌, ◌^◌, Fits, w8, map, ap, ◌∙◌, rules, arith, Each1-from_get_or, map_of-calls, low_bits_of_each}
use Rattle.byte_chunk.proofs.chunks.plain_array.PlainByteChunk.shr.Goals as goal

pub returns : goal.returns
returns c =
    let n = c.args.n in
    let these = c.args.self.now.0 in
    ap (map (λ lane. lane % 2 ^ (8 - n)))
    (map_of-calls (λ lane. lane / 2 ^ n) 8 these c.map.result (λ lane bits left call. search rules) (omega arith)
    c.map.ensures.items)
    ∙ low_bits_of_each n these (omega arith) (Each1-from_get_or (Fits w8) these 0 (λ i below. search rules))
