use Rattle.str_indices.proofs.lemmas.{masked_lanes, bits_exchanged}
use Rattle.str_indices.proofs.weights.FourByteStartsByteWeight.in_lanes.Goals as goal

pub returns : goal.returns
returns g c =
    let chunk = g.T.ByteChunk in
    masked_lanes 0xF0 0xF0 chunk.SIZE (chunk.lanes c.args.chunk) (chunk.lanes c.splat.result)
    (chunk.lanes c.bitand.result) (chunk.lanes c.cmp_eq_byte.result)
    c.requires c.splat.ensures (search (c.bitand.ensures, bits_exchanged)) c.cmp_eq_byte.ensures
