use Rattle.str_indices.proofs.lemmas.{is_byte, bit_and, lanes_map, masked_lanes}
use Rattle.str_indices.proofs.utf8_lanes.mark_byte.Goals as goal

pub returns : goal.returns
returns g c =
    let t = g.T.ByteChunk in
    lanes_map (λ lane. is_byte c.args.byte (bit_and lane c.args.mask)) (t.lanes c.args.chunk) c.requires
    (masked_lanes c.args.mask c.args.byte t.SIZE (t.lanes c.args.chunk) (t.lanes c.splat.result)
    (t.lanes c.bitand.result) (t.lanes c.cmp_eq_byte.result)
    c.requires c.splat.ensures c.bitand.ensures c.cmp_eq_byte.ensures)
