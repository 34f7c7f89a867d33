use Rattle.byte_chunk.proofs.lemmas.{◌-◌, ◌/◌, ◌%◌, ◌^◌, map, ap, ◌∙◌, arith, zip2_splat, low_bits_of_each}
use Rattle.byte_chunk.proofs.vectors.shr.Goals as goal

pub returns : goal.returns
returns g c =
    let n = c.args.n in
    let lanes = c.args.lanes in
    ap (map (λ lane. lane % 2 ^ (8 - n))) (zip2_splat (λ lane bits. lane / 2 ^ bits) lanes g.row.N n c.fits-lanes.0)
    ∙ low_bits_of_each n lanes (omega arith) c.fits-lanes.1
