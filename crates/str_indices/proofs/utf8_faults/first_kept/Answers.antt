use Rattle.str_indices.proofs.lemmas.{◌≡◌, ◌++◌, ◌-◌, replicate, arith, left_out_and_kept}
use Rattle.str_indices.proofs.utf8_faults.first_kept.Goals as goal

pub returns : goal.returns
returns g c =
    let size = g.T.ByteChunk.SIZE in
    let table : c.as_flattened.result.now ≡ replicate 64 0xFF ++ replicate 64 0 = c.as_flattened.ensures.value in
    rw c.load.ensures (left_out_and_kept 0xFF 0 c.as_flattened.result.now 64 c.args.kept (size - c.args.kept) size table
    (omega (arith, c.requires)) g.met.T.ByteChunk.lawful.most)
