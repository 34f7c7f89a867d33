use Rattle.str_indices.proofs.lemmas.{ascii_lanes}
use Rattle.str_indices.proofs.utf8_lanes.Utf8Chunk.is_ascii.Goals as goal

pub returns : goal.returns
returns g c =
    let ascii = ascii_lanes c.requires c.splat.ensures c.bitand.ensures in
    (λ zero. ascii.0 (c.is_zero.ensures.0 zero), λ small. c.is_zero.ensures.1 (ascii.1 small))
