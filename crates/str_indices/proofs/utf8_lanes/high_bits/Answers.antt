use Rattle.str_indices.proofs.lemmas.Utf8Lanes.{high_nibbles}
use Rattle.str_indices.proofs.utf8_lanes.high_bits.Goals as goal

pub returns : goal.returns
returns g c = high_nibbles c.args.bytes c.fits-bytes
