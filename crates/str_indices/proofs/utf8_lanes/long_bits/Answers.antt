use Rattle.str_indices.proofs.lemmas.Utf8Lanes.{long_lanes}
use Rattle.str_indices.proofs.utf8_lanes.long_bits.Goals as goal

pub returns : goal.returns
returns g c = long_lanes c.args.three_back c.args.two_back c.fits-three_back c.fits-two_back
