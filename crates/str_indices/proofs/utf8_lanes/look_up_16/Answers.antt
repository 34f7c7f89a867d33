use Rattle.str_indices.proofs.lemmas.Utf8Lanes.{table_ok, looked_up_once}
use Rattle.str_indices.proofs.utf8_lanes.look_up_16.Goals as goal

pub swizzle : goal.swizzle
swizzle c = table_ok 1 c.args.at c.fits-at.0 c.requires

pub returns : goal.returns
returns c = looked_up_once c.args.table c.args.at c.fits-at.0 c.requires
