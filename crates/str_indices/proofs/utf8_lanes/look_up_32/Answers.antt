use Rattle.str_indices.proofs.lemmas.{arith}
use Rattle.str_indices.proofs.lemmas.Utf8Lanes.{table_ok, looked_up_twice}
use Rattle.str_indices.proofs.utf8_lanes.look_up_32.Goals as goal

pub swizzle : goal.swizzle
swizzle c = table_ok 2 c.args.at c.fits-at.0 c.requires

pub returns : goal.returns
returns c = looked_up_twice c.args.table c.args.at (omega arith) c.fits-at.0 c.requires
