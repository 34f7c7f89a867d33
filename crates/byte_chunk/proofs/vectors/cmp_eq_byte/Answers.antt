use Rattle.byte_chunk.proofs.lemmas.{marks_of_byte}
use Rattle.byte_chunk.proofs.vectors.cmp_eq_byte.Goals as goal

pub returns : goal.returns
returns g c = marks_of_byte g.row.N c.args.byte c.args.lanes c.fits-lanes.0
