use Rattle.byte_chunk.proofs.lemmas.{marks_between}
use Rattle.byte_chunk.proofs.vectors.bytes_between_127.Goals as goal

pub returns : goal.returns
returns g c = marks_between g.row.N c.args.a c.args.b c.args.lanes c.fits-lanes.0
