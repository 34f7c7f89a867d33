use Rattle.str_indices.proofs.lemmas.{arith}
use Rattle.str_indices.proofs.lemmas.Utf8Lanes.{ascii_of_mask}
use Rattle.str_indices.proofs.utf8_lanes.SimdU832Utf8Chunk.is_ascii.Goals as goal

pub returns : goal.returns
returns c = ascii_of_mask 32 c.args.self c.fits-self.0 (omega arith)
