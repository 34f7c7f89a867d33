use Rattle.str_indices.proofs.lemmas.{arith, search_from}
use Rattle.str_indices.proofs.passes.find_from.Goals as goal

pub returns-clause-reads : goal.returns-clause-reads
returns-clause-reads g c =
    search_from g.met.T.ByteChunk.lawful.least c.skip_unreachable-after_sure.ensures.onward
    c.skip_groups-after_groups.ensures.onward c.skip_chunks-after_chunks.ensures.onward c.find_in_last.ensures.reached.0
    c.skip_unreachable-after_sure.ensures.reads c.skip_groups-after_groups.ensures.reads (omega arith)
    c.skip_chunks-after_chunks.ensures.reads c.find_in_last.ensures.reads
