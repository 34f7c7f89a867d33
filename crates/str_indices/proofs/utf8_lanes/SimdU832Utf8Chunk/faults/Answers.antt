use Rattle.str_indices.proofs.lemmas.Utf8Lanes.{table_bytes, table_tells}
use Rattle.str_indices.proofs.utf8_lanes.SimdU832Utf8Chunk.faults.Goals as goal

pub returns-clause-bytes : goal.returns-clause-bytes
returns-clause-bytes c =
    table_bytes c.args.three_back c.args.two_back c.args.one_back c.args.here c.fits-one_back c.fits-here
    c.high_bits.ensures c.low_bits.ensures c.high_bits-2.ensures c.look_up_32.ensures c.look_up_32-2.ensures c.look_up_32-3.ensures
    c.long_bits.ensures

pub returns-clause-lanes : goal.returns-clause-lanes
returns-clause-lanes c =
    table_tells c.args.three_back c.args.two_back c.args.one_back c.args.here c.fits-one_back c.fits-here
    c.high_bits.ensures c.low_bits.ensures c.high_bits-2.ensures c.look_up_32.ensures c.look_up_32-2.ensures c.look_up_32-3.ensures
    c.long_bits.ensures
