use Rattle.str_indices.proofs.lemmas.Utf8Lanes.{table_bytes, table_tells}
use Rattle.str_indices.proofs.utf8_lanes.SimdU816Utf8Chunk.faults.Goals as goal

pub returns-clause-bytes : goal.returns-clause-bytes
returns-clause-bytes c =
    table_bytes c.args.three_back c.args.two_back c.args.one_back c.args.here c.fits-one_back c.fits-here
    c.high_bits.ensures c.low_bits.ensures c.high_bits-2.ensures c.look_up_16.ensures c.look_up_16-2.ensures c.look_up_16-3.ensures
    c.long_bits.ensures

pub returns-clause-lanes : goal.returns-clause-lanes
returns-clause-lanes c =
    table_tells c.args.three_back c.args.two_back c.args.one_back c.args.here c.fits-one_back c.fits-here
    c.high_bits.ensures c.low_bits.ensures c.high_bits-2.ensures c.look_up_16.ensures c.look_up_16-2.ensures c.look_up_16-3.ensures
    c.long_bits.ensures
