use Rattle.str_indices.proofs.lemmas.{◌-◌, add_comm, crlf_fits, narrow_crossing, narrow_kept, no_crlf}
use Rattle.str_indices.proofs.lines.count_narrow_breaks.Goals as goal

pub returns-then-is_zero-clause-lanes : goal.returns-then-is_zero-clause-lanes
returns-then-is_zero-clause-lanes g c = no_crlf g.met.T.ByteChunk.lawful.least c.requires.chunk
    c.bytes_between_127-ascii_breaks.ensures c.cmp_eq_byte.ensures (c.is_zero.ensures.0 c.if-is_zero.true)

pub sub-inside-requires : goal.sub-inside-requires
sub-inside-requires g c = crlf_fits g.met.T.ByteChunk.lawful.least c.requires.chunk
    c.bytes_between_127-ascii_breaks.ensures c.pair_starts.ensures

pub returns-then-starts_crlf-clause-lanes : goal.returns-then-starts_crlf-clause-lanes
returns-then-starts_crlf-clause-lanes g c = narrow_crossing g.met.T.ByteChunk.lawful.least c.requires.chunk
    c.bytes_between_127-ascii_breaks.ensures c.pair_starts.ensures c.sub-inside.ensures
    (cc (add_comm c.args.at (g.T.ByteChunk.SIZE - 1))) c.dec_last_lex_byte.ensures

pub returns-else-starts_crlf-clause-lanes : goal.returns-else-starts_crlf-clause-lanes
returns-else-starts_crlf-clause-lanes g c = narrow_kept g.met.T.ByteChunk.lawful.least c.requires.chunk
    c.bytes_between_127-ascii_breaks.ensures c.pair_starts.ensures c.sub-inside.ensures
    (cc (add_comm c.args.at (g.T.ByteChunk.SIZE - 1)))
