use Rattle.str_indices.proofs.lemmas.{bits_exchanged, inside_counted, masked_lanes, next_lines_fit, no_wide, sums_long, sums_small, room_exchanged, sums_exchanged}
use Rattle.str_indices.proofs.lines.add_wide_breaks.Goals as goal

pub returns-then-is_zero-clause-lanes : goal.returns-then-is_zero-clause-lanes
returns-then-is_zero-clause-lanes g c =
    let chunk = g.T.ByteChunk in
    let firsts = masked_lanes 0xDF 0xC2 chunk.SIZE (chunk.lanes c.args.chunk) _ _ _ c.requires.chunk.long c.splat.ensures
    (search (c.bitand.ensures, bits_exchanged)) c.cmp_eq_byte-firsts.ensures in
    no_wide g.met.T.ByteChunk.lawful.least c.requires.chunk firsts (c.is_zero.ensures.0 c.if-is_zero.true)
    c.requires.counted

pub add-with_next_lines-requires : goal.add-with_next_lines-requires
add-with_next_lines-requires g c =
    search (
      next_lines_fit g.met.T.ByteChunk.lawful.least c.requires.chunk c.requires.counted c.pair_starts.ensures,
      room_exchanged,
    )

pub add_separators-inside-requires-clause-as_long : goal.add_separators-inside-requires-clause-as_long
add_separators-inside-requires-clause-as_long g c = sums_long g.met.T.ByteChunk.lawful.least c.requires.chunk
    c.requires.counted c.pair_starts.ensures (search (c.add-with_next_lines.ensures, sums_exchanged))

pub add_separators-inside-requires-clause-room : goal.add_separators-inside-requires-clause-room
add_separators-inside-requires-clause-room g c = sums_small g.met.T.ByteChunk.lawful.least c.requires.chunk
    c.requires.counted c.pair_starts.ensures (search (c.add-with_next_lines.ensures, sums_exchanged))

pub add_at_edge-requires-clause-counted : goal.add_at_edge-requires-clause-counted
add_at_edge-requires-clause-counted g c = inside_counted g.met.T.ByteChunk.lawful.least c.requires.chunk
    c.requires.counted c.pair_starts.ensures (search (c.add-with_next_lines.ensures, sums_exchanged)) c.add_separators-inside.ensures
