use Rattle.str_indices.proofs.lemmas.{refl, arith, loaded_by, sums_fit, pairs_fit, starts_are, later_starts, last_is_return, bits_exchanged, room_exchanged, sums_exchanged}
use Rattle.str_indices.proofs.lines_crlf.BreakStartsPlaceCounts.count_lanes.Goals as goal

pub add-requires : goal.add-requires
add-requires g c =
    let loaded = loaded_by {text = c.args.arg1.now.text} c.requires.chunk c.requires.handed_on.there (omega (arith, c.requires.seen))
    g.met.T.ByteChunk.lawful.least in
    search (sums_fit c.cmp_eq_byte-returns.ensures c.cmp_eq_byte-feeds.ensures loaded, room_exchanged)

pub sub-requires : goal.sub-requires
sub-requires g c =
    let loaded = loaded_by {text = c.args.arg1.now.text} c.requires.chunk c.requires.handed_on.there (omega (arith, c.requires.seen))
    g.met.T.ByteChunk.lawful.least in
    pairs_fit c.cmp_eq_byte-returns.ensures c.cmp_eq_byte-feeds.ensures c.shift_across.ensures
    (search (c.bitand-pairs.ensures, bits_exchanged)) (search (c.add.ensures, sums_exchanged)) loaded

pub returns-clause-lanes : goal.returns-clause-lanes
returns-clause-lanes g c = λ carried.
    let loaded = loaded_by {text = c.args.arg1.now.text} c.requires.chunk carried (omega (arith, c.requires.seen)) g.met.T.ByteChunk.lawful.least in
    starts_are c.cmp_eq_byte-returns.ensures c.cmp_eq_byte-feeds.ensures c.shift_across.ensures
    (search (c.bitand-pairs.ensures, bits_exchanged)) (search (c.add.ensures, sums_exchanged)) loaded c.sub.ensures refl

pub returns-clause-later : goal.returns-clause-later
returns-clause-later g c =
    let loaded = loaded_by {text = c.args.arg1.now.text} c.requires.chunk c.requires.handed_on.there (omega (arith, c.requires.seen))
    g.met.T.ByteChunk.lawful.least in
    later_starts c.cmp_eq_byte-returns.ensures c.cmp_eq_byte-feeds.ensures c.shift_across.ensures
    (search (c.bitand-pairs.ensures, bits_exchanged)) (search (c.add.ensures, sums_exchanged)) loaded c.sub.ensures

pub returns-clause-carried : goal.returns-clause-carried
returns-clause-carried g c =
    let loaded = loaded_by {text = c.args.arg1.now.text} c.requires.chunk c.requires.handed_on.there (omega (arith, c.requires.seen))
    g.met.T.ByteChunk.lawful.least in
    last_is_return c.cmp_eq_byte-returns.ensures loaded
