use Rattle.str_indices.proofs.lemmas.{◌≡◌, ◌+◌, ◌∙◌, ap, halves_end, lanes_of, lanes_zip2, length, length-map, masked_lanes, no_separators, separator_lanes, separators_fit, bits_exchanged, room_exchanged, sums_exchanged}
use Rattle.str_indices.proofs.lines.add_separators.Goals as goal

pub returns-then-is_zero : goal.returns-then-is_zero
returns-then-is_zero g c = no_separators _ g.met.T.ByteChunk.lawful.least c.requires.long c.requires.as_long
    c.requires.first (c.is_zero.ensures.0 c.if-is_zero.true)

pub add-requires : goal.add-requires
add-requires g c =
    let least = g.met.T.ByteChunk.lawful.least in
    let halves = g.T.ByteChunk.lanes c.shr.result in
    let long : length halves ≡ g.T.ByteChunk.SIZE = simp length-map at (ap length c.shr.ensures) ∙ c.requires.long in
    let ends = masked_lanes 0x7F 0x54 _ halves _ _ _ long c.splat.ensures (search (c.bitand.ensures, bits_exchanged))
    c.cmp_eq_byte-thirds.ensures ∙ halves_end _ halves c.shr.ensures in
    search (
      separators_fit _ least c.requires.long _ {found = g.T.ByteChunk.lanes c.bitand-found.result} c.requires.room
          (separator_lanes _ least c.requires.long c.pair_starts.ensures ends c.shift_back_lex.ensures
          (search (c.bitand-found.ensures, bits_exchanged))),
      room_exchanged,
    )

pub returns : goal.returns
returns g c =
    let halves = g.T.ByteChunk.lanes c.shr.result in
    let long : length halves ≡ g.T.ByteChunk.SIZE = simp length-map at (ap length c.shr.ensures) ∙ c.requires.long in
    let ends = masked_lanes 0x7F 0x54 _ halves _ _ _ long c.splat.ensures (search (c.bitand.ensures, bits_exchanged))
    c.cmp_eq_byte-thirds.ensures ∙ halves_end _ halves c.shr.ensures in
    lanes_zip2 (λ a b. a + b) {ys = g.T.ByteChunk.lanes c.bitand-found.result} (lanes_of c.requires.as_long)
    (separator_lanes _ g.met.T.ByteChunk.lawful.least c.requires.long c.pair_starts.ensures ends c.shift_back_lex.ensures
    (search (c.bitand-found.ensures, bits_exchanged))) (search (c.add.ensures, sums_exchanged))
