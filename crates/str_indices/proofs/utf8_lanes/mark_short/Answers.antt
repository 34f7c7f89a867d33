use Rattle.str_indices.proofs.lemmas.{◌+◌, get_or, lanes_zip2, lanes_same}
use Rattle.str_indices.proofs.lemmas.Utf8Lanes.{flags_room, lanes_eq, bytes_below, short_lane}
use Rattle.str_indices.specs.Utf8Lanes.{is_masked}
use Rattle.str_indices.proofs.utf8_lanes.mark_short.Goals as goal

pub add-begun-requires : goal.add-begun-requires
add-begun-requires g c =
    let t = g.T.ByteChunk in
    flags_room (λ j. is_masked 0xF0 0xF0 (get_or (t.lanes c.args.three_back) j 0))
    (λ j. is_masked 0xE0 0xE0 (get_or (t.lanes c.args.two_back) j 0)) c.mark_byte.ensures c.mark_byte-2.ensures

pub returns : goal.returns
returns g c =
    let t = g.T.ByteChunk in
    lanes_same (lanes_eq 0 (lanes_zip2 (λ a b. a + b) c.mark_byte.ensures c.mark_byte-2.ensures c.add-begun.ensures) c.cmp_eq_byte.ensures)
    (λ j l. short_lane (get_or (t.lanes c.args.three_back) j 0) (get_or (t.lanes c.args.two_back) j 0)
    (bytes_below c.requires.three j) (bytes_below c.requires.two j))
