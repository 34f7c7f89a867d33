use Rattle.str_indices.proofs.lemmas.{ℕ, get_or, is_trailing}
use Rattle.str_indices.proofs.lemmas.Utf8Lanes.{flags_room, short_room, begun_room, right_room, wrong_room, due_shown}
use Rattle.str_indices.specs.Utf8Lanes.{is_masked}
use Rattle.str_indices.proofs.utf8_lanes.due_faults.Goals as goal

pub add-requires : goal.add-requires
add-requires g c =
    let t = g.T.ByteChunk in
    short_room (t.lanes c.args.three_back) (t.lanes c.args.two_back) (t.lanes c.args.one_back) (t.lanes c.args.here)
    c.mark_short.ensures c.mark_byte.ensures c.mark_byte-trails.ensures c.bitand-both.ensures

pub add-requires-2 : goal.add-requires-2
add-requires-2 g c =
    let z : ℕ → ℕ = λ j. get_or (g.T.ByteChunk.lanes c.args.one_back) j 0 in
    let b : ℕ → ℕ = λ j. get_or (g.T.ByteChunk.lanes c.args.here) j 0 in
    flags_room (λ j. is_masked 0xC0 0xC0 (z j)) (λ j. is_trailing (b j)) c.mark_byte-2.ensures c.mark_byte-trails.ensures

pub add-requires-3 : goal.add-requires-3
add-requires-3 g c =
    let t = g.T.ByteChunk in
    begun_room (t.lanes c.args.three_back) (t.lanes c.args.two_back) (t.lanes c.args.one_back) (t.lanes c.args.here)
    c.mark_short.ensures c.mark_byte.ensures c.mark_byte-trails.ensures c.bitand-both.ensures
    c.mark_byte-2.ensures c.add-2.ensures

pub sub-requires : goal.sub-requires
sub-requires g c =
    let t = g.T.ByteChunk in
    right_room (t.lanes c.args.three_back) (t.lanes c.args.two_back) (t.lanes c.args.one_back) (t.lanes c.args.here)
    c.mark_short.ensures c.mark_byte.ensures c.mark_byte-trails.ensures c.bitand-both.ensures
    c.mark_byte-2.ensures c.add-2.ensures c.add.ensures c.cmp_eq_byte-right.ensures c.splat.ensures

pub add-requires-4 : goal.add-requires-4
add-requires-4 g c =
    let t = g.T.ByteChunk in
    wrong_room (t.lanes c.args.three_back) (t.lanes c.args.two_back) (t.lanes c.args.one_back) (t.lanes c.args.here)
    c.mark_short.ensures c.mark_byte.ensures c.mark_byte-trails.ensures c.bitand-both.ensures
    c.mark_byte-2.ensures c.add-2.ensures c.add.ensures c.cmp_eq_byte-right.ensures c.splat.ensures
    c.sub.ensures c.add-3.ensures c.cmp_eq_byte-alone.ensures

pub returns : goal.returns
returns g c =
    let t = g.T.ByteChunk in
    due_shown (t.lanes c.args.three_back) (t.lanes c.args.two_back) (t.lanes c.args.one_back) (t.lanes c.args.here)
    c.mark_short.ensures c.mark_byte.ensures c.mark_byte-trails.ensures c.bitand-both.ensures
    c.mark_byte-2.ensures c.add-2.ensures c.add.ensures c.cmp_eq_byte-right.ensures c.splat.ensures
    c.sub.ensures c.add-3.ensures c.cmp_eq_byte-alone.ensures c.add-4.ensures
