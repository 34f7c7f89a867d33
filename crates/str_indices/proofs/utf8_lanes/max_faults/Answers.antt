use Rattle.str_indices.proofs.lemmas.{ℕ, ◌&&◌, ◌==◌, not, get_or}
use Rattle.str_indices.proofs.lemmas.Utf8Lanes.{flags_room, flags_added, last_room, last_marks}
use Rattle.str_indices.specs.Utf8Lanes.{is_masked}
use Rattle.str_indices.proofs.utf8_lanes.max_faults.Goals as goal

pub sub-last-requires : goal.sub-last-requires
sub-last-requires g c =
    let z : ℕ → ℕ = λ j. get_or (g.T.ByteChunk.lanes c.args.one_back) j 0 in
    let b : ℕ → ℕ = λ j. get_or (g.T.ByteChunk.lanes c.args.here) j 0 in
    last_room z b c.mark_byte.ensures c.mark_byte_after.ensures

pub add-requires : goal.add-requires
add-requires g c =
    let z : ℕ → ℕ = λ j. get_or (g.T.ByteChunk.lanes c.args.one_back) j 0 in
    let b : ℕ → ℕ = λ j. get_or (g.T.ByteChunk.lanes c.args.here) j 0 in
    flags_room (λ j. z j == 0xED && is_masked 0x20 0x20 (b j))
    (λ j. is_masked 0xFC 0xF4 (z j) && not (z j == 0xF4 && is_masked 0x30 0 (b j))) c.mark_byte_after-2.ensures
    (last_marks z b c.mark_byte.ensures c.mark_byte_after.ensures c.sub-last.ensures)

pub returns : goal.returns
returns g c =
    let z : ℕ → ℕ = λ j. get_or (g.T.ByteChunk.lanes c.args.one_back) j 0 in
    let b : ℕ → ℕ = λ j. get_or (g.T.ByteChunk.lanes c.args.here) j 0 in
    flags_added (λ j. z j == 0xED && is_masked 0x20 0x20 (b j))
    (λ j. is_masked 0xFC 0xF4 (z j) && not (z j == 0xF4 && is_masked 0x30 0 (b j))) c.mark_byte_after-2.ensures
    (last_marks z b c.mark_byte.ensures c.mark_byte_after.ensures c.sub-last.ensures) c.add.ensures
