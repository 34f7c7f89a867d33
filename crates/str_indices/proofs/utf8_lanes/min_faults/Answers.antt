use Rattle.str_indices.proofs.lemmas.{ℕ, Bool, ◌&&◌, ◌==◌, get_or}
use Rattle.str_indices.proofs.lemmas.Utf8Lanes.{flags_room, flags_added}
use Rattle.str_indices.specs.Utf8Lanes.{is_masked}
use Rattle.str_indices.proofs.utf8_lanes.min_faults.Goals as goal

pub add-requires : goal.add-requires
add-requires g c =
    let t = g.T.ByteChunk in
    let after : ℕ → ℕ → ℕ → Bool =
    λ z mask j. get_or (t.lanes c.args.one_back) j 0 == z && is_masked mask 0 (get_or (t.lanes c.args.here) j 0) in
    flags_room (after 0xE0 0x20) (after 0xF0 0x30) c.mark_byte_after.ensures c.mark_byte_after-2.ensures

pub returns : goal.returns
returns g c =
    let t = g.T.ByteChunk in
    let after : ℕ → ℕ → ℕ → Bool =
    λ z mask j. get_or (t.lanes c.args.one_back) j 0 == z && is_masked mask 0 (get_or (t.lanes c.args.here) j 0) in
    flags_added (after 0xE0 0x20) (after 0xF0 0x30) c.mark_byte_after.ensures c.mark_byte_after-2.ensures c.add.ensures
