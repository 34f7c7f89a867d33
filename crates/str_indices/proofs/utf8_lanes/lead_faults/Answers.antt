use Rattle.str_indices.proofs.lemmas.{ℕ, get_or}
use Rattle.str_indices.proofs.lemmas.Utf8Lanes.{flags_room, flags_added}
use Rattle.str_indices.specs.Utf8Lanes.{is_masked}
use Rattle.str_indices.proofs.utf8_lanes.lead_faults.Goals as goal

pub add-requires : goal.add-requires
add-requires g c =
    let z : ℕ → ℕ = λ j. get_or (g.T.ByteChunk.lanes c.args.one_back) j 0 in
    flags_room (λ j. is_masked 0xFE 0xC0 (z j)) (λ j. is_masked 0xF8 0xF8 (z j)) c.mark_byte.ensures c.mark_byte-2.ensures

pub returns : goal.returns
returns g c =
    let z : ℕ → ℕ = λ j. get_or (g.T.ByteChunk.lanes c.args.one_back) j 0 in
    flags_added (λ j. is_masked 0xFE 0xC0 (z j)) (λ j. is_masked 0xF8 0xF8 (z j)) c.mark_byte.ensures c.mark_byte-2.ensures
    c.add.ensures
