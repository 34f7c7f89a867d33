use Rattle.str_indices.proofs.lemmas.{mark, is_leading, begins_four_bytes, marks_addable, weights_added, room_exchanged, sums_exchanged}
use Rattle.str_indices.proofs.weights.UnitsByteWeight.in_lanes.Goals as goal

pub add-requires : goal.add-requires
add-requires g c =
    search (marks_addable is_leading begins_four_bytes _ c.in_lanes-leading.ensures c.in_lanes.ensures, room_exchanged)

pub returns : goal.returns
returns g c = weights_added (mark is_leading) (mark begins_four_bytes) _ c.in_lanes-leading.ensures
    c.in_lanes.ensures (search (c.add.ensures, sums_exchanged))
