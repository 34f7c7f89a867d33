use Rattle.str_indices.proofs.lemmas.{both_below, less_has_room, either_bytes, either_lanes}
use Rattle.str_indices.proofs.utf8_faults.either.Goals as goal

pub sub-requires : goal.sub-requires
sub-requires g c = both_below c.requires.a c.requires.b c.bitand.ensures

pub add-requires : goal.add-requires
add-requires g c = less_has_room c.requires.a c.requires.b c.bitand.ensures c.sub.ensures

pub returns-clause-bytes : goal.returns-clause-bytes
returns-clause-bytes g c = either_bytes c.requires.a c.requires.b c.bitand.ensures c.sub.ensures c.add.ensures

pub returns-clause-lanes : goal.returns-clause-lanes
returns-clause-lanes g c = either_lanes c.requires.a c.requires.b c.bitand.ensures c.sub.ensures c.add.ensures
