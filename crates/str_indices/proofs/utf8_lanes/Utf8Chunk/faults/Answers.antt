use Rattle.str_indices.proofs.lemmas.{arith, get_or}
use Rattle.str_indices.proofs.lemmas.Utf8Lanes.{faults_room, faults_added, faults_are_bytes, faults_tell, bytes_below, compared_fits}
use Rattle.str_indices.specs.Utf8Lanes.{is_long}
use Rattle.str_indices.proofs.utf8_lanes.Utf8Chunk.faults.Goals as goal

pub add-bounds-requires : goal.add-bounds-requires
add-bounds-requires g c = faults_room 2 2 c.min_faults.ensures c.max_faults.ensures (omega arith)

pub add-requires : goal.add-requires
add-requires g c = faults_room 2 2 c.due_faults-due.ensures c.lead_faults.ensures (omega arith)

pub add-requires-2 : goal.add-requires-2
add-requires-2 g c =
    faults_room 4 4 (faults_added 2 2 c.due_faults-due.ensures c.lead_faults.ensures c.add.ensures)
    (faults_added 2 2 c.min_faults.ensures c.max_faults.ensures c.add-bounds.ensures) (omega arith)

pub returns-clause-bytes : goal.returns-clause-bytes
returns-clause-bytes g c =
    let faults = faults_added 4 4 (faults_added 2 2 c.due_faults-due.ensures c.lead_faults.ensures c.add.ensures)
    (faults_added 2 2 c.min_faults.ensures c.max_faults.ensures c.add-bounds.ensures) c.add-2.ensures in
    faults_are_bytes (omega arith) faults

pub returns-clause-lanes : goal.returns-clause-lanes
returns-clause-lanes g c =
    let t = g.Self.ByteChunk in
    let faults = faults_added 4 4 (faults_added 2 2 c.due_faults-due.ensures c.lead_faults.ensures c.add.ensures)
    (faults_added 2 2 c.min_faults.ensures c.max_faults.ensures c.add-bounds.ensures) c.add-2.ensures in
    faults_tell faults (λ j l. compared_fits
    (is_long (get_or (t.lanes c.args.three_back) j 0) (get_or (t.lanes c.args.two_back) j 0))
    (get_or (t.lanes c.args.one_back) j 0) (get_or (t.lanes c.args.here) j 0)
    (bytes_below c.requires.one j) (bytes_below c.requires.here j))
