use Rattle.str_indices.proofs.lemmas.{arith, window_one, window_two, window_three, before_next, both_follow, chunk_follows, chunk_fault}
use Rattle.str_indices.proofs.utf8_faults.check_chunk.Goals as goal

pub returns-then-is_zero-clause-ok : goal.returns-then-is_zero-clause-ok
returns-then-is_zero-clause-ok g c =
    let some = g.met.T.ByteChunk.lawful.least in
    let one = c.shift_across-one_back.ensures in
    let two = c.shift_across-two_back.ensures in
    let three = c.shift_across-three_back.ensures in
    let r = c.requires in
    let is_one = window_one some r.before r.chunk one two three in
    let is_two = window_two some r.before r.chunk one two three in
    let is_three = window_three some r.before r.chunk one two three in
    let faults = g.T.ByteChunk.lanes c.faults-faults.result in (
      both_follow c.args.probe.now.text r.follow (chunk_follows faults is_three is_two is_one r.chunk c.faults-faults.ensures.lanes (c.is_zero.ensures.0 c.if-is_zero.true)),
      before_next some r.before r.chunk one two three,
    )

pub overflow_add-result : goal.overflow_add-result
overflow_add-result g c = search arith

pub returns-clause-err : goal.returns-clause-err
returns-clause-err g c =
    let some = g.met.T.ByteChunk.lawful.least in
    let one = c.shift_across-one_back.ensures in
    let two = c.shift_across-two_back.ensures in
    let three = c.shift_across-three_back.ensures in
    let r = c.requires in
    let is_one = window_one some r.before r.chunk one two three in
    let is_two = window_two some r.before r.chunk one two three in
    let is_three = window_three some r.before r.chunk one two three in
    let faults = g.T.ByteChunk.lanes c.faults-faults.result in
    let first = c.first_lane.ensures in
    chunk_fault faults is_three is_two is_one r.chunk c.faults-faults.ensures.lanes c.first_lane.result first.within r.within
    first.zeros first.first r.follow
