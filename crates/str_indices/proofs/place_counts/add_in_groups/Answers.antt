use Rattle.str_indices.proofs.lemmas.{◌*◌, ◌∙◌, ap, arith, length, groups_within, groups_and_rest, nothing_added, as_many, lanes_addable, lanes_added, nothing, chunk_read, weaken, parts_addable, parts_added, parts_end, parts_within, room_exchanged, subst, sums_exchanged, sym}
use Rattle.str_indices.proofs.place_counts.add_in_groups.Goals as goal

pub groups-init : goal.groups-init
groups-init g c = record {
  place = omega arith;
  lanes = as_many (omega arith) (nothing_added c.zero-lanes.ensures);
  carried = c.requires.carried;
  reads = weaken (nothing c.args.probe.now c.args.from) (omega arith) (omega arith) (omega arith) (omega arith);
}

pub add_chunks-group-requires-clause-room : goal.add_chunks-group-requires-clause-room
add_chunks-group-requires-clause-room g c =
    let one = groups_within 0 c.args.chunks c.GROUP-size.result g.C.PlaceCounts.MOST (omega arith) in
    omega (arith, one, c.requires.room)

pub add_chunks-group-requires-clause-seen : goal.add_chunks-group-requires-clause-seen
add_chunks-group-requires-clause-seen g c =
    let few = groups_within c.groups.counter c.args.chunks c.GROUP-size.result g.T.ByteChunk.SIZE (omega arith) in
    omega (arith, few, c.requires.seen, c.groups.invariant.place, ap length c.groups.invariant.reads.text_kept)

pub add-lanes-requires : goal.add-lanes-requires
add-lanes-requires g c =
    let so_far = c.groups.invariant in
    let more = rw so_far.reads.text_kept at c.add_chunks-group.ensures.lanes in
    let few = groups_within c.groups.counter c.args.chunks c.GROUP-size.result g.C.PlaceCounts.MOST (omega arith) in
    search (lanes_addable so_far.lanes more 255 (omega (arith, few, c.requires.room)), room_exchanged)

pub overflow_mul-at : goal.overflow_mul-at
overflow_mul-at g c =
    let one = groups_within 0 c.args.chunks c.GROUP-size.result g.T.ByteChunk.SIZE (omega arith) in
    rw c.SIZE.ensures (omega (arith, one, c.requires.seen, c.len.ensures.len))

pub overflow_add-at : goal.overflow_add-at
overflow_add-at g c =
    let few = groups_within c.groups.counter c.args.chunks c.GROUP-size.result g.T.ByteChunk.SIZE (omega arith) in
    rw c.SIZE.ensures (omega (arith, few, c.requires.seen, c.groups.invariant.place))

pub groups-preserved : goal.groups-preserved
groups-preserved g c =
    let so_far = c.groups.invariant in
    let group = c.add_chunks-group.ensures in
    rw c.SIZE.ensures (record {
      place = omega (arith, so_far.place);
      lanes = as_many (omega arith) (lanes_added so_far.lanes (rw so_far.reads.text_kept at group.lanes)
          (search (c.add-lanes.ensures, sums_exchanged)));
      carried = rw so_far.reads.text_kept at group.carried;
      reads = weaken (chunk_read (omega (arith, so_far.place)) so_far.reads group.reads) (omega arith) (omega arith)
          (omega arith) (omega arith);
    })

pub add_chunks-single-requires-clause-seen : goal.add_chunks-single-requires-clause-seen
add_chunks-single-requires-clause-seen g c =
    let so_far = c.groups.invariant in
    let within = parts_within c.args.from (c.groups.counter * c.GROUP-size.result) _ _
    (groups_and_rest _ _ c.groups.auto.counter-end c.groups-test.false) (sym so_far.place) c.args.end c.requires.seen.0 in
    rw so_far.reads.text_kept (within, c.requires.seen.1)

pub add-requires : goal.add-requires
add-requires g c =
    let so_far = c.groups.invariant in
    search (
      parts_addable {chunks = c.args.chunks} so_far.lanes (sym so_far.place)
          (rw so_far.reads.text_kept at c.add_chunks-single.ensures.lanes)
          (groups_and_rest _ _ c.groups.auto.counter-end c.groups-test.false) 255 (omega (arith, c.requires.room)),
      room_exchanged,
    )

pub returns-clause-lanes : goal.returns-clause-lanes
returns-clause-lanes g c =
    let so_far = c.groups.invariant in
    parts_added {chunks = c.args.chunks} so_far.lanes (sym so_far.place)
    (rw so_far.reads.text_kept at c.add_chunks-single.ensures.lanes)
    (groups_and_rest _ _ c.groups.auto.counter-end c.groups-test.false)
    {sums = g.T.ByteChunk.lanes c.add.result} (search (c.add.ensures, sums_exchanged))

pub returns-clause-carried : goal.returns-clause-carried
returns-clause-carried g c =
    let so_far = c.groups.invariant in
    let all = groups_and_rest _ _ c.groups.auto.counter-end c.groups-test.false in
    subst (λ at. g.C.PlaceCounts.carries c.args.probe.now.text at c.add_chunks-single.result.carry)
    (parts_end c.args.from (c.groups.counter * c.GROUP-size.result) _ g.T.ByteChunk.SIZE {chunks = c.args.chunks} all
    (sym so_far.place) ∙ omega arith)
    (rw so_far.reads.text_kept at c.add_chunks-single.ensures.carried)
