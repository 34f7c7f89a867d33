use Rattle.str_indices.proofs.lemmas.{◌+◌, ◌*◌, ◌∙◌, ap, arith, Each1-weaker, length, groups_within, groups_and_rest, nothing_added, as_many, lanes_addable, lanes_added, nothing, chunk_read, counted_there, weaken, parts_addable, parts_added, parts_end, parts_within, room_exchanged, subst, sum_below, sums_exchanged, sym}
use Rattle.str_indices.proofs.place_counts.count_in_steps.Goals as goal

pub steps-init : goal.steps-init
steps-init g c = record {
  place = omega arith;
  lanes = as_many (omega arith) (nothing_added c.zero-lanes.ensures);
  carried = c.requires.counts.carried;
  reads = weaken (nothing c.args.probe.now c.args.from.byte) (omega arith) (omega arith) (omega arith) (omega arith);
}

pub add_chunks-groups-requires-clause-room : goal.add_chunks-groups-requires-clause-room
add_chunks-groups-requires-clause-room g c =
    let one = groups_within 0 c.args.chunks c.args.step g.C.PlaceCounts.MOST (omega arith) in
    omega (arith, one, c.requires.summable, g.met.T.ByteChunk.lawful.fits)

pub add_chunks-groups-requires-clause-seen : goal.add_chunks-groups-requires-clause-seen
add_chunks-groups-requires-clause-seen g c =
    let few = groups_within c.steps.counter c.args.chunks c.args.step g.T.ByteChunk.SIZE (omega arith) in
    omega (arith, few, c.requires.seen, c.steps.invariant.place, ap length c.steps.invariant.reads.text_kept)

pub add-lanes-requires : goal.add-lanes-requires
add-lanes-requires g c =
    let so_far = c.steps.invariant in
    let more = rw so_far.reads.text_kept at c.add_chunks-groups.ensures.lanes in
    let few = groups_within c.steps.counter c.args.chunks c.args.step g.C.PlaceCounts.MOST (omega arith) in
    search (lanes_addable so_far.lanes more 255 (omega (arith, few, c.requires.summable, g.met.T.ByteChunk.lawful.fits)), room_exchanged)

pub overflow_mul-at : goal.overflow_mul-at
overflow_mul-at g c =
    let one = groups_within 0 c.args.chunks c.args.step g.T.ByteChunk.SIZE (omega arith) in
    rw c.SIZE.ensures (omega (arith, one, c.requires.seen, c.len.ensures.len))

pub overflow_add-at : goal.overflow_add-at
overflow_add-at g c =
    let few = groups_within c.steps.counter c.args.chunks c.args.step g.T.ByteChunk.SIZE (omega arith) in
    rw c.SIZE.ensures (omega (arith, few, c.requires.seen, c.steps.invariant.place))

pub steps-preserved : goal.steps-preserved
steps-preserved g c =
    let so_far = c.steps.invariant in
    let groups = c.add_chunks-groups.ensures in
    rw c.SIZE.ensures (record {
      place = omega (arith, so_far.place);
      lanes = as_many (omega arith) (lanes_added so_far.lanes (rw so_far.reads.text_kept at groups.lanes)
          (search (c.add-lanes.ensures, sums_exchanged)));
      carried = rw so_far.reads.text_kept at groups.carried;
      reads = weaken (chunk_read (omega (arith, so_far.place)) so_far.reads groups.reads) (omega arith) (omega arith)
          (omega arith) (omega arith);
    })

pub add_in_groups-rest-requires-clause-seen : goal.add_in_groups-rest-requires-clause-seen
add_in_groups-rest-requires-clause-seen g c =
    let so_far = c.steps.invariant in
    let within = parts_within c.args.from.byte (c.steps.counter * c.args.step) _ _
    (groups_and_rest _ _ c.steps.auto.counter-end c.steps-test.false) (sym so_far.place) c.args.end c.requires.seen.0 in
    rw so_far.reads.text_kept (within, c.requires.seen.1)

pub add-requires : goal.add-requires
add-requires g c =
    let so_far = c.steps.invariant in
    search (
      parts_addable {chunks = c.args.chunks} so_far.lanes (sym so_far.place)
          (rw so_far.reads.text_kept at c.add_in_groups-rest.ensures.lanes)
          (groups_and_rest _ _ c.steps.auto.counter-end c.steps-test.false) 255 (omega (arith, c.requires.summable, g.met.T.ByteChunk.lawful.fits)),
      room_exchanged,
    )

pub sum_bytes-requires : goal.sum_bytes-requires
sum_bytes-requires g c =
    let so_far = c.steps.invariant in
    let lanes = parts_added {chunks = c.args.chunks} so_far.lanes (sym so_far.place)
    (rw so_far.reads.text_kept at c.add_in_groups-rest.ensures.lanes)
    (groups_and_rest _ _ c.steps.auto.counter-end c.steps-test.false)
    {sums = g.T.ByteChunk.lanes c.add.result} (search (c.add.ensures, sums_exchanged)) in
    Each1-weaker _ _ (λ lane le. omega (arith, c.requires.summable, le)) _ lanes.small

pub overflow_add-result-2 : goal.overflow_add-result-2
overflow_add-result-2 g c =
    let so_far = c.steps.invariant in
    let lanes = parts_added {chunks = c.args.chunks} so_far.lanes (sym so_far.place)
    (rw so_far.reads.text_kept at c.add_in_groups-rest.ensures.lanes)
    (groups_and_rest _ _ c.steps.auto.counter-end c.steps-test.false)
    {sums = g.T.ByteChunk.lanes c.add.result} (search (c.add.ensures, sums_exchanged)) in
    let fits = c.requires.fits (c.args.from.byte + c.args.chunks * g.T.ByteChunk.SIZE)
    (omega (arith, c.requires.seen)) in
    omega (arith, lanes.added, c.sum_bytes.ensures, c.requires.counts.counted, fits, c.len.ensures.len)

pub returns-clause-counts : goal.returns-clause-counts
returns-clause-counts g c =
    let so_far = c.steps.invariant in
    let all = groups_and_rest _ _ c.steps.auto.counter-end c.steps-test.false in
    let lanes = parts_added {chunks = c.args.chunks} so_far.lanes (sym so_far.place)
    (rw so_far.reads.text_kept at c.add_in_groups-rest.ensures.lanes) all
    {sums = g.T.ByteChunk.lanes c.add.result} (search (c.add.ensures, sums_exchanged)) in
    let text = c.args.probe.now.text in
    rw c.SIZE-2.ensures (record {
      counted = counted_there (sum_below (g.C.PlaceCounts.counted_at c.args.end text))
          (c.args.from.byte + c.args.chunks * g.T.ByteChunk.SIZE) (omega arith)
          (omega (arith, lanes.added, c.sum_bytes.ensures, c.requires.counts.counted));
      carried = subst (λ at. g.C.PlaceCounts.carries text at c.add_in_groups-rest.result.carry)
          (parts_end c.args.from.byte (c.steps.counter * c.args.step) _ g.T.ByteChunk.SIZE {chunks = c.args.chunks} all
          (sym so_far.place) ∙ omega arith)
          (rw so_far.reads.text_kept at c.add_in_groups-rest.ensures.carried);
    })
