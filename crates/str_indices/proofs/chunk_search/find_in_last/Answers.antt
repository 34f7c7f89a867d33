use Rattle.str_indices.proofs.lemmas.{arith, compared, found_place, marks_small}
use Rattle.str_indices.proofs.chunk_search.find_in_last.Goals as goal

pub overflow_cast-after : goal.overflow_cast-after
overflow_cast-after g c =
    let few = rw (c.MOST.ensures, c.SIZE-else-len-SIZE.ensures) at c.if-MOST-SIZE.false in
    omega (arith, compared c.lanes_up_to-lanes.ensures.lanes few c.sum_bytes-total.ensures)

pub bytes_between_127-above-requires-clause-ordered : goal.bytes_between_127-above-requires-clause-ordered
bytes_between_127-above-requires-clause-ordered g c =
    let few = rw (c.MOST.ensures, c.SIZE-else-len-SIZE.ensures) at c.if-MOST-SIZE.false in
    omega (arith, compared c.lanes_up_to-lanes.ensures.lanes few c.sum_bytes-total.ensures)

pub sum_bytes-requires : goal.sum_bytes-requires
sum_bytes-requires g c =
    rw c.bytes_between_127-above.ensures (marks_small _ _ g.T.ByteChunk.MAX_ACC g.met.T.ByteChunk.lawful.room _)

pub overflow_sub-result-2 : goal.overflow_sub-result-2
overflow_sub-result-2 g c =
    let lanes = rw c.len-len.ensures.len at c.lanes_up_to-lanes.ensures.lanes in
    let few = rw (c.MOST.ensures, c.SIZE-else-len-SIZE.ensures) at c.if-MOST-SIZE.false in
    let place = found_place lanes (omega arith, omega arith) (omega arith) c.requires.searches.counted c.requires.searches.at_most
    c.sum_bytes-total.ensures c.if-total-more.false few c.sums_to_end.ensures
    (rw c.bytes_between_127-above.ensures at c.sum_bytes.ensures) in
    omega (arith, place.some)

pub overflow_add-result : goal.overflow_add-result
overflow_add-result g c =
    let lanes = rw c.len-len.ensures.len at c.lanes_up_to-lanes.ensures.lanes in
    let few = rw (c.MOST.ensures, c.SIZE-else-len-SIZE.ensures) at c.if-MOST-SIZE.false in
    let place = found_place lanes (omega arith, omega arith) (omega arith) c.requires.searches.counted c.requires.searches.at_most
    c.sum_bytes-total.ensures c.if-total-more.false few c.sums_to_end.ensures
    (rw c.bytes_between_127-above.ensures at c.sum_bytes.ensures) in
    omega (arith, place.some, place.within)

pub returns-clause-reached : goal.returns-clause-reached
returns-clause-reached g c =
    let lanes = rw c.len-len.ensures.len at c.lanes_up_to-lanes.ensures.lanes in
    let few = rw (c.MOST.ensures, c.SIZE-else-len-SIZE.ensures) at c.if-MOST-SIZE.false in
    let place = found_place lanes (omega arith, omega arith) (omega arith) c.requires.searches.counted c.requires.searches.at_most
    c.sum_bytes-total.ensures c.if-total-more.false few c.sums_to_end.ensures
    (rw c.bytes_between_127-above.ensures at c.sum_bytes.ensures) in
    let within = place.within in
    (omega (arith, place.some, within), omega (arith, place.some, within), omega (arith, place.some, within))

pub returns-clause-at_most : goal.returns-clause-at_most
returns-clause-at_most g c =
    let lanes = rw c.len-len.ensures.len at c.lanes_up_to-lanes.ensures.lanes in
    let few = rw (c.MOST.ensures, c.SIZE-else-len-SIZE.ensures) at c.if-MOST-SIZE.false in
    let place = found_place lanes (omega arith, omega arith) (omega arith) c.requires.searches.counted c.requires.searches.at_most
    c.sum_bytes-total.ensures c.if-total-more.false few c.sums_to_end.ensures
    (rw c.bytes_between_127-above.ensures at c.sum_bytes.ensures) in
    rw c.SIZE-3.ensures place.at_most

pub returns-clause-stopped : goal.returns-clause-stopped
returns-clause-stopped g c = λ inside near.
    let lanes = rw c.len-len.ensures.len at c.lanes_up_to-lanes.ensures.lanes in
    let few = rw (c.MOST.ensures, c.SIZE-else-len-SIZE.ensures) at c.if-MOST-SIZE.false in
    let place = found_place lanes (omega arith, omega arith) (omega arith) c.requires.searches.counted c.requires.searches.at_most
    c.sum_bytes-total.ensures c.if-total-more.false few c.sums_to_end.ensures
    (rw c.bytes_between_127-above.ensures at c.sum_bytes.ensures) in
    rw c.SIZE-3.ensures (place.stopped (omega (arith, place.some, place.within)))
