use Rattle.positions.proofs.lemmas.{arith, taken_after, taken_both, searched_before}
use Rattle.positions.proofs.spans.range_of.Goals as goal

pub returns-then-is_in-clause-cost : goal.returns-then-is_in-clause-cost
returns-then-is_in-clause-cost g c =
    let first = c.part_of_byte-part.ensures.cost in
    let start = c.position_from-start.ensures.cost in
    taken_both (searched_before first c.len-len.ensures.searched) (taken_after first start) c.position_from-end.ensures.cost
    (omega (arith, first.unit_searches, start.unit_searches)) (omega arith)

pub returns-else-is_in-clause-cost : goal.returns-else-is_in-clause-cost
returns-else-is_in-clause-cost g c =
    let first = c.part_of_byte-part.ensures.cost in
    let start = c.position_from-start.ensures.cost in
    taken_both (searched_before first c.len-len.ensures.searched) (taken_after first start) c.position_of-end.ensures.cost
    (omega (arith, first.unit_searches, start.unit_searches)) (omega arith)
