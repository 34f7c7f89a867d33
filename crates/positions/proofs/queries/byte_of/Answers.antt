use Rattle.positions.proofs.lemmas.{zero-add, taken_after}
use Rattle.positions.proofs.queries.byte_of.Goals as goal

pub returns-clause-cost : goal.returns-clause-cost
returns-clause-cost g c =
    let first = c.line_in-start.ensures.cost in
    rw (first.unit_searches, zero-add) at (taken_after first c.byte_on.ensures.cost)
