use Rattle.std.proofs.Common.{subst}
use Rattle.str_indices.proofs.lemmas.Callers.{IsCharBoundary-from_boundary}
use Rattle.str_indices.specs.Relations.{IsBoundary}
use Rattle.text_tests.proofs.text_positions.text_of.Goals as goal

pub range-requires-clause-start_boundary : goal.range-requires-clause-start_boundary
range-requires-clause-start_boundary c = λ _.
    let bytes = c.in_ok-bytes.bytes in
    IsCharBoundary-from_boundary c.args.text.now c.utf8.text bytes.start
    (subst (λ cs. IsBoundary cs bytes.start) c.whole.ensures c.in_ok-bytes.ensures.boundaries.0)

pub range-requires-clause-end_boundary : goal.range-requires-clause-end_boundary
range-requires-clause-end_boundary c =
    let bytes = c.in_ok-bytes.bytes in
    IsCharBoundary-from_boundary c.args.text.now c.utf8.text bytes.end
    (subst (λ cs. IsBoundary cs bytes.end) c.whole.ensures c.in_ok-bytes.ensures.boundaries.1)
