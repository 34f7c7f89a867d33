use Rattle.str_indices.proofs.lemmas.{arith, IsCharBoundary-to_byte_idx, Lf, is_line_feed, mark-le, ones_steady, line_begins}
use Rattle.str_indices.proofs.lines_lf.to_byte_idx_impl.Goals as goal

pub find_first-requires-clause-steady : goal.find_first-requires-clause-steady
find_first-requires-clause-steady g c = ones_steady _ (λ j. mark-le is_line_feed _) _

pub returns-clause-answer : goal.returns-clause-answer
returns-clause-answer g c =
    let found = c.find_first.ensures in
    omega (arith, line_begins _ c.len.ensures.utf8 c.args.idx _ found.reached found.stopped found.first)

pub returns-clause-boundary : goal.returns-clause-boundary
returns-clause-boundary g c =
    IsCharBoundary-to_byte_idx Lf _ c.len.ensures.utf8 _ _
    (line_begins _ c.len.ensures.utf8 _ _ c.find_first.ensures.reached c.find_first.ensures.stopped c.find_first.ensures.first)
