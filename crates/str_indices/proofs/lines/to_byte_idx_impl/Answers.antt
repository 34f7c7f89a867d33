use Rattle.str_indices.proofs.lemmas.{IsCharBoundary-from_boundary, arith, ap, length, take, take_all, break_at-le, ones_steady, lines_line_begins}
use Rattle.str_indices.proofs.lines.to_byte_idx_impl.Goals as goal

pub find_first-place-requires-clause-steady : goal.find_first-place-requires-clause-steady
find_first-place-requires-clause-steady g c = ones_steady _ (break_at-le (take (length c.args.probe.now.text) c.args.probe.now.text)) _

pub returns-clause-answer : goal.returns-clause-answer
returns-clause-answer g c =
    let text = c.args.probe.now.text in
    let place = c.find_first-place in
    let found = c.boundary_at_or_after.ensures in
    let same = place.ensures.reads.text_kept in
    let whole = take_all (length text) text (omega arith) in
    let answer = lines_line_begins text c.len.ensures.utf8 c.args.idx place.result c.boundary_at_or_after.result
    found.reached.0 (omega (arith, found.reached.1, ap length same)) (rw same at found.boundary)
    (rw same at found.least) (rw whole at place.ensures.stopped) (rw whole at place.ensures.first) in
    omega (arith, answer)

pub returns-clause-boundary : goal.returns-clause-boundary
returns-clause-boundary g c = IsCharBoundary-from_boundary c.args.probe.now.text c.len.ensures.utf8 _
    (rw c.find_first-place.ensures.reads.text_kept at c.boundary_at_or_after.ensures.boundary)
