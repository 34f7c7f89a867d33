use Rattle.str_indices.proofs.lemmas.{◌≡◌, ◌+◌, chars, to_byte_idx, IsCharBoundary-to_byte_idx, Crlf, arith, break_start-le, ones_steady, crlf_line_begins}
use Rattle.str_indices.proofs.lines_crlf.to_byte_idx_impl.Goals.{Then-is_not_crlf_middle, Else-is_not_crlf_middle}
use Rattle.str_indices.proofs.lines_crlf.to_byte_idx_impl.Goals as goal

pub find_first-place-requires-clause-steady : goal.find_first-place-requires-clause-steady
find_first-place-requires-clause-steady g c = ones_steady _ (break_start-le c.args.probe.now.text) _

-- the line begins at the place at which the search stopped
at_place : (g : _) (c : Then-is_not_crlf_middle g)
    → c.find_first-place.result ≡ to_byte_idx Crlf (chars c.args.probe.now.text) c.args.idx
at_place g c =
    let place = c.find_first-place in
    let outside = rw place.ensures.reads.text_kept at c.is_not_crlf_middle.ensures.middle in
    let begins = crlf_line_begins c.args.probe.now.text c.len.ensures.utf8 c.args.idx place.result place.ensures.reached
    place.ensures.stopped place.ensures.first in
    grind (arith, outside, c.if-is_not_crlf_middle.true, begins)

-- or after the LF of a CRLF there
after_place : (g : _) (c : Else-is_not_crlf_middle g)
    → c.find_first-place.result + 1 ≡ to_byte_idx Crlf (chars c.args.probe.now.text) c.args.idx
after_place g c =
    let place = c.find_first-place in
    let inside = rw place.ensures.reads.text_kept at c.is_not_crlf_middle.ensures.middle in
    let begins = crlf_line_begins c.args.probe.now.text c.len.ensures.utf8 c.args.idx place.result place.ensures.reached
    place.ensures.stopped place.ensures.first in
    grind (arith, inside, c.if-is_not_crlf_middle.false, begins)

pub returns-then-is_not_crlf_middle-clause-answer : goal.returns-then-is_not_crlf_middle-clause-answer
returns-then-is_not_crlf_middle-clause-answer g c = at_place g c

pub returns-else-is_not_crlf_middle-clause-answer : goal.returns-else-is_not_crlf_middle-clause-answer
returns-else-is_not_crlf_middle-clause-answer g c = after_place g c

pub returns-then-is_not_crlf_middle-clause-boundary : goal.returns-then-is_not_crlf_middle-clause-boundary
returns-then-is_not_crlf_middle-clause-boundary g c =
    IsCharBoundary-to_byte_idx Crlf _ c.len.ensures.utf8 c.args.idx _ (at_place g c)

pub returns-else-is_not_crlf_middle-clause-boundary : goal.returns-else-is_not_crlf_middle-clause-boundary
returns-else-is_not_crlf_middle-clause-boundary g c =
    IsCharBoundary-to_byte_idx Crlf _ c.len.ensures.utf8 c.args.idx _ (after_place g c)
