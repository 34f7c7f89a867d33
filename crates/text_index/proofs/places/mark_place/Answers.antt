use Rattle.std.proofs.Common.{true≢false}
use Rattle.text_index.proofs.lemmas.{chars, sym, ◌∙◌, arith, size-chars, IsBoundary-from_char_boundary, IsCharBoundary-from_boundary, boundary_near, whole_at_boundary, whole_before_middle}
use Rattle.text_index.proofs.places.mark_place.Goals as goal

pub returns-then-is_middle-clause-near : goal.returns-then-is_middle-clause-near
returns-then-is_middle-clause-near c =
    let bytes = c.args.text.now in
    let start = c.floor_char_boundary-start.result in
    let floor = c.floor_char_boundary-start.ensures in
    let near = boundary_near (chars bytes) c.args.at start (IsBoundary-from_char_boundary bytes c.utf8.text start floor.boundary)
    floor.bound (omega (arith, c.requires, size-chars bytes c.utf8.text))
    (λ q past le at. floor.nearest q past le (IsCharBoundary-from_boundary bytes c.utf8.text q at)) in
    omega (arith, near)

pub returns-else-is_middle-clause-near : goal.returns-else-is_middle-clause-near
returns-else-is_middle-clause-near c =
    let bytes = c.args.text.now in
    let start = c.floor_char_boundary-start.result in
    let floor = c.floor_char_boundary-start.ensures in
    let near = boundary_near (chars bytes) c.args.at start (IsBoundary-from_char_boundary bytes c.utf8.text start floor.boundary)
    floor.bound (omega (arith, c.requires, size-chars bytes c.utf8.text))
    (λ q past le at. floor.nearest q past le (IsCharBoundary-from_boundary bytes c.utf8.text q at)) in
    omega (arith, near)

pub returns-then-is_middle-clause-whole : goal.returns-then-is_middle-clause-whole
returns-then-is_middle-clause-whole c =
    whole_before_middle (chars c.args.text.now) c.floor_char_boundary-start.result (c.is_middle.ensures.0 c.if-is_middle.true)

pub returns-else-is_middle-clause-whole : goal.returns-else-is_middle-clause-whole
returns-else-is_middle-clause-whole c =
    let bytes = c.args.text.now in
    let start = c.floor_char_boundary-start.result in
    whole_at_boundary (chars bytes) start
    (IsBoundary-from_char_boundary bytes c.utf8.text start c.floor_char_boundary-start.ensures.boundary)
    (λ middle. true≢false (sym (c.is_middle.ensures.1 middle) ∙ c.if-is_middle.false))
