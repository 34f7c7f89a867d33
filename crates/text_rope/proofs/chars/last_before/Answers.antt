use Rattle.std.proofs.Common.{arith}
use Rattle.text_rope.proofs.lemmas.{IsCharBoundary-from_boundary, last_of}
use Rattle.text_rope.proofs.chars.last_before.Goals as goal

pub range-requires-clause-end_boundary : goal.range-requires-clause-end_boundary
range-requires-clause-end_boundary c =
    IsCharBoundary-from_boundary c.args.text.now c.utf8.text c.args.at c.requires

pub returns-clause-some : goal.returns-clause-some
returns-clause-some c =
    let bytes = c.args.text.now in
    let at = c.args.at in
    let floor = c.floor_char_boundary-start in
    let part = c.range in
    let below = c.saturating_sub.result in
    last_of bytes c.utf8.text at floor.result below part.result.now c.next.new.self.rest.now _
    (IsCharBoundary-from_boundary bytes c.utf8.text at c.requires) floor.ensures.boundary floor.ensures.bound
    (omega (arith, c.saturating_sub.ensures)) floor.ensures.nearest part.ensures.value
    (omega (arith, part.ensures.len)) c.next.result (rw c.chars.ensures.rest at c.next.ensures.steps.0)
