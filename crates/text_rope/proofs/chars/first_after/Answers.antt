use Rattle.text_rope.proofs.lemmas.{IsCharBoundary-from_boundary, first_of, none_of_bytes}
use Rattle.text_rope.proofs.chars.first_after.Goals as goal

pub range_from-requires : goal.range_from-requires
range_from-requires c above = IsCharBoundary-from_boundary c.args.text.now c.utf8.text c.args.at c.requires

pub returns-clause-some : goal.returns-clause-some
returns-clause-some c =
    let bytes = c.args.text.now in
    first_of bytes c.utf8.text c.args.at c.range_from.result.now c.next.new.self.rest.now _
    (IsCharBoundary-from_boundary bytes c.utf8.text c.args.at c.requires) c.range_from.ensures.value c.next.result
    (rw c.chars.ensures.rest at c.next.ensures.steps.0)

pub returns-clause-none : goal.returns-clause-none
returns-clause-none c =
    let bytes = c.args.text.now in
    none_of_bytes bytes c.utf8.text c.args.at c.range_from.result.now c.next.new.self.rest.now _
    (IsCharBoundary-from_boundary bytes c.utf8.text c.args.at c.requires).0 c.range_from.ensures.value c.next.result
    (rw c.chars.ensures.rest at c.next.ensures.steps.0)
