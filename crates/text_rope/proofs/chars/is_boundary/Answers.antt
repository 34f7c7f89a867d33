use Rattle.text_rope.proofs.lemmas.{IsBoundary-from_char_boundary, IsCharBoundary-from_boundary}
use Rattle.text_rope.proofs.chars.is_boundary.Goals as goal

pub returns : goal.returns
returns c =
    let bytes = c.args.text.now in
    let test = c.is_char_boundary.ensures.test in (
      λ is. IsBoundary-from_char_boundary bytes c.utf8.text c.args.at (test.0 is),
      λ is. test.1 (IsCharBoundary-from_boundary bytes c.utf8.text c.args.at is),
    )
