use Rattle.text_index.proofs.lemmas.{sym, IsBoundary-from_char_boundary, IsCharBoundary-from_boundary}
use Rattle.text_index.proofs.borrowed.BorrowedIndex.is_char_boundary.Goals as goal

pub returns : goal.returns
returns c =
    let bytes = c.text-text.result.now in
    let utf8 = c.text-text.utf8 in
    let test = c.is_char_boundary.ensures.test in
    rw (sym c.text-text.ensures) (
      (λ is. IsBoundary-from_char_boundary bytes utf8 c.args.b (test.0 is)),
      (λ is. test.1 (IsCharBoundary-from_boundary bytes utf8 c.args.b is)),
    )
