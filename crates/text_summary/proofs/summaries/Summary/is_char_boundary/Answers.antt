use Rattle.text_summary.proofs.lemmas.{◌∙◌, ap, arith, sym, chars, boundary-le, each_byte_is_boundary, IsCharBoundary-from_boundary}
use Rattle.std.proofs.lemmas.Bool.{leb-true, le-leb}
use Rattle.str_indices.proofs.lemmas.Callers.{IsBoundary-from_char_boundary}
use Rattle.text_summary.proofs.summaries.Summary.is_char_boundary.Goals as goal

pub returns-then-self : goal.returns-then-self
returns-then-self c =
    let same = c.if-self.true in
    let cs = chars c.args.text.now in
    let len = ap (λ m. m.len) c.requires in (
      λ within. each_byte_is_boundary cs (sym (ap (λ m. m.chars) c.requires) ∙ same ∙ len) c.args.byte_idx
          (omega (arith, leb-true c.args.byte_idx c.args.self.now.len within, len)),
      λ at. le-leb c.args.byte_idx c.args.self.now.len (omega (arith, boundary-le cs c.args.byte_idx at, len)),
    )

pub returns-else-self : goal.returns-else-self
returns-else-self c =
    let bytes = c.args.text.now in
    let at = c.args.byte_idx in (
      λ is. IsBoundary-from_char_boundary bytes c.utf8.text at (c.is_char_boundary.ensures.test.0 is),
      λ is. c.is_char_boundary.ensures.test.1 (IsCharBoundary-from_boundary bytes c.utf8.text at is),
    )
