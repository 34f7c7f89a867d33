use Rattle.positions.proofs.lemmas.Callers.{join_of_middle, middle_of_join}
use Rattle.std.proofs.Common.{true≢false}
use Rattle.text_index.proofs.lemmas.{chars, sym, ◌∙◌, and_from, IsCharBoundary-from_boundary, IsBoundary-from_char_boundary, middle_is_boundary, and_parts}
use Rattle.text_index.proofs.places.is_middle.Goals as goal

pub returns-then-not-is_char_boundary : goal.returns-then-not-is_char_boundary
returns-then-not-is_char_boundary c =
    let bytes = c.args.text.now in
    let at = c.args.at in (
      λ is. absurd (true≢false (sym is)),
      λ middle. absurd (true≢false (sym (c.is_char_boundary.ensures.test.1 (IsCharBoundary-from_boundary bytes c.utf8.text at
          (middle_is_boundary (chars bytes) at middle))) ∙ c.if-not-is_char_boundary.true)),
    )

pub halves-requires : goal.halves-requires
halves-requires c = IsBoundary-from_char_boundary c.args.text.now c.utf8.text c.args.at
    (c.is_char_boundary.ensures.test.0 c.if-not-is_char_boundary.false)

pub returns-then-ends_cr : goal.returns-then-ends_cr
returns-then-ends_cr c =
    let cs = chars c.args.text.now in
    let front = chars c.halves.result.0.now in
    let back = chars c.halves.result.1.now in
    let parts = c.halves.ensures in
    let ends = sym c.ends_cr.ensures ∙ c.if-ends_cr.true in (
      λ is. middle_of_join cs front back c.args.at parts.parts parts.place
          (and_from _ _ ends (sym c.starts_lf.ensures ∙ is)),
      λ middle. c.starts_lf.ensures
          ∙ (and_parts _ _ (join_of_middle cs front back c.args.at parts.parts parts.place middle)).1,
    )

pub returns-else-ends_cr : goal.returns-else-ends_cr
returns-else-ends_cr c =
    let cs = chars c.args.text.now in
    let front = chars c.halves.result.0.now in
    let back = chars c.halves.result.1.now in
    let parts = c.halves.ensures in (
      λ is. absurd (true≢false (sym is ∙ c.if-ends_cr.false)),
      λ middle. c.ends_cr.ensures
          ∙ (and_parts _ _ (join_of_middle cs front back c.args.at parts.parts parts.place middle)).0,
    )
