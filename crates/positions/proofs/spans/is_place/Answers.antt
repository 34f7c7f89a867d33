use Rattle.positions.proofs.lemmas.{◌≡◌, ◌+◌, ◌-◌, ◌<◌, ◌≤◌, ◌⊎◌, inl, inr, arith, chars, size, IsBoundary, boundary_in, boundary_of, boundary_within}
use Rattle.std.proofs.Common.{true, false, sym, ◌∙◌, eq-eqb, eqb-true}
use Rattle.positions.proofs.spans.is_place.Goals as goal

pub returns-then-is_boundary : goal.returns-then-is_boundary
returns-then-is_boundary c cs e is round =
    let part = c.args.part.now in
    let own = chars part.text.now in
    let at = c.args.at in
    let inside : (at < size own) ⊎ (part.start + size own ≡ size cs) = elim round.before [
      | inl before ↦ inl (omega (arith, before))
      | inr last ↦ inr last
    ] in
    let boundary = boundary_in cs is.front own is.back part.start is.split is.start at (c.is_boundary.ensures.0 c.if-is_boundary.true) in
    elim (c.crlf_offset.ensures cs c.args.lines e is inside) [
      | inl behind ↦ (
        (λ none. absurd (omega (arith, behind.0, eqb-true c.crlf_offset.result 0 none))),
        (λ place. absurd (place.1 behind.1)),
      )
      | inr none ↦ ((λ _. (boundary, λ both. none.1 both.0 both.1)), λ _. eq-eqb c.crlf_offset.result 0 none.0)
    ]

pub returns-else-is_boundary : goal.returns-else-is_boundary
returns-else-is_boundary c cs e is round =
    let part = c.args.part.now in
    let own = chars part.text.now in
    let at = c.args.at in
    let there : part.start + at - part.start ≡ at = omega arith in (
      (λ yes. let clash : false ≡ true = sym c.if-is_boundary.false ∙ yes in cc),
      (λ place.
          let within : part.start + at ≤ part.start + size own = elim round.before [
            | inl before ↦ omega (arith, before)
            | inr last ↦ omega (arith, last, boundary_within cs (part.start + at) place.0)
          ] in
          let of : IsBoundary own at = rw there at
          (boundary_of cs is.front own is.back part.start is.split is.start (part.start + at) place.0 (omega arith) within) in
          c.is_boundary.ensures.1 of),
    )
