use Rattle.std.proofs.lemmas.Bool.{eqb-true}
use Rattle.positions.proofs.lemmas.{false, IsTrue, inl, inr, arith, eqb-same, middle_bytes, middle_inside}
use Rattle.positions.proofs.middles.is_middle.Goals as goal

pub returns-then-at-eq0 : goal.returns-then-at-eq0
returns-then-at-eq0 c = (
  λ is. absurd (clash is),
  λ middle.
      let (above, inside) = middle_inside c.args.text.now c.utf8.text c.args.at middle in
      absurd (elim c.then-at-eq0.either [ inl zero ↦ omega (arith, zero, above) | inr (_, past) ↦ omega (arith, past, inside) ]),
)
  where
    clash : IsTrue false → ⊥
    clash is = cc

pub returns-then-bytes-at-eq10 : goal.returns-then-bytes-at-eq10
returns-then-bytes-at-eq10 c =
    let bytes = rw c.as_bytes-bytes.ensures.value at c.if-bytes-at-eq10.true in
    let iff = middle_bytes c.args.text.now c.utf8.text c.args.at (omega (arith, c.if-at-eq0.false)) c.if-at-text.false in
    rw c.as_bytes-bytes.ensures.value (
      λ return. iff.1 (bytes, eqb-true _ _ return),
      λ middle. rw (iff.0 middle).1 (eqb-same 13),
    )

pub returns-else-bytes-at-eq10 : goal.returns-else-bytes-at-eq10
returns-else-bytes-at-eq10 c =
    let other = rw c.as_bytes-bytes.ensures.value at c.if-bytes-at-eq10.false in
    let iff = middle_bytes c.args.text.now c.utf8.text c.args.at (omega (arith, c.if-at-eq0.false)) c.if-at-text.false in
    rw c.as_bytes-bytes.ensures.value (
      λ feed. absurd (other (eqb-true _ _ feed)),
      λ middle. absurd (other (iff.0 middle).0),
    )
