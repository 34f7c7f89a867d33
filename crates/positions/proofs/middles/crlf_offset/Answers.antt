use Rattle.positions.proofs.lemmas.{◌∙◌, sym, true≢false, inl, inr, refl}
use Rattle.positions.proofs.middles.crlf_offset.Goals as goal
use Rattle.positions.proofs.middles.crlf_offset.Goals.{else-ends_at_return-via-then-ends_at_return+else-is_middle_in, else-ends_at_return-via-else-ends_at_return}

pub returns-then-is_middle_in : goal.returns-then-is_middle_in
returns-then-is_middle_in c = λ cs l e is within.
    inl (refl, (sym c.ends_at_return.ensures ∙ c.if-ends_at_return.true, (c.is_middle_in.ensures cs l e is within).0 c.if-is_middle_in.true))

pub returns-else-ends_at_return : goal.returns-else-ends_at_return
returns-else-ends_at_return c = λ cs l e is within. inr (
  refl,
  elim c.else-ends_at_return.branch [
    | else-ends_at_return-via-then-ends_at_return+else-is_middle_in w ↦
        λ _ middle. true≢false (sym ((w.is_middle_in.ensures cs l e is within).1 middle) ∙ w.if-is_middle_in.false)
    | else-ends_at_return-via-else-ends_at_return w ↦
        λ breaks _. true≢false (sym breaks ∙ sym c.ends_at_return.ensures ∙ w.if-ends_at_return.false)
  ],
)
