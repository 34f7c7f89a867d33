use Rattle.piece_text.proofs.lemmas.{◌∙◌, ap, sym, arith, subst, [], ◌∷◌, AreRuns, pieces_in, pieces_in-append, without_last}
use Rattle.piece_text.proofs.view.runs.Runs.open_end.Goals as goal

pub overflow_sub-self : goal.overflow_sub-self
overflow_sub-self c = omega (
  arith,
  c.self.invariant,
  ap pieces_in c.in-Some.ensures.items,
  pieces_in-append c.pop.new.self.items (c.in-Some.run' ∷ []),
)

pub invariant_of-self : goal.invariant_of-self
invariant_of-self c = omega (
  arith,
  c.self.invariant,
  ap pieces_in c.in-Some.ensures.items,
  pieces_in-append c.pop.new.self.items (c.in-Some.run' ∷ []),
)

pub returns-in-Some : goal.returns-in-Some
returns-in-Some c = λ texts are. without_last c.pop.new.self.items c.in-Some.run' texts
    (subst (λ v. AreRuns v texts) (sym c.self.view_is ∙ c.in-Some.ensures.items) are)
