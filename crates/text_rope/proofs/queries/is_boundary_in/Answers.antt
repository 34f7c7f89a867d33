use Rattle.text_rope.proofs.lemmas.{◌≡◌, ℕ, ◌≤◌, ◌∙◌, [], ap, arith, joined, Text, size, IsBoundary, eqb-true, eq-eqb, boundary-le, boundary_start, boundary_end, boundary_at}
use Rattle.std.specs.Prelude.{◌==◌, true}
use Rattle.text_rope.proofs.queries.is_boundary_in.Goals as goal

-- no text has its beginning alone
of_none : (at : ℕ) → ((at == 0) ≡ true → IsBoundary [] at) × (IsBoundary [] at → (at == 0) ≡ true)
of_none at = (
  λ same. let zero : at ≡ 0 = eqb-true at 0 same in rw zero (boundary_start []),
  λ boundary. eq-eqb at 0 (omega (arith, boundary-le [] at boundary)),
)

-- from its end on a text has that alone
of_end : (cs : Text) (at len : ℕ) → len ≡ size cs → len ≤ at
    → ((at == len) ≡ true → IsBoundary cs at) × (IsBoundary cs at → (at == len) ≡ true)
of_end cs at len is past = (
  λ same. boundary_end cs at (eqb-true at len same ∙ is),
  λ boundary. eq-eqb at len (omega (arith, boundary-le cs at boundary, is, past)),
)

-- one after the other
of_both : {A B C : Type 0} → (A → B) × (B → A) → (B → C) × (C → B) → (A → C) × (C → A)
of_both own is = (λ a. is.0 (own.0 a), λ c. own.1 (is.1 c))

pub returns-in_default-clause-answer : goal.returns-in_default-clause-answer
returns-in_default-clause-answer c = rw (← c.in_default.ensures) (of_none c.args.at)

pub returns-then-whole-at-clause-answer : goal.returns-then-whole-at-clause-answer
returns-then-whole-at-clause-answer c =
    let len = ap (λ w. w.len) c.summary-whole.ensures.summary in
    rw (← c.in-Some.ensures) (of_end (joined c.in-Some.subtree.now.texts) c.args.at c.summary-whole.result.now.len len c.if-whole-at.true)

pub returns-clause-answer : goal.returns-clause-answer
returns-clause-answer c = rw (← c.in-Some.ensures) (of_both (rw c.read-text.ensures.text at c.is_char_boundary.ensures) (boundary_at c.place_at-place.ensures.place))
