use Rattle.text_rope.proofs.lemmas.{◌≡◌, ◌≢◌, none_of, chars, arith, inl, inr, replaced_none, [], length, size-chars, ap, size}
use Rattle.std.proofs.lemmas.Bool.Decides.{nat_tests}
use Rattle.text_rope.proofs.rope.Rope.replace_range_beside.Goals as goal
use Rattle.text_rope.proofs.rope.Rope.replace_range_beside.Goals.{else-from-to-via-then-from-to+else-is_empty, else-from-to-via-else-from-to}

pub returns-then-is_empty-clause-replaced : goal.returns-then-is_empty-clause-replaced
returns-then-is_empty-clause-replaced c =
    let zero : length c.args.text.now ≡ 0 = grind (arith, nat_tests, c.is_empty.ensures, c.if-is_empty.true) in
    let none : chars c.args.text.now ≡ [] = none_of (chars c.args.text.now) (omega (arith, size-chars c.args.text.now c.utf8.text, zero)) in
    replaced_none c.args.self.now c.args.from c.args.to (chars c.args.text.now) c.if-from-to.true none
    (c.are_boundaries.ensures.0 cc).0

pub returns-in_err-rewrite-clause-no_memory : goal.returns-in_err-rewrite-clause-no_memory
returns-in_err-rewrite-clause-no_memory c _ =
    elim c.else-from-to.branch [
      | else-from-to-via-then-from-to+else-is_empty w ↦ inr (λ none.
          let some : length c.args.text.now ≢ 0 = grind (arith, nat_tests, w.is_empty.ensures, w.if-is_empty.false) in
          some (omega (arith, size-chars c.args.text.now c.utf8.text, ap size none)))
      | else-from-to-via-else-from-to w ↦ inl (omega (arith, w.if-from-to.false, c.requires.order))
    ]
