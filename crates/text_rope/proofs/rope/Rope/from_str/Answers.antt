use Rattle.std.specs.Prelude.{true, false}
use Rattle.text_rope.proofs.lemmas.{◌≡◌, ◌∙◌, sym, ap, arith, length, size, size-chars, chars-none, eqb-true, eq-eqb}
use Rattle.text_rope.proofs.rope.Rope.from_str.Goals as goal

pub returns-then-is_empty-clause-ok : goal.returns-then-is_empty-clause-ok
returns-then-is_empty-clause-ok c =
    let none = eqb-true (length c.args.text.now) 0 (sym c.is_empty.ensures ∙ c.if-is_empty.true) in
    c.new.ensures ∙ sym (chars-none c.args.text.now none)

pub returns-in_err-tree_from-clause-empty : goal.returns-in_err-tree_from-clause-empty
returns-in_err-tree_from-clause-empty c none =
    let clash : false ≡ true = sym c.if-is_empty.false ∙ c.is_empty.ensures
    ∙ eq-eqb (length c.args.text.now) 0 (omega (arith, size-chars c.args.text.now c.utf8.text, ap size none)) in
    absurd cc
