use Rattle.std.proofs.Common.{arith, sym, length, ◌∙◌}
use Rattle.std.proofs.lemmas.Bool.{eqb-true}
use Rattle.std.proofs.lemmas.Bool.Decides.{nat_tests}
use Rattle.str_indices.proofs.lemmas.Callers.{chars-some, chars-none}
use Rattle.text_rope_c.proofs.changes.assign_text.Goals as goal

pub returns-then-is_empty-clause-ok : goal.returns-then-is_empty-clause-ok
returns-then-is_empty-clause-ok c =
    let none = eqb-true (length c.args.text.now) 0 (sym c.is_empty.ensures ∙ c.if-is_empty.true) in
    c.empty_handle.ensures.text ∙ sym (chars-none c.args.text.now none)

pub returns-in_err-whole-clause-some : goal.returns-in_err-whole-clause-some
returns-in_err-whole-clause-some c = λ _. chars-some c.args.text.now c.utf8.text (grind (arith, nat_tests))
