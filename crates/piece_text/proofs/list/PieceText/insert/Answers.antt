use Rattle.piece_text.proofs.lemmas.{sym, ◌∙◌, length, chars, eqb-true, arith, take-append-drop, chars-none, chars-some, as_pieces-some}
use Rattle.std.proofs.lemmas.Bool.Decides.{nat_tests}
use Rattle.piece_text.proofs.list.PieceText.insert.Goals as goal

pub returns-then-is_empty-clause-ok : goal.returns-then-is_empty-clause-ok
returns-then-is_empty-clause-ok c =
    let none = eqb-true (length c.args.text.now) 0 (sym c.is_empty.ensures ∙ c.if-is_empty.true) in
    rw (chars-none c.args.text.now none) (sym (take-append-drop c.args.at c.args.self.now))

pub put-requires-clause-some : goal.put-requires-clause-some
put-requires-clause-some c = chars-some c.args.text.now c.utf8.text (grind (arith, nat_tests))

-- a text that is not empty is one piece
pub returns-clause-ok : goal.returns-clause-ok
returns-clause-ok c =
    let some = chars-some c.args.text.now c.utf8.text (grind (arith, nat_tests)) in
    rw (as_pieces-some (chars c.args.text.now) some) c.in_ok-put.ensures.ok

pub returns-in_err-put-clause-no_memory : goal.returns-in_err-put-clause-no_memory
returns-in_err-put-clause-no_memory c = λ _. chars-some c.args.text.now c.utf8.text (grind (arith, nat_tests))
