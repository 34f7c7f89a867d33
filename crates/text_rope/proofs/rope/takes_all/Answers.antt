use Rattle.text_rope.proofs.lemmas.{◌≡◌, ◌≢◌, arith, ap, length, size, size-chars, chars-none}
use Rattle.std.proofs.lemmas.Bool.Decides.{nat_tests}
use Rattle.text_rope.proofs.rope.takes_all.Goals as goal

pub returns-then-is_empty : goal.returns-then-is_empty
returns-then-is_empty c =
    let zero : length c.args.text.now ≡ 0 = grind (arith, nat_tests, c.is_empty.ensures, c.if-is_empty.true) in
    (λ is. (chars-none c.args.text.now zero, grind (arith, nat_tests)), λ both. let same = both.1 in grind (arith, nat_tests))

pub returns-else-is_empty : goal.returns-else-is_empty
returns-else-is_empty c =
    let some : length c.args.text.now ≢ 0 = grind (arith, nat_tests, c.is_empty.ensures, c.if-is_empty.false) in
    (λ is. absurd cc, λ both. absurd (some (omega (arith, size-chars c.args.text.now c.utf8.text, ap size both.0))))
