use Rattle.text_rope.proofs.lemmas.{ap, arith, ◌≡◌, size, none_of}
use Rattle.std.proofs.lemmas.Bool.Decides.{nat_tests}
use Rattle.text_rope.proofs.rope.Rope.is_empty.Goals as goal

pub returns : goal.returns
returns c = (
  (λ is. none_of c.args.self.now (grind (arith, nat_tests, c.len.ensures.len))),
  (λ none. let zero : c.len.result ≡ 0 = omega (arith, c.len.ensures.len, ap size none) in grind (arith, nat_tests)),
)
