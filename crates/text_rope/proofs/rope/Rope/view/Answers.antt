use Rattle.text_rope.proofs.lemmas.{ap, arith, length, size, filled_bytes}
use Rattle.text_rope.proofs.rope.Rope.view.Goals as goal

pub returns-clause-few : goal.returns-clause-few
returns-clause-few c = omega (
  arith,
  filled_bytes c.self.inside.tree c.of.ensures.filled,
  ap (λ v. length v.texts) c.of.ensures.view,
  ap size c.self.view_is,
)
