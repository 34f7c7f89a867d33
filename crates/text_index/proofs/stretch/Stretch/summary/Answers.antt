use Rattle.text_index.proofs.lemmas.{arith}
use Rattle.text_index.proofs.stretch.Stretch.summary.Goals as goal

pub minus-requires : goal.minus-requires
minus-requires c = λ s. omega (arith, c.requires.counts s)

pub with_counts-requires : goal.with_counts-requires
with_counts-requires c = λ s. omega (arith, c.requires.counts s, c.minus.ensures s)
