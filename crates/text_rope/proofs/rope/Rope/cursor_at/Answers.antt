use Rattle.text_rope.proofs.lemmas.{◌∙◌, ap, in_text, joined, sym}
use Rattle.text_rope.proofs.rope.Rope.cursor_at.Goals as goal

pub returns-clause-chunk : goal.returns-clause-chunk
returns-clause-chunk c = rw c.self.view_is at (in_text c.of.ensures.chunk)

pub returns-clause-text : goal.returns-clause-text
returns-clause-text c = ap joined c.of.ensures.cost.texts ∙ c.self.view_is

pub returns-clause-filled : goal.returns-clause-filled
returns-clause-filled c = rw (sym c.of.ensures.cost.texts) at c.of.ensures.filled

pub returns-clause-cost : goal.returns-clause-cost
returns-clause-cost c = rw (sym c.of.ensures.cost.texts) at c.of.ensures.cost
