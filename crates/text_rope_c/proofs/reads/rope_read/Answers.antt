use Rattle.std.proofs.Common.{ap, ◌∙◌}
use Rattle.text_rope_c.specs.Lends.{with_text}
use Rattle.text_rope_c.proofs.reads.rope_read.Goals as goal

pub returns-clause-same : goal.returns-clause-same
returns-clause-same c = ap (with_text c.is_null.new.self) c.as_mut.ensures.value ∙ c.is_null.ensures.told.1
