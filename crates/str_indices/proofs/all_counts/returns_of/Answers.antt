use Rattle.str_indices.proofs.lemmas.{◌∙◌, crlf_without_returns}
use Rattle.str_indices.proofs.all_counts.returns_of.Goals as goal

pub returns-then-kinds : goal.returns-then-kinds
returns-then-kinds c = c.requires.lf
    ∙ crlf_without_returns c.args.text.now c.utf8.text (c.requires.kinds.no_return.0 c.if-kinds.true)
