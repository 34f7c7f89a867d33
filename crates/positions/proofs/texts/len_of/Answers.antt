use Rattle.positions.proofs.lemmas.{sym, size-chars}
use Rattle.positions.proofs.texts.len_of.Goals as goal

pub returns : goal.returns
returns c = sym (size-chars c.args.text.now c.utf8.text)
