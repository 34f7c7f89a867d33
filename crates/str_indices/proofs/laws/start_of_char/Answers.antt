use Rattle.str_indices.proofs.lemmas.{chars, to-from_is_greatest_boundary}
use Rattle.str_indices.proofs.laws.start_of_char.Goals as goal

pub returns : goal.returns
returns c s character = to-from_is_greatest_boundary s character (chars c.args.text.now) c.args.b
