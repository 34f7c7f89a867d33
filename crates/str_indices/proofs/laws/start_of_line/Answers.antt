use Rattle.str_indices.proofs.lemmas.{chars, line_scheme_is_not_utf16, to-from_is_greatest}
use Rattle.str_indices.proofs.laws.start_of_line.Goals as goal

pub returns : goal.returns
returns c s line = to-from_is_greatest s (line_scheme_is_not_utf16 s line) (chars c.args.text.now) c.args.b
