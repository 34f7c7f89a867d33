use Rattle.str_indices.proofs.lemmas.{chars, units-second_unit}
use Rattle.str_indices.proofs.laws.utf16_round_trip.Goals as goal

pub returns-clause-second_unit : goal.returns-clause-second_unit
returns-clause-second_unit c = units-second_unit (chars c.args.text.now) c.args.k
