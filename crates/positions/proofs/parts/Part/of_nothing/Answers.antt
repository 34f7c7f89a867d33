use Rattle.std.proofs.lemmas.Str.{chars-nil}
use Rattle.positions.proofs.lemmas.{[], sym, refl, arith, middle_above, none_before, weighed_none, units_of}
use Rattle.positions.proofs.parts.Part.of_nothing.Goals as goal

pub returns-clause-text : goal.returns-clause-text
returns-clause-text c = chars-nil

pub returns-clause-part : goal.returns-clause-part
returns-clause-part c = λ l e. record {
  front = [];
  back = [];
  split = rw chars-nil refl;
  start = refl;
  lines = sym (none_before l []);
  units = sym (weighed_none (units_of e) []);
  in_crlf = (λ is. cc, λ middle. absurd (omega (arith, middle_above [] 0 middle)));
  counts = tt;
}
