use Rattle.positions.proofs.lemmas.{[], append-nil, sym, refl, arith, chars, middle_above, none_before, weighed_none, units_of}
use Rattle.positions.proofs.whole.whole_part.Goals as goal

pub returns-clause-part : goal.returns-clause-part
returns-clause-part c = λ l e.
    let cs = chars c.args.text.now in
    record {
      front = [];
      back = [];
      split = sym (append-nil cs);
      start = refl;
      lines = sym (none_before l cs);
      units = sym (weighed_none (units_of e) cs);
      in_crlf = (λ is. cc, λ middle. absurd (omega (arith, middle_above cs 0 middle)));
      counts = tt;
    }
