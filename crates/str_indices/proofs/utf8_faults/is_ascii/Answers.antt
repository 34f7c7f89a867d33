use Rattle.str_indices.proofs.lemmas.{or_ascii}
use Rattle.str_indices.proofs.utf8_faults.is_ascii.Goals as goal

pub returns : goal.returns
returns g c =
    let front = or_ascii c.requires.first c.requires.second c.either-front.ensures.lanes in
    let back = or_ascii c.requires.third c.requires.fourth c.either-back.ensures.lanes in
    let whole = or_ascii c.either-front.ensures.bytes c.either-back.ensures.bytes c.either.ensures.lanes in (
      λ yes j l.
          let both = (whole j l).0 (c.is_ascii.ensures.0 yes j l) in
          let two = (front j l).0 both.0 in
          let others = (back j l).0 both.1 in
          (two.0, two.1, others.0, others.1),
      λ small. c.is_ascii.ensures.1 (λ j l.
          let four = small j l in
          (whole j l).1 ((front j l).1 (four.0, four.1), (back j l).1 (four.2, four.3))),
    )
