use Rattle.positions.proofs.lemmas.{◌≡◌, ◌+◌, arith, chars, middle_from_part, middle_in_part}
use Rattle.positions.proofs.middles.is_middle_in.Goals as goal

pub returns-then-at-eq0 : goal.returns-then-at-eq0
returns-then-at-eq0 c = λ cs l e is within.
    let there : c.args.part.now.start ≡ c.args.part.now.start + c.args.at = omega (arith, c.if-at-eq0.true) in
    rw there at is.in_crlf

pub returns : goal.returns
returns c = λ cs l e is within.
    let part = chars c.args.part.now.text.now in
    let start = c.args.part.now.start in
    let own = c.is_middle.ensures in (
      λ yes. middle_from_part cs is.front part is.back start is.split is.start c.args.at (own.0 yes),
      λ middle. own.1 (middle_in_part cs is.front part is.back start is.split is.start c.args.at
          (omega (arith, c.if-at-eq0.false)) within middle),
    )
