use Rattle.positions.proofs.lemmas.{arith, chars, byte_at-position_at_is_greatest}
use Rattle.positions.proofs.laws.round_trip.Goals as goal

pub returns-clause-greatest : goal.returns-clause-greatest
returns-clause-greatest c = byte_at-position_at_is_greatest c.args.lines c.args.encoding (chars c.args.text.now) c.args.byte

pub returns-clause-place : goal.returns-clause-place
returns-clause-place c at =
    let place = byte_at-position_at_is_greatest c.args.lines c.args.encoding (chars c.args.text.now) c.args.byte in
    omega (arith, place.at_or_before, place.greatest c.args.byte at (omega arith))
