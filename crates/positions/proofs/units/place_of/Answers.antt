use Rattle.positions.proofs.lemmas.{◌∙◌, sym, chars, nearest_is_greatest, placed_by_bytes, placed_by_scheme}
use Rattle.positions.proofs.units.place_of.Goals as goal

pub returns-in-None-clause-answer : goal.returns-in-None-clause-answer
returns-in-None-clause-answer g c =
    let text = c.args.text.now in
    let floor = c.floor_char_boundary in
    let place = nearest_is_greatest text c.utf8.text c.args.units floor.result floor.ensures.boundary floor.ensures.bound floor.ensures.nearest in
    placed_by_bytes c.args.encoding (chars text) c.args.units floor.result (sym c.unit_scheme.ensures ∙ c.in-None.is) place

pub returns-in-Some-clause-answer : goal.returns-in-Some-clause-answer
returns-in-Some-clause-answer g c = c.to_byte_idx.ensures.answer
    ∙ placed_by_scheme c.args.encoding (chars c.args.text.now) c.args.units c.in-Some.scheme (sym c.unit_scheme.ensures ∙ c.in-Some.is)
