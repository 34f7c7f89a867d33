use Rattle.positions.proofs.lemmas.Callers.{nearest_is_greatest}
use Rattle.positions.proofs.lemmas.Callers.{greatest_in_part}
use Rattle.text_index.proofs.lemmas.{◌+◌, ◌-◌, ◌<◌, ◌≡◌, ◌⊎◌, inl, inr, arith, chars, size}
use Rattle.text_index.proofs.queries.char_start_in.Goals as goal

pub returns-clause-answer : goal.returns-clause-answer
returns-clause-answer c =
    let stretch = c.stretch_at-stretch in
    let found = stretch.ensures in
    let start = stretch.result.start.now.byte in
    let text = c.read-text.result.now in
    let cs = c.args.m.now.text in
    let own = rw found.text at c.read-text.ensures.part in
    let floor = c.floor_char_boundary.ensures in
    let round : (c.args.b < start + size (chars text)) ⊎ (start + size (chars text) ≡ size cs) = elim found.place.before [
      | inl inside ↦ inl (omega (arith, inside, own.start, own.end))
      | inr last ↦ inr (omega (arith, last, own.start, own.end))
    ] in
    greatest_in_part cs own.front (chars text) own.back start own.parts own.start c.args.b c.floor_char_boundary.result
    found.place.after round
    (nearest_is_greatest text c.read-text.utf8 (c.args.b - start) c.floor_char_boundary.result floor.boundary floor.bound floor.nearest)

pub overflow_add-result : goal.overflow_add-result
overflow_add-result c =
    let is = returns-clause-answer c in
    omega (arith, is.at_or_before, c.ranges.b.fits)
