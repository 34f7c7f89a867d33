use Rattle.text_index.proofs.lemmas.{◌+◌, sym, ap, ◌∙◌, arith, count-le-size, count_at, counts_behind}
use Rattle.text_index.proofs.mark.Mark.move_to.Goals as goal

pub plus-requires : goal.plus-requires
plus-requires c = λ s.
    let sum = counts_behind _ _ c.args.self c.args.to c.requires.mark c.requires.place c.text_between.ensures in
    let place = c.requires.place in
    omega (arith, sum s, c.counts-own.ensures s, count-le-size s place.front, place.place, c.ranges.to.fits)

pub returns-clause-mark : goal.returns-clause-mark
returns-clause-mark c =
    let sum = counts_behind _ _ c.args.self c.args.to c.requires.mark c.requires.place c.text_between.ensures in
    let place = c.requires.place in
    record {
      front = place.front;
      back = place.back;
      split = place.split;
      byte = sym place.place;
      counts = λ s. c.plus.ensures s ∙ ap (λ n. count_at c.args.self s + n) (c.counts-own.ensures s) ∙ sum s;
      whole = place.whole;
    }
