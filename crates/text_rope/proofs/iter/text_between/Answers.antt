use Rattle.text_rope.proofs.lemmas.{◌++◌, ◌∙◌, ap, arith, append_assoc, chars, size, size-append, IsBoundary, boundary_upto}
use Rattle.text_rope.proofs.iter.text_between.Goals as goal

pub halves-requires-2 : goal.halves-requires-2
halves-requires-2 c =
    let front = chars c.halves.result.0.now in
    let back = chars c.halves.result.1.now in
    let start : IsBoundary (front ++ back) c.args.from = rw c.halves.ensures.parts at c.requires.start in
    boundary_upto front back c.args.from (omega (arith, c.halves.ensures.place, c.requires.order)) start

pub returns : goal.returns
returns c =
    let front = chars c.halves.result.0.now in
    let back = chars c.halves.result.1.now in
    let before = chars c.halves-2.result.0.now in
    let part = chars c.halves-2.result.1.now in
    record {
      front = before;
      back = back;
      parts = c.halves.ensures.parts ∙ ap (λ f. f ++ back) c.halves-2.ensures.parts ∙ append_assoc before part back;
      start = c.halves-2.ensures.place;
      end = omega (arith, ap size c.halves-2.ensures.parts, size-append before part, c.halves.ensures.place);
    }
