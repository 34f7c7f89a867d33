use Rattle.positions.proofs.lemmas.{◌≡◌, ◌∙◌, sym, ap, subst, arith, chars, cut, count, scheme_of, is_break, before_first, size, boundary_weighed, boundary_weighed_is_greatest, units_of, IsBoundary, cut_front, all_content, byte_on_first}
use Rattle.positions.proofs.first_lines.near_place.Goals as goal

pub up_to-front-requires : goal.up_to-front-requires
up_to-front-requires g c =
    let cs = chars c.args.text.now in
    record {
      boundary = subst (IsBoundary cs) (sym c.place_of-place.ensures.answer)
          (boundary_weighed_is_greatest (units_of c.args.encoding) cs c.args.character).boundary;
    }

pub returns-then-count-eq0 : goal.returns-then-count-eq0
returns-then-count-eq0 g c =
    let l = c.args.lines in
    let cs = chars c.args.text.now in
    let place = boundary_weighed (units_of c.args.encoding) cs c.args.character in
    let front = c.up_to-front.ensures ∙ ap (cut cs) c.place_of-place.ensures.answer in
    let none : count (scheme_of l) (cut cs place) ≡ 0 =
    sym (rw front at (rw c.scheme.ensures at c.count.ensures)) ∙ c.if-count-eq0.true in
    let at = (boundary_weighed_is_greatest (units_of c.args.encoding) cs c.args.character).boundary in
    omega (
      arith,
      c.place_of-place.ensures.answer,
      ap size (cut_front cs place at),
      at.place,
      all_content l (cut cs place) none,
      byte_on_first l c.args.encoding cs c.args.character,
    )

pub returns : goal.returns
returns g c =
    let cs = chars c.args.text.now in
    let front = c.up_to-front.ensures ∙ ap (cut cs) c.place_of-place.ensures.answer in
    c.content_end.ensures ∙ ap (λ t. size (before_first (is_break c.args.lines) t)) front
    ∙ byte_on_first c.args.lines c.args.encoding cs c.args.character
