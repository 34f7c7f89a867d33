use Rattle.positions.proofs.lemmas.{◌∙◌, sym, ap, subst, arith, chars, cut, size-chars, boundary_weighed_is_greatest, units_of, Position, byte_at, IsBoundary, IsBoundary-byte_at, boundary_within, near_in_cut, end_near, end_behind}
use Rattle.positions.specs.Characters.{IsBackOf}
use Rattle.positions.proofs.first_lines.place_on_first_line.Goals as goal

pub returns-then-end-near : goal.returns-then-end-near
returns-then-end-near g c =
    let near = c.char_start-near in
    let end = c.content_end-end in
    end_near c.args.lines c.args.encoding (chars c.args.text.now) c.args.character near.result near.ensures end.result
    (rw c.up_to.ensures at end.ensures) c.if-end-near.true

pub up_to-requires-2 : goal.up_to-requires-2
up_to-requires-2 g c =
    let cs = chars c.args.text.now in
    record {
      boundary = subst (IsBoundary cs) (sym c.place_of-place.ensures.answer)
          (boundary_weighed_is_greatest (units_of c.args.encoding) cs c.args.character).boundary;
    }

pub from_byte-rest-requires : goal.from_byte-rest-requires
from_byte-rest-requires g c =
    let cs = chars c.args.text.now in
    let near = c.char_start-near in
    let is = c.up_to-2.ensures ∙ ap (cut cs) c.place_of-place.ensures.answer in
    record {
      boundary = subst (λ t. IsBoundary t near.result) (sym is)
          (near_in_cut c.args.lines c.args.encoding cs c.args.character near.result near.ensures);
    }

pub overflow_add-result : goal.overflow_add-result
overflow_add-result g c =
    let l = c.args.lines in
    let e = c.args.encoding in
    let cs = chars c.args.text.now in
    let near = c.char_start-near in
    let end = c.content_end-end in
    let is = c.up_to-2.ensures ∙ ap (cut cs) c.place_of-place.ensures.answer in
    let behind = subst (λ t. IsBackOf t (chars c.from_byte-rest.result.now) near.result) is c.from_byte-rest.ensures in
    let place = end_behind l e cs c.args.character near.result near.ensures end.result c.content_end.result
    (chars c.from_byte-rest.result.now) (rw c.up_to.ensures at end.ensures) (omega (arith, c.if-end-near.false)) behind
    c.content_end.ensures in
    let p : Position = record { line = 0; character = c.args.character } in
    omega (arith, place, boundary_within cs (byte_at l e cs p) (IsBoundary-byte_at l e cs p), size-chars c.args.text.now c.utf8.text, c.type_inv.text)

pub returns : goal.returns
returns g c =
    let cs = chars c.args.text.now in
    let near = c.char_start-near in
    let end = c.content_end-end in
    let is = c.up_to-2.ensures ∙ ap (cut cs) c.place_of-place.ensures.answer in
    let behind = subst (λ t. IsBackOf t (chars c.from_byte-rest.result.now) near.result) is c.from_byte-rest.ensures in
    end_behind c.args.lines c.args.encoding cs c.args.character near.result near.ensures end.result c.content_end.result
    (chars c.from_byte-rest.result.now) (rw c.up_to.ensures at end.ensures) (omega (arith, c.if-end-near.false)) behind
    c.content_end.ensures
