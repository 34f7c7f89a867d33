use Rattle.positions.proofs.lemmas.{◌≡◌, ◌<◌, ◌⊎◌, ◌∙◌, [], ap, sym, subst, refl, inl, inr, arith, chars, to_byte_idx, from_byte_idx, scheme_of, IsBoundary, to_byte_idx-zero, to_byte_idx-le-size, IsBoundary-to_byte_idx, begins_of_back}
use Rattle.positions.proofs.look_back.line_start.Goals as goal

pub returns-then-line-eq0-clause-start : goal.returns-then-line-eq0-clause-start
returns-then-line-eq0-clause-start g c =
    let cs = chars c.args.text.now in
    sym (to_byte_idx-zero (scheme_of c.args.lines) cs) ∙ ap (to_byte_idx (scheme_of c.args.lines) cs) (sym c.if-line-eq0.true)

pub returns-then-line-eq0-clause-boundary : goal.returns-then-line-eq0-clause-boundary
returns-then-line-eq0-clause-boundary g c = record { front = []; back = chars c.args.text.now; split = refl; place = refl }

pub from_byte-rest-requires : goal.from_byte-rest-requires
from_byte-rest-requires g c = record { boundary = c.char_start-from.ensures.boundary }

pub overflow_sub-byte : goal.overflow_sub-byte
overflow_sub-byte g c = omega (arith, c.char_start-from.ensures.at_or_before)

pub overflow_add-result : goal.overflow_add-result
overflow_add-result g c =
    let cs = chars c.args.text.now in
    let from = c.char_start-from in
    let rest = c.from_byte-rest in
    let breaks = rw c.scheme-scheme.ensures at c.from_byte_idx-breaks.ensures in
    let whole : (from.result ≡ 0) ⊎ (0 < c.from_byte_idx-breaks.result) = elim c.then-from-eq0.either [
      | inl zero ↦ inl zero
      | inr some ↦ inr some.1
    ] in
    let is = begins_of_back c.args.lines cs (chars rest.result.now) from.result c.args.byte c.from_byte_idx-breaks.result
    rest.ensures (omega (arith, from.ensures.at_or_before)) breaks whole in
    let place = rw c.scheme-scheme.ensures at c.to_byte_idx.ensures.answer in
    omega (arith, is, place, to_byte_idx-le-size (scheme_of c.args.lines) cs (from_byte_idx (scheme_of c.args.lines) cs c.args.byte), c.len_of-len.ensures)

pub returns-then-from-eq0-clause-start : goal.returns-then-from-eq0-clause-start
returns-then-from-eq0-clause-start g c =
    let cs = chars c.args.text.now in
    let from = c.char_start-from in
    let rest = c.from_byte-rest in
    let breaks = rw c.scheme-scheme.ensures at c.from_byte_idx-breaks.ensures in
    let whole : (from.result ≡ 0) ⊎ (0 < c.from_byte_idx-breaks.result) = elim c.then-from-eq0.either [
      | inl zero ↦ inl zero
      | inr some ↦ inr some.1
    ] in
    let is = begins_of_back c.args.lines cs (chars rest.result.now) from.result c.args.byte c.from_byte_idx-breaks.result
    rest.ensures (omega (arith, from.ensures.at_or_before)) breaks whole in
    let place = rw c.scheme-scheme.ensures at c.to_byte_idx.ensures.answer in
    omega (arith, is, place, ap (to_byte_idx (scheme_of c.args.lines) cs) c.requires.line)

pub returns-then-from-eq0-clause-boundary : goal.returns-then-from-eq0-clause-boundary
returns-then-from-eq0-clause-boundary g c =
    let cs = chars c.args.text.now in
    subst (IsBoundary cs) (sym (returns-then-from-eq0-clause-start g c)) (IsBoundary-to_byte_idx (scheme_of c.args.lines) cs c.args.line)
