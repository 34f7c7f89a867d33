use Rattle.positions.proofs.lemmas.{◌≡◌, ◌+◌, ◌-◌, ◌<◌, ◌⊎◌, ◌∙◌, min, ap, sym, refl, same_behind, weighed_same, inl, inr, arith, chars, size, units_of, weighed, to_byte_idx, from_byte_idx, scheme_of, at_within, at_round, line_told, lines_short, line_before, return_before, position_told, start_before, units_from_start, return_and_line, position_cut, taken_within, taken_both, none_taken}
use Rattle.positions.proofs.queries.position_from.Goals as goal

pub overflow_sub-byte : goal.overflow_sub-byte
overflow_sub-byte g c = c.requires.round.after

pub overflow_add-line : goal.overflow_add-line
overflow_add-line g c =
    let cs = (g.P.Parts.state c.args.parts.now).text in
    let l = c.args.lines in
    let e = c.args.encoding in
    let byte = c.args.byte in
    let part = c.args.part.now in
    let is = c.requires.part in
    let round = c.requires.round in
    let at = c.min-at.result in
    let own = chars part.text.now in
    let at_is : at ≡ min (byte - part.start) (size own) =
    c.min-at.ensures ∙ ap (λ n. min (byte - part.start) n) c.len_of.ensures in
    let counted = c.breaks_up_to-breaks.ensures cs e is in
    omega (arith, lines_short cs l e part is byte round at at_is, counted, c.len-len.ensures.short)

pub line_start-start-requires : goal.line_start-start-requires
line_start-start-requires g c =
    let cs = (g.P.Parts.state c.args.parts.now).text in
    let l = c.args.lines in
    let e = c.args.encoding in
    let byte = c.args.byte in
    let part = c.args.part.now in
    let is = c.requires.part in
    let round = c.requires.round in
    let at = c.min-at.result in
    let own = chars part.text.now in
    let at_is : at ≡ min (byte - part.start) (size own) =
    c.min-at.ensures ∙ ap (λ n. min (byte - part.start) n) c.len_of.ensures in
    let counted = c.breaks_up_to-breaks.ensures cs e is in
    record { line = counted ∙ (c.kind.ensures cs e is).from at; within = at_within cs l e part is byte round at at_is }

pub overflow_sub-at : goal.overflow_sub-at
overflow_sub-at g c =
    let cs = (g.P.Parts.state c.args.parts.now).text in
    let l = c.args.lines in
    let e = c.args.encoding in
    let byte = c.args.byte in
    let part = c.args.part.now in
    let is = c.requires.part in
    let round = c.requires.round in
    let at = c.min-at.result in
    let own = chars part.text.now in
    let at_is : at ≡ min (byte - part.start) (size own) =
    c.min-at.ensures ∙ ap (λ n. min (byte - part.start) n) c.len_of.ensures in
    let counted = c.breaks_up_to-breaks.ensures cs e is in
    start_before cs l e part is byte round at at_is c.line_start-start.result
    (c.line_start-start.ensures.start ∙ sym ((c.kind.ensures cs e is).to c.breaks_up_to-breaks.result) ∙ ap (to_byte_idx (scheme_of l) own) counted)

pub overflow_sub-result : goal.overflow_sub-result
overflow_sub-result g c =
    let cs = (g.P.Parts.state c.args.parts.now).text in
    let l = c.args.lines in
    let e = c.args.encoding in
    let byte = c.args.byte in
    let part = c.args.part.now in
    let is = c.requires.part in
    let round = c.requires.round in
    let at = c.min-at.result in
    let own = chars part.text.now in
    let at_is : at ≡ min (byte - part.start) (size own) =
    c.min-at.ensures ∙ ap (λ n. min (byte - part.start) n) c.len_of.ensures in
    let counted = c.breaks_up_to-breaks.ensures cs e is in
    let some : (0 < from_byte_idx (scheme_of l) own at) ⊎ (part.start ≡ 0) = elim c.then-breaks-gt0.either [
      | inl above ↦ inl (omega (arith, above, counted))
      | inr first ↦ inr first.1
    ] in
    let start = c.line_start-start in
    let start_is = start.ensures.start ∙ sym ((c.kind.ensures cs e is).to c.breaks_up_to-breaks.result)
    ∙ ap (to_byte_idx (scheme_of l) own) counted in
    let line_is : part.lines + c.breaks_up_to-breaks.result ≡ from_byte_idx (scheme_of l) cs byte =
    omega (arith, counted, line_told cs l e part is byte round at at_is) in
    let rest = chars c.from_byte-rest.result.now in
    let same = same_behind e c.encoding.result own (c.encoding.ensures cs l is) rest start.result c.from_byte-rest.ensures in
    let counted_units = c.units_before-units.ensures ∙ sym (weighed_same e c.encoding.result rest same (at - start.result)) in
    let units = units_from_start cs l e part is byte round at at_is rest start.result c.units_before-units.result
    (part.lines + c.breaks_up_to-breaks.result) start_is c.from_byte-rest.ensures counted_units some line_is in
    let behind = c.crlf_offset-offset.ensures cs l e is (at_round cs l e part is byte round at at_is) in
    return_before cs l e part is byte round at at_is c.crlf_offset-offset.result behind (part.lines + c.breaks_up_to-breaks.result) c.units_before-units.result line_is units

pub returns-then-breaks-gt0-clause-answer : goal.returns-then-breaks-gt0-clause-answer
returns-then-breaks-gt0-clause-answer g c =
    let cs = (g.P.Parts.state c.args.parts.now).text in
    let l = c.args.lines in
    let e = c.args.encoding in
    let byte = c.args.byte in
    let part = c.args.part.now in
    let is = c.requires.part in
    let round = c.requires.round in
    let at = c.min-at.result in
    let own = chars part.text.now in
    let at_is : at ≡ min (byte - part.start) (size own) =
    c.min-at.ensures ∙ ap (λ n. min (byte - part.start) n) c.len_of.ensures in
    let counted = c.breaks_up_to-breaks.ensures cs e is in
    let some : (0 < from_byte_idx (scheme_of l) own at) ⊎ (part.start ≡ 0) = elim c.then-breaks-gt0.either [
      | inl above ↦ inl (omega (arith, above, counted))
      | inr first ↦ inr first.1
    ] in
    let start = c.line_start-start in
    let start_is = start.ensures.start ∙ sym ((c.kind.ensures cs e is).to c.breaks_up_to-breaks.result)
    ∙ ap (to_byte_idx (scheme_of l) own) counted in
    let line_is : part.lines + c.breaks_up_to-breaks.result ≡ from_byte_idx (scheme_of l) cs byte =
    omega (arith, counted, line_told cs l e part is byte round at at_is) in
    let rest = chars c.from_byte-rest.result.now in
    let same = same_behind e c.encoding.result own (c.encoding.ensures cs l is) rest start.result c.from_byte-rest.ensures in
    let counted_units = c.units_before-units.ensures ∙ sym (weighed_same e c.encoding.result rest same (at - start.result)) in
    let units = units_from_start cs l e part is byte round at at_is rest start.result c.units_before-units.result
    (part.lines + c.breaks_up_to-breaks.result) start_is c.from_byte-rest.ensures counted_units some line_is in
    let behind = c.crlf_offset-offset.ensures cs l e is (at_round cs l e part is byte round at at_is) in
    position_told cs l e part is byte round at at_is c.crlf_offset-offset.result behind (part.lines + c.breaks_up_to-breaks.result) c.units_before-units.result line_is units

pub returns-then-breaks-gt0-clause-cost : goal.returns-then-breaks-gt0-clause-cost
returns-then-breaks-gt0-clause-cost g c =
    taken_within c.len-len.ensures.searched (omega arith) (omega arith) (none_taken (g.P.Parts.state c.args.parts.now))

pub returns-then-breaks-gt0-clause-near : goal.returns-then-breaks-gt0-clause-near
returns-then-breaks-gt0-clause-near g c near = none_taken (g.P.Parts.state c.args.parts.now)

pub overflow_sub-units : goal.overflow_sub-units
overflow_sub-units g c =
    let cs = (g.P.Parts.state c.args.parts.now).text in
    let l = c.args.lines in
    let e = c.args.encoding in
    let byte = c.args.byte in
    let part = c.args.part.now in
    let is = c.requires.part in
    let round = c.requires.round in
    let at = c.min-at.result in
    let own = chars part.text.now in
    let at_is : at ≡ min (byte - part.start) (size own) =
    c.min-at.ensures ∙ ap (λ n. min (byte - part.start) n) c.len_of.ensures in
    let counted = c.breaks_up_to-breaks.ensures cs e is in
    let line_is : part.lines + c.breaks_up_to-breaks.result ≡ from_byte_idx (scheme_of l) cs byte =
    omega (arith, counted, line_told cs l e part is byte round at at_is) in
    let behind = c.crlf_offset-offset.ensures cs l e is (at_round cs l e part is byte round at at_is) in
    let units : c.units_up_to.result ≡ weighed (units_of e) cs (part.start + at) = c.units_up_to.ensures.answer in
    let begins = to_byte_idx (scheme_of l) cs (part.lines + c.breaks_up_to-breaks.result) in
    omega (
      arith,
      return_and_line cs l e part is byte round at at_is c.crlf_offset-offset.result behind
          (part.lines + c.breaks_up_to-breaks.result) (weighed (units_of e) cs begins) c.units_up_to.result line_is refl units,
    )

pub overflow_sub-result-2 : goal.overflow_sub-result-2
overflow_sub-result-2 g c =
    let cs = (g.P.Parts.state c.args.parts.now).text in
    let l = c.args.lines in
    let e = c.args.encoding in
    let byte = c.args.byte in
    let part = c.args.part.now in
    let is = c.requires.part in
    let round = c.requires.round in
    let at = c.min-at.result in
    let own = chars part.text.now in
    let at_is : at ≡ min (byte - part.start) (size own) =
    c.min-at.ensures ∙ ap (λ n. min (byte - part.start) n) c.len_of.ensures in
    let counted = c.breaks_up_to-breaks.ensures cs e is in
    let line_is : part.lines + c.breaks_up_to-breaks.result ≡ from_byte_idx (scheme_of l) cs byte =
    omega (arith, counted, line_told cs l e part is byte round at at_is) in
    let behind = c.crlf_offset-offset.ensures cs l e is (at_round cs l e part is byte round at at_is) in
    let units : c.units_up_to.result ≡ weighed (units_of e) cs (part.start + at) = c.units_up_to.ensures.answer in
    let before = c.units_before_line-before_line.ensures.answer
    ∙ ap (λ t. weighed (units_of e) t (to_byte_idx (scheme_of l) t (part.lines + c.breaks_up_to-breaks.result))) c.units_up_to.ensures.cost.text in
    omega (arith, return_and_line cs l e part is byte round at at_is c.crlf_offset-offset.result behind (part.lines + c.breaks_up_to-breaks.result) c.units_before_line-before_line.result c.units_up_to.result line_is before units)

pub returns-clause-answer : goal.returns-clause-answer
returns-clause-answer g c =
    let cs = (g.P.Parts.state c.args.parts.now).text in
    let l = c.args.lines in
    let e = c.args.encoding in
    let byte = c.args.byte in
    let part = c.args.part.now in
    let is = c.requires.part in
    let round = c.requires.round in
    let at = c.min-at.result in
    let own = chars part.text.now in
    let at_is : at ≡ min (byte - part.start) (size own) =
    c.min-at.ensures ∙ ap (λ n. min (byte - part.start) n) c.len_of.ensures in
    let counted = c.breaks_up_to-breaks.ensures cs e is in
    let line_is : part.lines + c.breaks_up_to-breaks.result ≡ from_byte_idx (scheme_of l) cs byte =
    omega (arith, counted, line_told cs l e part is byte round at at_is) in
    let behind = c.crlf_offset-offset.ensures cs l e is (at_round cs l e part is byte round at at_is) in
    let units : c.units_up_to.result ≡ weighed (units_of e) cs (part.start + at) = c.units_up_to.ensures.answer in
    let before = c.units_before_line-before_line.ensures.answer
    ∙ ap (λ t. weighed (units_of e) t (to_byte_idx (scheme_of l) t (part.lines + c.breaks_up_to-breaks.result))) c.units_up_to.ensures.cost.text in
    position_cut cs l e part is byte round at at_is c.crlf_offset-offset.result behind (part.lines + c.breaks_up_to-breaks.result) c.units_before_line-before_line.result c.units_up_to.result line_is before units

pub returns-clause-cost : goal.returns-clause-cost
returns-clause-cost g c =
    let first = c.units_up_to.ensures.cost in
    taken_both c.len-len.ensures.searched first c.units_before_line-before_line.ensures.cost (omega (arith, first.unit_searches))
    (omega arith)

pub returns-clause-near : goal.returns-clause-near
returns-clause-near g c =
    let cs = (g.P.Parts.state c.args.parts.now).text in
    let l = c.args.lines in
    let e = c.args.encoding in
    let byte = c.args.byte in
    let part = c.args.part.now in
    let is = c.requires.part in
    let round = c.requires.round in
    let at = c.min-at.result in
    let own = chars part.text.now in
    let at_is : at ≡ min (byte - part.start) (size own) =
    c.min-at.ensures ∙ ap (λ n. min (byte - part.start) n) c.len_of.ensures in
    let counted = c.breaks_up_to-breaks.ensures cs e is in
    let none : from_byte_idx (scheme_of l) own at ≡ 0 = omega (arith, counted, c.if-breaks-gt0.false) in
    λ near. absurd (elim near [
      | inl before ↦ omega (arith, before, line_before cs l e part is byte round at at_is none)
      | inr first ↦ c.if-first.false (first)
    ])
