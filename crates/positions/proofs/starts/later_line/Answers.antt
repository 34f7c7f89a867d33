use Rattle.positions.proofs.lemmas.{◌≡◌, ◌-◌, ◌∙◌, sym, ap, subst, inl, inr, arith, chars, to_byte_idx, to_byte_idx-le-size, scheme_of, IsBoundary, IsBoundary-to_byte_idx, HasLine, text_after, behind_boundary, later_line, lines_within, line_place, part_within, none_taken, taken_within}
use Rattle.positions.proofs.starts.later_line.Goals as goal
use Rattle.positions.proofs.starts.later_line.Goals.{else-line-later-via-then-line-later+else-part-len_of, else-line-later-via-else-line-later}

pub returns-clause-offset : goal.returns-clause-offset
returns-clause-offset g c =
    let l = c.args.lines in
    let cs = (g.P.Parts.state c.args.parts.now).text in
    let part = c.args.start.now.part in
    let own = chars part.text.now in
    let start = c.args.start.now.offset in
    let back = c.from_byte-rest.ensures in
    let rest : text_after own start ≡ chars c.from_byte-rest.result.now = behind_boundary own start
    (record { front = back.front; back = chars c.from_byte-rest.result.now; split = back.parts; place = back.place }) in
    let first = c.args.line - part.lines in
    let within = lines_within cs l c.args.encoding part c.requires.part c.args.line c.requires.round in
    let later = later_line l own first (c.args.later - part.lines) (omega (arith, c.requires.order)) in
    let between : c.args.later - part.lines - first ≡ c.args.later - c.args.line = omega (arith, within, c.requires.order) in
    let found = rw c.scheme.ensures at c.to_byte_idx.ensures.answer in
    omega (
      arith,
      c.requires.offset,
      found ∙ ap (λ t. to_byte_idx (scheme_of l) t (c.args.later - c.args.line)) (sym rest)
          ∙ ap (λ n. to_byte_idx (scheme_of l) (text_after own start) n) (sym between)
          ∙ ap (λ n. to_byte_idx (scheme_of l) (text_after own n) (c.args.later - part.lines - first)) c.requires.offset,
      later,
    )

pub overflow_add-offset : goal.overflow_add-offset
overflow_add-offset g c =
    let l = c.args.lines in
    let part = c.args.start.now.part in
    let own = chars part.text.now in
    let within = part_within (g.P.Parts.state c.args.parts.now).text l c.args.encoding part c.requires.part in
    omega (
      arith,
      returns-clause-offset g c,
      to_byte_idx-le-size (scheme_of l) own (c.args.later - part.lines),
      within,
      c.len-len.ensures.short,
    )

pub returns-clause-place : goal.returns-clause-place
returns-clause-place g c =
    let l = c.args.lines in
    let cs = (g.P.Parts.state c.args.parts.now).text in
    let part = c.args.start.now.part in
    let round : HasLine cs l c.args.later part = record {
      after = elim c.requires.round.after [
        | inl past ↦ inl (omega (arith, past, c.requires.order))
        | inr first ↦ inr first
      ];
      before = elim c.else-line-later.branch [
        | else-line-later-via-then-line-later+else-part-len_of w ↦
            let within = part_within cs l c.args.encoding part c.requires.part in
            inr (omega (arith, within, c.len-len.ensures.len, w.len_of.ensures, w.if-part-len_of.false))
        | else-line-later-via-else-line-later w ↦ rw w.if-line-later.false at c.requires.round.before
      ];
    } in
    omega (arith, returns-clause-offset g c, line_place cs l c.args.encoding part c.requires.part c.args.later round)

pub returns-clause-boundary : goal.returns-clause-boundary
returns-clause-boundary g c =
    let own = chars c.args.start.now.part.text.now in
    subst (IsBoundary own) (sym (returns-clause-offset g c))
    (IsBoundary-to_byte_idx (scheme_of c.args.lines) own (c.args.later - c.args.start.now.part.lines))

pub returns-clause-cost : goal.returns-clause-cost
returns-clause-cost g c =
    taken_within c.len-len.ensures.searched (omega arith) (omega arith) (none_taken (g.P.Parts.state c.args.parts.now))
