use Rattle.positions.proofs.lemmas.{◌≡◌, ◌+◌, ◌≤◌, inl, inr, arith, chars, cases_lt, not_none, some_is, units_of, weighed, weighed_same, weighed_within, units_at, none_taken, taken_within}
use Rattle.positions.proofs.starts.units_up_to.Goals as goal

pub overflow_add-result : goal.overflow_add-result
overflow_add-result g c =
    let cs = (g.P.Parts.state c.args.parts.now).text in
    let e = c.args.encoding in
    let part = c.args.part.now in
    omega (
      arith,
      c.units_before.ensures,
      weighed_same e c.encoding.result (chars part.text.now) (c.encoding.ensures cs c.args.lines c.requires.part) c.args.at,
      units_at cs c.args.lines e part c.requires.part c.args.at c.requires.within,
      some_is (λ n. n ≡ weighed (units_of e) cs part.start) part.units c.in-Some.before c.requires.part.units c.in-Some.is,
      weighed_within e cs (part.start + c.args.at),
      c.len-len.ensures.short,
    )

pub returns-in-Some-clause-answer : goal.returns-in-Some-clause-answer
returns-in-Some-clause-answer g c =
    let cs = (g.P.Parts.state c.args.parts.now).text in
    let e = c.args.encoding in
    let part = c.args.part.now in
    omega (
      arith,
      c.units_before.ensures,
      weighed_same e c.encoding.result (chars part.text.now) (c.encoding.ensures cs c.args.lines c.requires.part) c.args.at,
      units_at cs c.args.lines e part c.requires.part c.args.at c.requires.within,
      some_is (λ n. n ≡ weighed (units_of e) cs part.start) part.units c.in-Some.before c.requires.part.units c.in-Some.is,
    )

pub returns-in-Some-clause-cost : goal.returns-in-Some-clause-cost
returns-in-Some-clause-cost g c =
    taken_within c.len-len.ensures.searched (omega arith) (omega arith) (none_taken (g.P.Parts.state c.args.parts.now))

pub returns-in-None-clause-cost : goal.returns-in-None-clause-cost
returns-in-None-clause-cost g c =
    let state = g.P.Parts.state c.args.parts.now in
    let one : 1 ≤ state.unit_searches = elim (cases_lt 0 state.unit_searches) [
      | inl some ↦ some
      | inr none ↦ absurd (not_none c.args.part.now.units c.in-None.is (c.requires.units (omega (arith, none))))
    ] in
    taken_within c.len-len.ensures.searched one (omega arith) c.units_of_byte.ensures.cost
