use Rattle.positions.proofs.lemmas.{◌<◌, ◌⊎◌, ◌≡◌, inl, inr, arith, taken_after, from_byte_idx, to_byte_idx, scheme_of}
use Rattle.positions.proofs.queries.position_of.Goals as goal

pub returns-clause-cost : goal.returns-clause-cost
returns-clause-cost g c =
    let first = c.part_of_byte-part.ensures.cost in
    rw first.unit_searches at (taken_after first c.position_from.ensures.cost)

pub returns-clause-near : goal.returns-clause-near
returns-clause-near g c near =
    let part = c.part_of_byte-part in
    let cs = (g.P.Parts.state c.args.parts.now).text in
    let begins : (part.result.start < to_byte_idx (scheme_of c.args.lines) cs (from_byte_idx (scheme_of c.args.lines) cs c.args.byte))
    ⊎ (part.result.start ≡ 0) = elim near [
      | inl before ↦ inl (omega (arith, before, part.ensures.start))
      | inr first ↦ inr (omega (arith, first, part.ensures.start))
    ] in
    taken_after part.ensures.cost (c.position_from.ensures.near (rw part.ensures.cost.text begins))
