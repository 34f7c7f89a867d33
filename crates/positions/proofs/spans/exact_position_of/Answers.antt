use Rattle.positions.proofs.lemmas.{◌<◌, ◌⊎◌, inl, inr, from_byte_idx, to_byte_idx, scheme_of, ◌≡◌, ◌+◌, ◌-◌, ◌∙◌, sym, refl, arith, taken_after, taken_within, searched_before}
use Rattle.positions.specs.Parts.{HasByte}
use Rattle.positions.proofs.spans.exact_position_of.Goals as goal

pub returns-then-not-is_place-clause-some : goal.returns-then-not-is_place-clause-some
returns-then-not-is_place-clause-some g c =
    let part = c.part_of_byte-part in
    let cs = (g.P.Parts.state c.args.parts.now).text in
    let there : part.result.start + (c.args.byte - part.result.start) ≡ c.args.byte = omega (arith, part.ensures.round.after) in
    let round : HasByte cs (part.result.start + (c.args.byte - part.result.start)) part.result = rw there part.ensures.round in
    let place = rw there at (c.is_place.ensures cs c.args.encoding part.ensures.part round) in
    ((λ no. cc), λ is. sym c.if-not-is_place.true ∙ place.1 is)

pub returns-then-not-is_place-clause-cost : goal.returns-then-not-is_place-clause-cost
returns-then-not-is_place-clause-cost g c =
    let first = c.part_of_byte-part.ensures.cost in
    taken_within (searched_before first c.len-len.ensures.searched) (omega arith) (omega arith) first

pub returns-clause-some : goal.returns-clause-some
returns-clause-some g c =
    let part = c.part_of_byte-part in
    let cs = (g.P.Parts.state c.args.parts.now).text in
    let there : part.result.start + (c.args.byte - part.result.start) ≡ c.args.byte = omega (arith, part.ensures.round.after) in
    let round : HasByte cs (part.result.start + (c.args.byte - part.result.start)) part.result = rw there part.ensures.round in
    let place = rw there at (c.is_place.ensures cs c.args.encoding part.ensures.part round) in
    ((λ _. place.0 c.if-not-is_place.false), λ _. refl)

pub returns-clause-cost : goal.returns-clause-cost
returns-clause-cost g c =
    let first = c.part_of_byte-part.ensures.cost in
    rw first.unit_searches at (taken_after first c.position_from.ensures.cost)

pub returns-then-not-is_place-clause-near : goal.returns-then-not-is_place-clause-near
returns-then-not-is_place-clause-near g c near = c.part_of_byte-part.ensures.cost

pub returns-clause-near : goal.returns-clause-near
returns-clause-near g c near =
    let part = c.part_of_byte-part in
    let cs = (g.P.Parts.state c.args.parts.now).text in
    let begins : (part.result.start < to_byte_idx (scheme_of c.args.lines) cs (from_byte_idx (scheme_of c.args.lines) cs c.args.byte))
    ⊎ (part.result.start ≡ 0) = elim near [
      | inl before ↦ inl (omega (arith, before, part.ensures.start))
      | inr first ↦ inr (omega (arith, first, part.ensures.start))
    ] in
    taken_after part.ensures.cost (c.position_from.ensures.near (rw part.ensures.cost.text begins))
