use Rattle.std.proofs.Math.Nat.{max-eq_left}
use Rattle.text_rope.proofs.lemmas.{◌≡◌, ◌∙◌, goes_far, arith}
use Rattle.text_rope.proofs.loads.end_near.Goals as goal

the_end : (c : goal.After-max) → c.max.result ≡ c.floor_char_boundary-end.result
the_end c =
    let end = c.floor_char_boundary-end in
    let far = goes_far c.args.text.now c.utf8.text end.result c.args.at end.ensures.boundary (omega (arith, end.ensures.bound, c.requires))
    end.ensures.nearest in
    c.max.ensures ∙ max-eq_left (omega (arith, far, c.saturating_sub.ensures))

pub returns-clause-bound : goal.returns-clause-bound
returns-clause-bound c = rw (the_end c) c.floor_char_boundary-end.ensures.bound

pub returns-clause-boundary : goal.returns-clause-boundary
returns-clause-boundary c = rw (the_end c) c.floor_char_boundary-end.ensures.boundary

pub returns-clause-nearest : goal.returns-clause-nearest
returns-clause-nearest c = rw (the_end c) c.floor_char_boundary-end.ensures.nearest
