use Rattle.str_indices.proofs.lemmas.{arith, no_boundary_before, boundary_behind_three}
use Rattle.str_indices.proofs.places.boundary_at_or_after.Goals as goal

pub returns-after-loop-clause-boundary : goal.returns-after-loop-clause-boundary
returns-after-loop-clause-boundary g c =
    boundary_behind_three _ c.len-len.ensures.utf8 _ _ (omega arith) c.loop.invariant.within c.loop.invariant.trails

pub returns-after-loop-clause-least : goal.returns-after-loop-clause-least
returns-after-loop-clause-least g c =
    no_boundary_before _ c.len-len.ensures.utf8 _ _ c.loop.invariant.within c.loop.invariant.trails

pub returns-then-boundary-len-clause-least : goal.returns-then-boundary-len-clause-least
returns-then-boundary-len-clause-least g c =
    no_boundary_before _ c.len-len.ensures.utf8 _ _ c.loop.invariant.within c.loop.invariant.trails
