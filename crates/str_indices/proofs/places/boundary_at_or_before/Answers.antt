use Rattle.str_indices.proofs.lemmas.{arith, cut_behind_three}
use Rattle.str_indices.proofs.places.boundary_at_or_before.Goals as goal

pub returns-after-loop-clause-boundary : goal.returns-after-loop-clause-boundary
returns-after-loop-clause-boundary g c =
    cut_behind_three _ c.len-len.ensures.utf8 _ _ (omega arith) (omega arith) c.loop.invariant.trails
