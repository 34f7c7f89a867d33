use Rattle.str_indices.proofs.lemmas.{arith, boundary_of_cut}
use Rattle.str_indices.proofs.chars.from_byte_idx_impl.Goals as goal

pub count_impl-requires-clause-boundary : goal.count_impl-requires-clause-boundary
count_impl-requires-clause-boundary g c = grind (arith, boundary_of_cut)
