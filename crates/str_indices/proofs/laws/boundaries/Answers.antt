use Rattle.str_indices.proofs.lemmas.{IsCharBoundary-from_boundary, IsBoundary-from_char_boundary}
use Rattle.str_indices.proofs.laws.boundaries.Goals as goal

pub returns-clause-sliceable : goal.returns-clause-sliceable
returns-clause-sliceable c p =
    (IsCharBoundary-from_boundary _ c.utf8.text p, IsBoundary-from_char_boundary _ c.utf8.text p)
