use Rattle.str_indices.proofs.lemmas.Common.{◌+◌, ◌*◌, get_or, HasLanes}
use Rattle.str_indices.proofs.chunk_search.move_back.Given as goal

abbrev pub invariant-fours : goal.invariant-fours
invariant-fours g l = HasLanes g.T.ByteChunk.SIZE
    (λ j. get_or (g.T.ByteChunk.lanes l.fn.lanes) (4 * l.counter + j) 0) (g.T.ByteChunk.lanes l.moved)
