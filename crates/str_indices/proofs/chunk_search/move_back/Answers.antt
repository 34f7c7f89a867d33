use Rattle.str_indices.proofs.lemmas.Common.{◌+◌, ◌*◌, ap, arith, get_or, get_or_past}
use Rattle.str_indices.proofs.lemmas.Lanes.{lanes_same, lanes_shift}
use Rattle.str_indices.proofs.chunk_search.move_back.Goals as goal

pub fours-preserved : goal.fours-preserved
fours-preserved g c =
    let lanes = g.T.ByteChunk.lanes c.args.lanes in
    lanes_same (lanes_shift 4 (omega (arith, c.requires.in_range))
    (λ j past. get_or_past lanes (4 * c.fours.counter + j) 0 (omega (arith, c.requires.long))) c.fours.invariant
    c.shift_back_lex-moved.ensures) (λ j l. ap (λ k. get_or lanes k 0) (omega arith))
