use Rattle.piece_text.proofs.lemmas.{◌≡◌, ◌≤◌, ◌+◌, take, joined, pieces_in, summary_of}
use Rattle.piece_text.proofs.sums.sum_of_runs.Given as goal

-- the sum is that of the pieces before the run, for one look a run
abbrev pub invariant-loop-run : goal.invariant-loop-run
invariant-loop-run l = record {
  pieces : l.pieces ≡ pieces_in (take l.run-index l.run-items);
  whole : l.whole ≡ summary_of (joined (take l.pieces l.fn.p.texts));
  state : l.p ≡ record l.fn.p { looks = l.fn.p.looks + l.run-index };
  looks : l.run-index ≤ l.pieces;
}
