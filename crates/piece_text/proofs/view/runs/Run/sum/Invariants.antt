use Rattle.piece_text.proofs.lemmas.{◌≡◌, take, joined, summary_of}
use Rattle.piece_text.proofs.view.runs.Run.sum.Given as goal

-- the sum is that of the pieces before piece i
abbrev pub invariant-loop-i : goal.invariant-loop-i
invariant-loop-i l = l.whole ≡ summary_of (joined (take l.i l.pieces))
