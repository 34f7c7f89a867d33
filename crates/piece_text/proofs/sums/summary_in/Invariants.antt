use Rattle.piece_text.proofs.lemmas.{◌≡◌, ◌+◌, ◌-◌, take, joined, summary_of}
use Rattle.piece_text.proofs.sums.summary_in.Given as goal

-- the sum is that of the pieces before piece i, for one look a piece
abbrev pub invariant-loop-i : goal.invariant-loop-i
invariant-loop-i l = record {
  whole : l.whole ≡ summary_of (joined (take l.i l.fn.p.texts));
  state : l.p ≡ record l.initial.p { looks = l.initial.p.looks + (l.i - l.initial.i) };
}
