use Rattle.piece_text.proofs.lemmas.{◌≡◌, ◌+◌, ◌-◌, ◌≤◌, take, joined, IsFront}
use Rattle.piece_text.proofs.places.piece_round.Given as goal

-- what is before piece i is known, for one look a piece
abbrev pub invariant-loop-i : goal.invariant-loop-i
invariant-loop-i l = record {
  front : IsFront l.s (joined (take l.i l.fn.p.texts)) l.front;
  state : l.p ≡ record l.initial.p { looks = l.initial.p.looks + (l.i - l.initial.i) };
  past : l.front.len ≤ l.b;
}
