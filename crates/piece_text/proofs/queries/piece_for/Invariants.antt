use Rattle.piece_text.proofs.lemmas.{◌≡◌, ◌≢◌, ◌+◌, ◌-◌, ◌<◌, [], length, take, to_byte_idx, joined, piece_at, IsFront}
use Rattle.piece_text.proofs.queries.piece_for.Given as goal

-- what is before piece i is known, for one look a piece, and which of the pieces of the range answers for it
abbrev pub invariant-loop-i : goal.invariant-loop-i
invariant-loop-i l = record {
  front : IsFront l.s (joined (take l.i l.fn.p.texts)) l.front;
  state : l.p ≡ record l.initial.p { looks = l.initial.p.looks + (l.i - l.initial.i) };
  below : l.i ≡ l.initial.i → l.front.total < l.k;
  inside : l.asked.piece < length l.fn.p.texts;
  some : l.initial.i < l.i → piece_at l.fn.p.texts (l.i - 1) ≢ [];
  answer : l.initial.i < l.i → to_byte_idx l.s (joined (take l.i l.fn.p.texts)) l.k
      ≡ l.asked.start + to_byte_idx l.s (piece_at l.fn.p.texts l.asked.piece) l.asked.index;
}
