use Rattle.str_indices.specs.Joins.{seam_loss}
use Rattle.piece_text.proofs.lemmas.{◌≡◌, ◌+◌, ◌-◌, ◌<◌, take, joined, piece_at, IsFront}
use Rattle.piece_text.specs.Parts.{IsPlaced}
use Rattle.piece_text.proofs.places.piece_up_to.Given as goal

-- what is before piece i is known, for one look a piece; and the piece before it is, before which the text does not come to
-- the count
abbrev pub invariant-loop-i : goal.invariant-loop-i
invariant-loop-i l = record {
  front : IsFront l.s (joined (take l.i l.fn.p.texts)) l.front;
  state : l.p ≡ record l.initial.p { looks = l.initial.p.looks + (l.i - l.initial.i) };
  below : l.i ≡ l.initial.i → l.front.total < l.k;
  placed : l.initial.i < l.i → IsPlaced l.s l.fn.p.texts l.last;
  next : l.initial.i < l.i → l.i ≡ l.last.piece + 1;
  past : l.initial.i < l.i → l.last.before.total
      - seam_loss l.s (joined (take l.last.piece l.fn.p.texts)) (piece_at l.fn.p.texts l.last.piece) < l.k;
}
