use Rattle.piece_text.proofs.lemmas.{◌≡◌, ◌≤◌, take, joined_size}
use Rattle.piece_text.proofs.list.PieceText.piece_round.Given as goal

-- where piece i starts is at or before the byte
abbrev pub invariant-loop-i : goal.invariant-loop-i
invariant-loop-i l = record {
  start : l.start ≡ joined_size (take l.i l.self-inside.pieces.items);
  past : l.start ≤ l.byte_idx;
}
