use Rattle.piece_text.proofs.lemmas.{◌≡◌, ◌≤◌, take, joined_size, pieces_in}
use Rattle.piece_text.proofs.view.runs.span_round.Given as goal

-- the byte is in the run, or after it
abbrev pub invariant-loop-run : goal.invariant-loop-run
invariant-loop-run l = record {
  first : l.first ≡ pieces_in (take l.run-index l.runs);
  start : l.start ≡ joined_size (take l.first l.fn.pieces);
  past : l.start ≤ l.byte_idx;
}
