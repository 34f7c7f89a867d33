use Rattle.piece_text.proofs.lemmas.{◌≡◌, ◌-◌, ◌<◌, length, take, pieces_in}
use Rattle.piece_text.proofs.view.runs.Runs.run_of.Given as goal

-- the piece is in a run before those that were gone over
abbrev pub invariant-loop-after : goal.invariant-loop-after
invariant-loop-after l = record {
  end : l.end ≡ pieces_in (take (length l.self-inside.runs.items - l.after) l.self-inside.runs.items);
  inside : l.at < l.end;
}
