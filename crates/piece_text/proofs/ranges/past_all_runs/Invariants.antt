use Rattle.piece_text.proofs.lemmas.{◌≡◌, ◌≤◌, ◌+◌, take, joined, pieces_in, IsFront}
use Rattle.piece_text.proofs.ranges.past_all_runs.Given as goal

-- what is before the run is known, for one look a run
abbrev pub invariant-loop-run : goal.invariant-loop-run
invariant-loop-run l = record {
  first : l.first ≡ pieces_in (take l.run-index l.run-items);
  front : IsFront l.s (joined (take l.first l.fn.p.texts)) l.front;
  state : l.p ≡ record l.fn.p { looks = l.fn.p.looks + l.run-index };
  looks : l.run-index ≤ l.first;
}
