use Rattle.str_indices.proofs.lemmas.{◌≡◌, ◌-◌, ◌≤◌, byte_before, sum_below, IsWalked, Reads}
use Rattle.str_indices.proofs.walks.walk.Given as goal

abbrev pub invariant-loop-i : goal.invariant-loop-i
invariant-loop-i g l =
    let counted_at = g.C.PlaceCounts.counted_at l.fn.end l.initial.probe.text in
    record {
      from_low : l.fn.from ≤ l.place;
      counted : l.count ≡ sum_below counted_at l.i;
      walked : IsWalked counted_at l.fn.idx l.place l.i;
      before : l.before ≡ byte_before l.initial.probe.text l.i;
      reads : Reads l.initial.probe l.probe 0 (l.i - l.fn.from) 0 0;
    }
