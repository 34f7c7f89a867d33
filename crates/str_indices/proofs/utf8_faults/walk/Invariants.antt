use Rattle.str_indices.proofs.lemmas.{◌≡◌, ◌+◌, get_or, AllFollow, Reads, after_zeros}
use Rattle.str_indices.proofs.utf8_faults.walk.Given as goal

abbrev pub invariant-loop-i : goal.invariant-loop-i
invariant-loop-i g l =
    let all = after_zeros l.initial.probe.text in
    record {
      follow : AllFollow l.initial.probe.text 0 l.i;
      x : l.x ≡ get_or all l.i 0;
      y : l.y ≡ get_or all (l.i + 1) 0;
      z : l.z ≡ get_or all (l.i + 2) 0;
      reads : Reads l.initial.probe l.probe 0 l.i 0 0;
    }
