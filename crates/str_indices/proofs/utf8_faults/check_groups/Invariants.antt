use Rattle.str_indices.proofs.lemmas.{◌-◌, ◌/◌, ◌≤◌, length, AllFollow, AreBefore, Reads}
use Rattle.str_indices.proofs.utf8_faults.check_groups.Given as goal

abbrev pub invariant-groups : goal.invariant-groups
invariant-groups g l =
    let text = l.initial.probe.text in
    let lanes = g.T.ByteChunk.lanes in
    record {
      low : l.from ≤ l.at;
      high : l.at ≤ length text;
      follow : AllFollow text 0 l.at;
      before : AreBefore g.T.ByteChunk.SIZE text l.at (lanes l.before.one_back) (lanes l.before.two_back) (lanes l.before.three_back);
      reads : Reads l.initial.probe l.probe l.from 0 ((l.at - l.from) / g.T.ByteChunk.SIZE) 0;
    }

abbrev pub decreases-groups : goal.decreases-groups
decreases-groups g l = l.len - l.at
