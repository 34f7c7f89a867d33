use Rattle.text_rope.proofs.lemmas.{◌≡◌, ◌<◌, ◌≤◌, take, joined_size}
use Rattle.text_rope.proofs.leaf.chunk_up_to.Given as goal

-- the bytes of the chunks so far, which end before the place
abbrev pub invariant-loop-i : goal.invariant-loop-i
invariant-loop-i l = record {
  start : l.start ≡ joined_size (take l.i l.chunks);
  past : l.start ≤ l.to;
  before : 0 < l.i → l.start < l.to;
}
