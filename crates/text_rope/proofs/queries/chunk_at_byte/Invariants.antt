use Rattle.text_rope.proofs.lemmas.{◌≤◌, ◌++◌, take, Text, joined, IsFront}
use Rattle.text_rope.proofs.queries.chunk_at_byte.Given as goal

-- what is before chunk i is known, and that the byte is not in it
abbrev pub invariant-loop-i : goal.invariant-loop-i
invariant-loop-i l = record {
  front : (a : Text) → IsFront l.s a l.fn.before → IsFront l.s (a ++ joined (take l.i l.chunks)) l.front;
  after : l.front.len ≤ l.at;
}
