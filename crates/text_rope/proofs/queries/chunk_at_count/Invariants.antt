use Rattle.text_rope.proofs.lemmas.{◌≡◌, ◌-◌, ◌<◌, ◌≤◌, ◌++◌, take, length, Text, count, seam_loss, joined, piece_at, IsFront}
use Rattle.text_rope.proofs.queries.chunk_at_count.Given as goal

-- the chunk before chunk i is at hand, and what is before it is known and does not reach the count
abbrev pub invariant-loop-i : goal.invariant-loop-i
invariant-loop-i l = record {
  within : l.i ≤ length l.chunks;
  last : l.last ≡ piece_at l.chunks (l.i - 1);
  front : (a : Text) → IsFront l.s a l.fn.before → IsFront l.s (a ++ joined (take (l.i - 1) l.chunks)) l.front;
  past : (a : Text) → IsFront l.s a l.fn.before
      → count l.s (a ++ joined (take (l.i - 1) l.chunks)) - seam_loss l.s (a ++ joined (take (l.i - 1) l.chunks)) l.last < l.k;
}
