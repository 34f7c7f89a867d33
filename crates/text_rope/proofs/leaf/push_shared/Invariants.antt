use Rattle.text_rope.proofs.lemmas.{◌≡◌, ◌+◌, ◌++◌, take}
use Rattle.text_rope.proofs.leaf.push_shared.Given as goal

-- the chunks so far, each of which is counted
abbrev pub invariant-loop-chunk : goal.invariant-loop-chunk
invariant-loop-chunk l = record {
  chunks : l.chunks.items ≡ l.fn.chunks.items ++ take l.chunk-index l.more;
  nodes : l.work.nodes ≡ l.fn.work.nodes;
  copied : l.work.chunks ≡ l.fn.work.chunks + l.chunk-index;
}
