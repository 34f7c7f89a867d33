use Rattle.text_rope.proofs.lemmas.{◌≡◌, take, summary_of, joined}
use Rattle.text_rope.specs.Leaves.{AreSome}
use Rattle.text_rope.proofs.leaf.summary_of_chunks.Given as goal

-- the summary of the chunks so far, none of which is empty
abbrev pub invariant-loop-chunk : goal.invariant-loop-chunk
invariant-loop-chunk l = record {
  whole : l.whole ≡ summary_of (joined (take l.chunk-index l.chunks));
  each : AreSome (take l.chunk-index l.chunks);
}
