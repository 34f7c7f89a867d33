-- A rope, and an iterator over its chunks, may go to another thread: nodes and chunks hold nothing of a thread's own.
use denote.Ref.{NamedLft}
use denote.Param.Send.{IsSend, IsSync, sendable, whole-keyless}
use Rattle.std.proofs.Crossing.{crosses}
use Rattle.byte_chunk.specs.contracts.counters.Counter as counter
use Rattle.text_rope.specs.contracts.chunk.Chunk as chunk
use Rattle.text_rope.specs.contracts.leaf.Leaf as leaf
use Rattle.text_rope.specs.contracts.tree.Subtree as subtree
use Rattle.text_rope.specs.contracts.tree.Tree as tree
use Rattle.text_rope.specs.contracts.rope.Rope as rope
use Rattle.text_rope.specs.contracts.rope.costs.Asked as asked
use Rattle.text_rope.specs.contracts.rope.views.View as view
use Rattle.text_rope.specs.contracts.iter.Chunks as chunks
use Rattle.text_rope.proofs.tree.Subtree.TheLaws.TheKnot as knot

chunk_send : IsSend chunk.the_row
chunk_send = search (sendable, crosses) depth 40

chunk_sync : IsSync chunk.the_row
chunk_sync = search (sendable, crosses) depth 40

leaf_send : IsSend leaf.the_row
leaf_send = search (sendable, crosses, chunk_send) depth 40

leaf_sync : IsSync leaf.the_row
leaf_sync = search (sendable, crosses, chunk_sync) depth 40

subtree_send : IsSend subtree.the_row
subtree_send = search (sendable, crosses, leaf_send, leaf_sync, knot.crosses) depth 40

tree_send : IsSend tree.the_row
tree_send = search (sendable, crosses, subtree_send) depth 40

pub rope_send : IsSend rope.the_row
rope_send = search (sendable, crosses, tree_send) depth 40

subtree_sync : IsSync subtree.the_row
subtree_sync = search (sendable, crosses, leaf_send, leaf_sync, knot.crosses) depth 40

-- a counter has no memory
counter_sync : IsSync counter.the_row
counter_sync = record { shared = λ d b o l x. (λ q. whole-keyless _ _ (λ y vs. (λ none. (tt, tt), tt)) q x.0 b o, tt) }

asked_send : IsSend asked.the_row
asked_send = search (sendable, crosses) depth 40

asked_sync : IsSync asked.the_row
asked_sync = search (sendable, crosses, counter_sync) depth 40

view_send : (κ : NamedLft) → IsSend (view.the_row κ)
view_send κ = search (sendable, crosses, asked_send, subtree_sync) depth 40

view_sync : (κ : NamedLft) → IsSync (view.the_row κ)
view_sync κ = search (sendable, crosses, asked_sync, subtree_sync) depth 40

-- so may an iterator over a rope's chunks, and several may ask it at once
pub chunks_send : (κ : NamedLft) → IsSend (chunks.the_row κ)
chunks_send κ = search (sendable, crosses, view_send, chunk_sync) depth 40

pub chunks_sync : (κ : NamedLft) → IsSync (chunks.the_row κ)
chunks_sync κ = search (sendable, crosses, view_sync, chunk_sync) depth 40
