-- What a node is seen as, and what holds of it.
--     seen node               the texts of its chunks in order, and its height
--     IsSound node summary    what holds of a node beside the summary of its text
use Rattle.std.specs.Prelude.{ℕ, ◌≡◌, ◌+◌, ◌^◌, ◌<◌, ◌≤◌, max, ◌++◌, length}
use Rattle.text_summary.specs.Pieces.{joined, joined_size}
use Rattle.text_summary.specs.Summaries.{summary_of}
use Rattle.text_summary.specs.declared.summaries.Summary.{Summary}
use Rattle.text_rope.specs.Leaves.{AreSome}
use Rattle.text_rope.specs.Shapes.{Seen, DifferByAtMost, fewest}
use Rattle.text_rope.specs.declared.tree.Node.{Node}
use Rattle.text_rope.specs.declared.tree.Node.TheVariants.{Leaf, Branch}

-- what is known of each tree: the summary of its text, which is not too long, that no chunk is empty, and how low it is
pub record IsSubtree (whole : Seen) (summary : Summary) : Type 0 where
  pub summary_is : summary ≡ summary_of (joined whole.texts)
  pub some : 0 < length whole.texts
  pub short : joined_size whole.texts < 2 ^ 63
  pub each : AreSome whole.texts
  pub low : whole.height < length whole.texts
  pub many : fewest whole.height ≤ length whole.texts

-- what is known of a branch over two trees
pub record IsBranch (left right : Seen) (height : ℕ) : Type 0 where
  pub height_is : height ≡ max left.height right.height + 1
  pub balanced : DifferByAtMost 1 left.height right.height
  pub some_left : 0 < length left.texts
  pub some_right : 0 < length right.texts

abbrev pub seen : Node → Seen
seen (Leaf b) = record { texts = b.value; height = 0 }
seen (Branch f) = record { texts = f.value.left.texts ++ f.value.right.texts; height = f.value.height }

abbrev pub IsSound : Node → Summary → Type 0
IsSound (Leaf b) summary = IsSubtree (seen (Leaf b)) summary
IsSound (Branch f) summary = IsSubtree (seen (Branch f)) summary × IsBranch f.value.left f.value.right f.value.height
