-- What a look at a tree shows, and how many looks questions take.
--     IsLookAt whole look         the chunks of its one leaf, or both subtrees of its branch
--     Asks questions old new      a view after some questions, by what it was before
use Rattle.std.specs.Prelude.{ℕ, ◌≡◌, ◌+◌, ◌-◌, ◌*◌, ◌^◌, ◌≤◌, length}
use Rattle.text_rope.specs.Shapes.{Seen, IsLeafOf, IsBranchOf}
use Rattle.text_rope.specs.States.{RopeState}
use Rattle.text_rope.specs.declared.tree.Below.{Below}
use Rattle.text_rope.specs.declared.tree.Below.TheVariants.{Chunks, Subtrees}

-- the chunks of its one leaf, or both subtrees of its branch
abbrev pub IsLookAt : Seen → Below → Type 0
IsLookAt whole (Chunks chunks) = IsLeafOf whole chunks.now
IsLookAt whole (Subtrees left right) = IsBranchOf whole left.now right.now

-- at most `questions` questions, each of at most 2 log₂ (chunks + 1) looks and one read; the chunks stay as they are
pub record Asks (questions : ℕ) (old new : RopeState) : Type 0 where
  pub texts : new.texts ≡ old.texts
  pub looks : 2 ^ (new.looks - old.looks) ≤ ((length old.texts + 1) * (length old.texts + 1)) ^ questions
  pub looks_kept : old.looks ≤ new.looks
  pub reads : new.reads ≤ old.reads + questions
  pub reads_kept : old.reads ≤ new.reads
