-- A tree as a question sees it.
--     RopeState            the chunks' texts, and how many nodes were looked at and chunks read
--     AskedState           how many nodes were looked at and chunks read
--     unasked texts        a view of them when it is new
--     texts_of root        the chunks' texts of a tree that may have none
--     texts_under root     the same where it is lent
use Rattle.std.specs.Prelude.{ℕ, List, [], Option, Some, None}
use Rattle.std.specs.Borrow.{Bor}
use Rattle.std.specs.Option.{option_copied}
use Rattle.str_indices.specs.Text.{Text}
use Rattle.text_rope.specs.Shapes.{Seen}

-- what contracts see of `View`
pub record RopeState : Type 0 where
  pub texts : List Text
  pub looks : ℕ
  pub reads : ℕ

-- what contracts see of the two counters of a view
pub record AskedState : Type 0 where
  pub looks : ℕ
  pub reads : ℕ

-- a view of chunks when it is new
abbrev pub unasked : List Text → RopeState
unasked texts = record { texts = texts; looks = 0; reads = 0 }

-- the chunks' texts of a tree that may have none
abbrev pub texts_of : Option Seen → List Text
texts_of None = []
texts_of (Some subtree) = subtree.texts

-- the same where it is lent
abbrev pub texts_under : Option (Bor Seen) → List Text
texts_under root = texts_of (option_copied root)
