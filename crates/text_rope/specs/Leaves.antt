-- A leaf: some chunks in one node of a tree.
--     leaf_capacity          how many chunks a leaf has at most
--     HasBytes chunk      it is not empty
--     AreSome chunks      none is
--     IsLeaf chunks      what holds of each leaf
use Rattle.std.specs.Prelude.{ℕ, ◌≢◌, ◌<◌, ◌≤◌, List, [], length}
use Rattle.std.specs.List.{All}
use Rattle.str_indices.specs.Text.{Text}

-- how many chunks a leaf has at most
abbrev pub leaf_capacity : ℕ
leaf_capacity = 32

-- a chunk is not empty
abbrev pub HasBytes : Text → Type 0
HasBytes chunk = chunk ≢ []

-- none of them is
abbrev pub AreSome : List Text → Type 0
AreSome chunks = All HasBytes chunks

-- what holds of each leaf
pub record IsLeaf (chunks : List Text) : Type 0 where
  pub some : 0 < length chunks
  pub few : length chunks ≤ leaf_capacity
  pub each : AreSome chunks
