-- A chunk that another takes the place of.
--     IsShift old new shift     their summaries
--     FitsShift whole shift     the chunk stands in a text with that summary, which is not too long before and after
--     IsChangedIn whole new shift                 the chunk changed among the chunks new, whose text before has the summary whole
--     IsOneChanged old new from to text shift     one chunk of some, in which a part was replaced, and no other
use Rattle.std.specs.Prelude.{ℕ, ◌≡◌, ◌≢◌, ◌-◌, ◌^◌, ◌<◌, ◌≤◌, List, [], ◌∷◌, ◌++◌}
use Rattle.str_indices.specs.Text.{Text, size}
use Rattle.text_summary.specs.Changes.{IsReplaced}
use Rattle.text_summary.specs.Pieces.{joined, joined_size}
use Rattle.text_summary.specs.Summaries.{summary_of}
use Rattle.text_summary.specs.declared.summaries.Summary.{Summary}
use Rattle.text_rope.specs.declared.shifts.Shift.{Shift}

-- the summaries of a chunk before and after a change
pub record IsShift (old new : Text) (shift : Shift) : Type 0 where
  pub out : shift.out ≡ summary_of old
  pub own : shift.own ≡ summary_of new
  pub some : old ≢ []
  pub some_new : new ≢ []

-- the chunk stands in a text with that summary, which is not too long before and after
pub record FitsShift (whole : Summary) (shift : Shift) : Type 0 where
  pub x : Text
  pub old : Text
  pub new : Text
  pub y : Text
  pub whole_is : whole ≡ summary_of (x ++ (old ++ y))
  pub shift_is : IsShift old new shift
  pub short_old : size (x ++ (old ++ y)) < 2 ^ 63
  pub short_new : size (x ++ (new ++ y)) < 2 ^ 63

-- the chunk changed among the chunks new, whose text before the change has the summary whole
pub record IsChangedIn (whole : Summary) (new : List Text) (shift : Shift) : Type 0 where
  pub x : Text
  pub chunk : Text
  pub own : Text
  pub y : Text
  pub whole_is : whole ≡ summary_of (x ++ (chunk ++ y))
  pub new_is : joined new ≡ x ++ (own ++ y)
  pub shift_is : IsShift chunk own shift
  pub short_old : size (x ++ (chunk ++ y)) < 2 ^ 63
  pub short_new : joined_size new < 2 ^ 63

-- in one chunk of some, what is between two byte indices of their joined text was replaced by a text; all others stay
pub record IsOneChanged (old new : List Text) (from to : ℕ) (text : Text) (shift : Shift) : Type 0 where
  pub front : List Text
  pub chunk : Text
  pub own : Text
  pub back : List Text
  pub was : old ≡ front ++ chunk ∷ back
  pub is : new ≡ front ++ own ∷ back
  pub after : joined_size front ≤ from
  pub replaced : IsReplaced chunk own (from - joined_size front) (to - joined_size front) text
  pub shift_is : IsShift chunk own shift
