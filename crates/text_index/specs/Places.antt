-- Places of a text where it may be parted.
--     IsMarkPlace text at    the place is between chars, and not between CR and LF
use Rattle.std.specs.Prelude.{ℕ, ◌≡◌, false, ◌++◌}
use Rattle.str_indices.specs.Text.{Text, size}
use Rattle.str_indices.specs.Joins.{joins_crlf}

-- the counts of the text before the place and of that after it add up
pub record IsMarkPlace (text : Text) (at : ℕ) : Type 0 where
  pub front : Text
  pub back : Text
  pub split : text ≡ front ++ back
  pub place : size front ≡ at
  pub whole : joins_crlf front back ≡ false
