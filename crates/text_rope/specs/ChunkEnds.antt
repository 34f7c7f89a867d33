-- The ends of a tree's chunks.
--     IsChunkEnd texts at                    a chunk ends there, or it is the beginning
--     AreFirst texts front at              the chunks before there
--     AreLast texts back at                the chunks after it
--     AreExchanged old new from to chunks    chunks replaced by others
--     IsChunkOf texts chunk start end          a chunk, and where it starts and ends
use Rattle.std.specs.Prelude.{ℕ, ◌≡◌, ◌+◌, List, ◌∷◌, ◌++◌}
use Rattle.str_indices.specs.Text.{Text, size}
use Rattle.text_summary.specs.Pieces.{joined_size}

-- a chunk ends at a byte index, or the index is 0: the chunks before it have as many bytes
pub record IsChunkEnd (texts : List Text) (at : ℕ) : Type 0 where
  pub front : List Text
  pub back : List Text
  pub split : texts ≡ front ++ back
  pub place : joined_size front ≡ at

-- the chunks before a byte index, at which one ends or all begin
pub record AreFirst (texts front : List Text) (at : ℕ) : Type 0 where
  pub back : List Text
  pub split : texts ≡ front ++ back
  pub place : joined_size front ≡ at

-- and those after it
pub record AreLast (texts back : List Text) (at : ℕ) : Type 0 where
  pub front : List Text
  pub split : texts ≡ front ++ back
  pub place : joined_size front ≡ at

-- the chunks between two byte indices, at each of which one ends or all begin, are replaced by others
pub record AreExchanged (old new : List Text) (from to : ℕ) (chunks : List Text) : Type 0 where
  pub front : List Text
  pub back : List Text
  pub first : AreFirst old front from
  pub last : AreLast old back to
  pub is : new ≡ front ++ (chunks ++ back)

-- a chunk, and where it starts and ends
pub record IsChunkOf (texts : List Text) (chunk : Text) (start end : ℕ) : Type 0 where
  pub front : List Text
  pub back : List Text
  pub parts : texts ≡ front ++ chunk ∷ back
  pub start_is : start ≡ joined_size front
  pub end_is : end ≡ start + size chunk
