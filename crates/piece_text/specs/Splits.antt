-- A list of pieces with one of them cut in two.
--     IsEdge texts byte           a piece starts or ends at the byte index, or the text does
--     IsHalved text a b at        the text is a and then b, neither is empty, and a takes `at` bytes
--     IsCut old new byte          new is old with the piece round the byte index cut in two there
--     IsSplit old new byte        new is that, or it is old, where the byte index is an edge
use Rattle.std.specs.Prelude.{ℕ, ◌≡◌, ◌≢◌, ◌+◌, ◌⊎◌, List, [], ◌∷◌, ◌++◌}
use Rattle.str_indices.specs.Text.{Text, size}
use Rattle.piece_text.specs.Pieces.{joined_size}

-- some first pieces end at the byte index
pub record IsEdge (texts : List Text) (byte : ℕ) : Type 0 where
  pub before : List Text
  pub after : List Text
  pub split : texts ≡ before ++ after
  pub place : joined_size before ≡ byte

-- the text is a and then b, neither is empty, and a takes `at` bytes
pub record IsHalved (text a b : Text) (at : ℕ) : Type 0 where
  pub halves : text ≡ a ++ b
  pub place : size a ≡ at
  pub left_some : a ≢ []
  pub right_some : b ≢ []

-- one piece is cut in two, so that the first half ends at the byte index
pub record IsCut (old new : List Text) (byte : ℕ) : Type 0 where
  pub before : List Text
  pub text : Text
  pub left : Text
  pub right : Text
  pub after : List Text
  pub was : old ≡ before ++ text ∷ after
  pub is : new ≡ before ++ left ∷ right ∷ after
  pub at : ℕ
  pub halved : IsHalved text left right at
  pub place : joined_size before + at ≡ byte

-- one piece is cut in two, or the byte index is an edge and nothing changes
abbrev pub IsSplit : List Text → List Text → ℕ → Type 0
IsSplit old new byte = IsCut old new byte ⊎ (IsEdge old byte × (new ≡ old))
