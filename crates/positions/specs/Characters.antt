-- Places of a text.
--     IsCharacterAt text c p     a char begins there
--     IsBackOf whole back at     the text from there on
use Rattle.std.specs.Prelude.{ℕ, ◌≡◌, ◌∷◌, ◌++◌}
use Rattle.str_indices.specs.Text.{Text, size}

-- the text is front, then the char, and then back, and front takes p bytes
pub record IsCharacterAt (text : Text) (c p : ℕ) : Type 0 where
  pub front : Text
  pub back : Text
  pub split : text ≡ front ++ c ∷ back
  pub place : size front ≡ p

-- the text from a byte index on
pub record IsBackOf (whole back : Text) (at : ℕ) : Type 0 where
  pub front : Text
  pub parts : whole ≡ front ++ back
  pub place : size front ≡ at
