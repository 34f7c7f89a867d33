-- The answers of the definitions of lines and positions, as relations that compute nothing.
--     IsBreakStart l text p           a line break begins at p
--     IsLineEnd l text line p         p is the least place from the line's beginning on where a break begins, or the end
--     IsGreatestPlace l text byte p   p is the greatest place at or before the byte index that a position may have
--     IsAtOrBefore p q                position p is at or before position q
use Rattle.std.specs.Prelude.{ℕ, ◌≡◌, ◌<◌, ◌≤◌, ◌⊎◌, ◌∷◌, ◌++◌, IsTrue}
use Rattle.str_indices.specs.Text.{Text, size}
use Rattle.str_indices.specs.Schemes.{to_byte_idx}
use Rattle.str_indices.specs.Relations.{IsBoundary}
use Rattle.positions.specs.Lines.{IsPlace, is_break, scheme_of}
use Rattle.positions.specs.declared.Position.{Position}
use Rattle.positions.specs.declared.line_type.LineType.{LineType}

-- the text is front, then the char with which a break begins, and then back, and front takes p bytes
pub record IsBreakStart (l : LineType) (text : Text) (p : ℕ) : Type 0 where
  pub front : Text
  pub character : ℕ
  pub back : Text
  pub split : text ≡ front ++ character ∷ back
  pub place : size front ≡ p
  pub is_break : IsTrue (is_break l character)

-- p is a boundary from the line's beginning on; a break begins there, or the text ends; and none begins between
pub record IsLineEnd (l : LineType) (text : Text) (line p : ℕ) : Type 0 where
  pub boundary : IsBoundary text p
  pub from_start : to_byte_idx (scheme_of l) text line ≤ p
  pub break_or_end : IsBreakStart l text p ⊎ (p ≡ size text)
  pub least : (q : ℕ) → IsBreakStart l text q → to_byte_idx (scheme_of l) text line ≤ q → p ≤ q

-- p is a place at or before the byte index, and no greater one is
pub record IsGreatestPlace (l : LineType) (text : Text) (byte p : ℕ) : Type 0 where
  pub place : IsPlace l text p
  pub at_or_before : p ≤ byte
  pub greatest : (q : ℕ) → IsPlace l text q → q ≤ byte → q ≤ p

-- p is on an earlier line, or on the same line and no further on it
abbrev pub IsAtOrBefore : Position → Position → Type 0
IsAtOrBefore p q = (p.line < q.line) ⊎ ((p.line ≡ q.line) × (p.character ≤ q.character))
