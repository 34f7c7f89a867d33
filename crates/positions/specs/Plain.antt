-- The beginning of a line whose chars each take one byte, and so one unit in every encoding.
--     IsPlain c                 an ASCII char that is no line break: neither LF nor CR, and not VT or FF between them
--     BeginsPlain text bytes    the first `bytes` bytes of the text are such chars
use Rattle.std.specs.Prelude.{ℕ, ◌≡◌, ◌<◌, ◌⊎◌, ◌++◌, All}
use Rattle.str_indices.specs.Text.{Text, size, line_feed, carriage_return}

-- an ASCII char that is no line break: neither LF nor CR, and not VT or FF between them
abbrev pub IsPlain : ℕ → Type 0
IsPlain c = (c < 128) × ((c < line_feed) ⊎ (carriage_return < c))

-- the first `bytes` bytes of the text are such chars
pub record BeginsPlain (text : Text) (bytes : ℕ) : Type 0 where
  pub front : Text
  pub back : Text
  pub split : text ≡ front ++ back
  pub place : size front ≡ bytes
  pub plain : All IsPlain front
