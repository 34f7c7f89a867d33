-- Ways to answer queries in a scheme.
--     AnswersAs t s r       for the text, the scheme r answers as s does
--     CountsBytes t s       for the text, s answers as if each byte counted one
--     IsWay t s way         the way is right for the text and the scheme
use Rattle.std.specs.Prelude.{ℕ, ◌≡◌, min}
use Rattle.str_indices.specs.Text.{Text, size}
use Rattle.str_indices.specs.Schemes.{from_byte_idx, to_byte_idx}
use Rattle.str_indices.specs.declared.Scheme.{Scheme}
use Rattle.text_summary.specs.declared.queries.Way.{Way}
use Rattle.text_summary.specs.declared.queries.Way.TheVariants.{Bytes, By}

-- the scheme r answers as s does
pub record AnswersAs (t : Text) (s r : Scheme) : Type 0 where
  pub from : (b : ℕ) → from_byte_idx s t b ≡ from_byte_idx r t b
  pub to : (k : ℕ) → to_byte_idx s t k ≡ to_byte_idx r t k

-- s answers as if each byte counted one
pub record CountsBytes (t : Text) (s : Scheme) : Type 0 where
  pub from : (b : ℕ) → from_byte_idx s t b ≡ min b (size t)
  pub to : (k : ℕ) → to_byte_idx s t k ≡ min k (size t)

-- the way is right for the text and the scheme
abbrev pub IsWay : Text → Scheme → Way → Type 0
IsWay t s Bytes = CountsBytes t s
IsWay t s (By r) = AnswersAs t s r
