-- A probe as contracts see it.
use Rattle.std.specs.Prelude.{ℕ, List}

-- A probe's text, how often it was asked for a byte by `turn`, for a chunk by `load` and for a byte by `peek`, and
-- the least place that a chunk was loaded from, or the text's length where none was.
pub record ProbeState : Type 0 where
  pub text : List ℕ
  pub turns : ℕ
  pub loads : ℕ
  pub peeks : ℕ
  pub low : ℕ
