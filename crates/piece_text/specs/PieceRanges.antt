-- Which pieces are still to be looked at one by one.
--     IsRunAt texts first run         from that number on the texts are those of the run, and then others
--     IsRunOf texts run               the texts have the run
--     IsPieceRange s texts range       the range is of these texts, and it is known what is before it
--     IsSettled s texts end k         the text has the index, and one piece more, before a piece
--     IsSpanRound texts byte part     the byte is in the part, or past the end
use Rattle.std.specs.Prelude.{ℕ, ◌≡◌, ◌+◌, ◌<◌, ◌≤◌, List, ◌++◌, length, take}
use Rattle.str_indices.specs.Schemes.{count}
use Rattle.str_indices.specs.Text.{Text}
use Rattle.str_indices.specs.declared.Scheme.{Scheme}
use Rattle.text_summary.specs.Fronts.{IsFront}
use Rattle.piece_text.specs.Pieces.{joined, joined_size}
use Rattle.piece_text.specs.Runs.{IsRun}
use Rattle.piece_text.specs.declared.view.runs.Run.{Run}
use Rattle.piece_text.specs.declared.view.runs.PieceSpan.{PieceSpan}
use Rattle.piece_text.specs.declared.ranges.PieceRange.{PieceRange}

-- from that number on the texts are those of the run, and then others
pub record IsRunAt (texts : List Text) (first : ℕ) (run : Run) : Type 0 where
  pub before : List Text
  pub own : List Text
  pub after : List Text
  pub split : texts ≡ before ++ (own ++ after)
  pub place : length before ≡ first
  pub is : IsRun run own

-- the texts have the run, from some number on
abbrev pub IsRunOf : List Text → Run → Type 0
IsRunOf texts run = (first : ℕ) × IsRunAt texts first run

-- the range is of these texts, and it is known what is before it
pub record IsPieceRange (s : Scheme) (texts : List Text) (range : PieceRange) : Type 0 where
  pub order : range.first ≤ range.end
  pub within : range.end ≤ length texts
  pub front : IsFront s (joined (take range.first texts)) range.front

-- before the last of the texts up to a place the index is counted
pub record IsSettled (s : Scheme) (texts : List Text) (end k : ℕ) : Type 0 where
  pub before : ℕ
  pub one_more : end ≡ before + 1
  pub counted : k ≤ count s (joined (take before texts))

-- the part starts at or before the byte, and ends after it, or with the texts
pub record IsSpanRound (texts : List Text) (byte : ℕ) (part : PieceSpan) : Type 0 where
  pub order : part.first ≤ part.end
  pub within : part.end ≤ length texts
  pub start : part.start ≡ joined_size (take part.first texts)
  pub past : part.start ≤ byte
  pub end_past : part.end < length texts → byte < joined_size (take part.end texts)
