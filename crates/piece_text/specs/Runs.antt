-- Runs of pieces, one after the other.
--     IsRun run texts          the run is that of the texts
--     AreRuns runs texts       the runs are those of the first texts, and the other texts are in none
--     pieces_in runs           how many pieces the runs have
--     IsSwap old new at swap   new is old with some texts for others at a place
--     IsRunSwapped run new at swap   the run is that of texts that were swapped so
--     Swapped runs new at swap       the runs are those of a list that was swapped so
use Rattle.std.specs.Prelude.{ℕ, ◌≡◌, ◌≢◌, ◌+◌, ◌^◌, ◌<◌, ◌≤◌, List, [], ◌∷◌, ◌++◌, length}
use Rattle.str_indices.specs.Text.{Text}
use Rattle.piece_text.specs.Pieces.{joined, joined_size}
use Rattle.piece_text.specs.Summaries.{summary_of}
use Rattle.piece_text.specs.declared.view.runs.Run.{Run}
use Rattle.piece_text.specs.declared.view.runs.Swap.{Swap}

-- its number of pieces and its sum are those of the texts, and these are not empty
pub record IsRun (run : Run) (texts : List Text) : Type 0 where
  pub count : length texts ≡ run.pieces
  pub whole : run.whole ≡ summary_of (joined texts)
  pub some : joined texts ≢ []

-- the first run is that of the first texts, and so on
abbrev pub AreRuns : List Run → List Text → Type 0
AreRuns [] texts = Unit {0}
AreRuns (run ∷ runs) texts =
    (own : List Text) × (rest : List Text) × (texts ≡ own ++ rest) × IsRun run own × AreRuns runs rest

-- how many pieces the runs have
abbrev pub pieces_in : List Run → ℕ
pieces_in [] = 0
pieces_in (run ∷ runs) = run.pieces + pieces_in runs

-- at a place some texts come for others, as the swap has it
pub record IsSwap (old new : List Text) (at : ℕ) (swap : Swap) : Type 0 where
  pub before : List Text
  pub gone : List Text
  pub come : List Text
  pub after : List Text
  pub was : old ≡ before ++ (gone ++ after)
  pub is : new ≡ before ++ (come ++ after)
  pub place : length before ≡ at
  pub gone_count : length gone ≡ swap.gone
  pub come_count : length come ≡ swap.come
  pub out : swap.out ≡ summary_of (joined gone)
  pub own : swap.own ≡ summary_of (joined come)

-- the run is that of texts of which the new ones came by the swap
pub record IsRunSwapped (run : Run) (new : List Text) (at : ℕ) (swap : Swap) : Type 0 where
  pub old : List Text
  pub is : IsRun run old
  pub swap_is : IsSwap old new at swap
  pub short : joined_size old < 2 ^ 63

-- the runs are those of a list of which the new one came by the swap, where one text goes out at most
pub record Swapped (runs : List Run) (new : List Text) (at : ℕ) (swap : Swap) : Type 0 where
  pub old : List Text
  pub are : AreRuns runs old
  pub swap_is : IsSwap old new at swap
  pub one : swap.gone ≤ 1
  pub short : joined_size old < 2 ^ 63
