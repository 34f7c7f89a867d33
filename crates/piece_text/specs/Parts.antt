-- The pieces of a text as the parts in which positions are searched.
--     IsPlaced s texts placed     one of the pieces, what is known of the text before it, and its summary
--     HasPlace s texts placed b   the piece that a byte is in
--     Comes s texts placed k      the piece in which the text comes to a count
--     Asks old new                what a question takes
--     parts_of state              what contracts see of a view as a text in parts
use Rattle.std.specs.Prelude.{ℕ, ◌≡◌, ◌≢◌, ◌+◌, ◌-◌, ◌^◌, ◌<◌, ◌≤◌, ◌⊎◌, List, [], length, take}
use Rattle.str_indices.specs.Joins.{seam_loss}
use Rattle.str_indices.specs.Schemes.{to_byte_idx}
use Rattle.str_indices.specs.Text.{Text}
use Rattle.str_indices.specs.declared.Scheme.{Scheme}
use Rattle.text_summary.specs.Fronts.{IsFront}
use Rattle.positions.specs.Parts.{PartsState}
use Rattle.piece_text.specs.Pieces.{PiecesState, joined, piece_at}
use Rattle.piece_text.specs.Summaries.{summary_of}
use Rattle.piece_text.specs.declared.places.Placed.{Placed}

-- one of the pieces, what is known of the text before it, and its summary
pub record IsPlaced (s : Scheme) (texts : List Text) (placed : Placed) : Type 0 where
  pub inside : placed.piece < length texts
  pub before_is : IsFront s (joined (take placed.piece texts)) placed.before
  pub own_is : placed.own ≡ summary_of (piece_at texts placed.piece)
  pub some : piece_at texts placed.piece ≢ []

-- the byte is not before the piece, and not after it unless it is the last
pub record HasPlace (s : Scheme) (texts : List Text) (placed : Placed) (byte : ℕ) : Type 0 where
  pub is : IsPlaced s texts placed
  pub after : placed.before.len ≤ byte
  pub before : (byte < placed.before.len + placed.own.len) ⊎ (placed.piece + 1 ≡ length texts)

-- the text before the piece does not come to the count, and the piece answers for it
pub record Comes (s : Scheme) (texts : List Text) (placed : Placed) (k : ℕ) : Type 0 where
  pub is : IsPlaced s texts placed
  pub past : placed.before.total - seam_loss s (joined (take placed.piece texts)) (piece_at texts placed.piece) < k
  pub answer : to_byte_idx s (joined texts) k
      ≡ placed.before.len + to_byte_idx s (piece_at texts placed.piece)
      (k - (placed.before.total - seam_loss s (joined (take placed.piece texts)) (piece_at texts placed.piece)))

-- the pieces stay; of their summaries, and of those of runs, as many are looked at as there are pieces at most; and one is read
-- at most
pub record Asks (old new : PiecesState) : Type 0 where
  pub texts : new.texts ≡ old.texts
  pub looks : new.looks ≤ old.looks + length old.texts
  pub looks_kept : old.looks ≤ new.looks
  pub reads : new.reads ≤ old.reads + 1
  pub reads_kept : old.reads ≤ new.reads

-- a search takes as many looks as a question, and the units before a piece another one
abbrev pub parts_of : PiecesState → PartsState
parts_of state = record {
  text = joined state.texts;
  pieces = state.texts;
  latest_start = λ byte. byte;
  byte_choices = 2 ^ length state.texts;
  count_choices = 2 ^ length state.texts;
  unit_searches = 1;
  looks = state.looks;
  reads = state.reads;
}
