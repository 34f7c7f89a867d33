-- The chunks of a leaf, in the order of the text.
--     IsLeafPlace before texts chunks index start     the chunk with number `index` of a leaf starts at byte index `start`
--     IsCursor texts chunks index start chunk         what holds of each `ChunkCursor`
--     IsLeafAt before texts chunks index start at     that chunk, where a byte is in it
--     IsRestFrom before texts chunks start     `chunks` are neighbours in `texts`, and start at byte index `start`
--     IsRestAt before texts chunks start at    the same, where a byte is in the first of them
--     IsOnWay texts chunks at end              what holds of each `Chunks`
use Rattle.std.specs.Prelude.{ℕ, ◌≡◌, ◌≢◌, ◌+◌, ◌<◌, ◌≤◌, List, [], ◌∷◌, ◌++◌, length, take}
use Rattle.str_indices.specs.Text.{Text, size}
use Rattle.text_summary.specs.Pieces.{joined, joined_size, piece_at}
use Rattle.text_rope.specs.Chunks.{IsWithin}

-- `chunks` are neighbours in `texts`, and the one with number `index` starts at byte index `start`, where `before` bytes are
-- before `texts`
pub record IsLeafPlace (before : ℕ) (texts chunks : List Text) (index start : ℕ) : Type 0 where
  pub front : List Text
  pub back : List Text
  pub parts : texts ≡ front ++ (chunks ++ back)
  pub index_is : index < length chunks
  pub place : before + joined_size front + joined_size (take index chunks) ≡ start

-- what holds of each `ChunkCursor`: it has the text of that chunk
pub record IsCursor (texts chunks : List Text) (index start : ℕ) (chunk : Text) : Type 0 where
  pub leaf : IsLeafPlace 0 texts chunks index start
  pub chunk_is : chunk ≡ piece_at chunks index

-- that chunk of a leaf, where a byte is in it
pub record IsLeafAt (before : ℕ) (texts chunks : List Text) (index start at : ℕ) : Type 0 where
  pub leaf : IsLeafPlace before texts chunks index start
  pub after : start ≤ at
  pub inside : at < start + size (piece_at chunks index)

-- `chunks` are neighbours in `texts`, and start at byte index `start`, where `before` bytes are before `texts`
pub record IsRestFrom (before : ℕ) (texts chunks : List Text) (start : ℕ) : Type 0 where
  pub front : List Text
  pub back : List Text
  pub parts : texts ≡ front ++ (chunks ++ back)
  pub place : before + joined_size front ≡ start

-- the same, where a byte is in the first of them
pub record IsRestAt (before : ℕ) (texts chunks : List Text) (start at : ℕ) : Type 0 where
  pub front : List Text
  pub chunk : Text
  pub others : List Text
  pub back : List Text
  pub chunks_are : chunks ≡ chunk ∷ others
  pub parts : texts ≡ front ++ chunk ∷ (others ++ back)
  pub place : before + joined_size front ≡ start
  pub after : start ≤ at
  pub inside : at < start + size chunk

-- what holds of each `Chunks`: it is within the text, and before its end the chunks at hand start where it is
pub record IsOnWay (texts chunks : List Text) (at end : ℕ) : Type 0 where
  pub within : IsWithin (joined texts) at end
  pub chunks_are : at < end → chunks ≢ [] → IsRestFrom 0 texts chunks at
