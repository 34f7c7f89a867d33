-- The stretch of a text between two marks.
--     IsPart text from to part       the part stands between two byte indices
--     IsStretch text stretch         the stretch is between two marks of the text, and not long
--     AddsUp stretch part            its marks differ by what the part has
--     StandsRound text byte stretch  a byte is in the stretch
--     Answers s text k stretch       the stretch answers for a count
--     HasPlace text byte stretch     a byte is in the stretch, or past the text's end
--     Reaches s text k stretch       a count is reached in the stretch
--     EndsBy text i mark             a stretch ends at the mark, which is mark i or the text's end
use Rattle.std.specs.Prelude.{ℕ, ◌≡◌, ◌+◌, ◌*◌, ◌<◌, ◌≤◌, ◌⊎◌, ◌++◌}
use Rattle.str_indices.specs.Text.{Text, size}
use Rattle.str_indices.specs.Schemes.{count}
use Rattle.str_indices.specs.declared.Scheme.{Scheme}
use Rattle.text_index.specs.Marks.{stretch_size, stretches_of, count_at, IsMark}
use Rattle.text_index.specs.declared.mark.Mark.{Mark}
use Rattle.text_index.specs.declared.stretch.Stretch.{Stretch}

-- the text between two byte indices
pub record IsPart (text : Text) (from to : ℕ) (part : Text) : Type 0 where
  pub front : Text
  pub back : Text
  pub parts : text ≡ front ++ (part ++ back)
  pub start : size front ≡ from
  pub end : size front + size part ≡ to

-- two marks in order, between which there are not many bytes
pub record IsStretch (text : Text) (stretch : Stretch) : Type 0 where
  pub start : IsMark text stretch.start.now
  pub end : IsMark text stretch.end.now
  pub order : stretch.start.now.byte ≤ stretch.end.now.byte
  pub short : stretch.end.now.byte ≤ stretch.start.now.byte + stretch_size + 4

-- the marks differ by what the part has
pub record AddsUp (stretch : Stretch) (part : Text) : Type 0 where
  pub len : stretch.start.now.byte + size part ≡ stretch.end.now.byte
  pub counts : (s : Scheme) → count_at stretch.start.now s + count s part ≡ count_at stretch.end.now s

-- a byte is in the stretch
pub record StandsRound (text : Text) (byte : ℕ) (stretch : Stretch) : Type 0 where
  pub is : IsStretch text stretch
  pub after : stretch.start.now.byte ≤ byte
  pub before : byte < stretch.end.now.byte

-- before the stretch a count is not reached; after it the count is, or the text ends there
pub record Answers (s : Scheme) (text : Text) (k : ℕ) (stretch : Stretch) : Type 0 where
  pub is : IsStretch text stretch
  pub past : count_at stretch.start.now s < k
  pub reached : (k ≤ count_at stretch.end.now s) ⊎ (stretch.end.now.byte ≡ size text)

-- a byte is in the stretch, or past the text's end, where that is the last one
pub record HasPlace (text : Text) (byte : ℕ) (stretch : Stretch) : Type 0 where
  pub is : IsStretch text stretch
  pub after : stretch.start.now.byte ≤ byte
  pub before : (byte < stretch.end.now.byte) ⊎ (stretch.end.now.byte ≡ size text)

-- before the stretch a count is not reached, or it is the first; after it the count is, or the text ends there
pub record Reaches (s : Scheme) (text : Text) (k : ℕ) (stretch : Stretch) : Type 0 where
  pub is : IsStretch text stretch
  pub past : (count_at stretch.start.now s < k) ⊎ (stretch.start.now.byte ≡ 0)
  pub reached : (k ≤ count_at stretch.end.now s) ⊎ (stretch.end.now.byte ≡ size text)

-- it is mark i, or the mark at the text's end, where that is the last stretch's
pub record EndsBy (text : Text) (i : ℕ) (mark : Mark) : Type 0 where
  pub is : IsMark text mark
  pub before : mark.byte ≤ i * stretch_size
  pub near : i < stretches_of text → i * stretch_size ≤ mark.byte + 4
  pub at_end : stretches_of text ≤ i → mark.byte ≡ size text
