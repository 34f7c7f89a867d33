-- A text with marks: byte indices between chars, none of them between CR and LF, each with the counts of what is
-- before it. So the counts of two parts of the text add up where a mark parts them.
--     stretch_size             how many bytes a stretch has, give or take four
--     stretches_of text        how many stretches a text has
--     count_at mark s          the count of a mark in a scheme
--     IsMark text mark         the mark has the counts of the text before it
--     IsMarkAt text i mark     it is mark i, at most four bytes before the place i * stretch_size
--     AreMarks text marks whole   the marks of a text from mark 1 on, and the one at its end
--     MarksState               `Marks` as contracts see them
--     begins_at byte           where the stretch of a byte begins at most
--     parts_of state           the same as a text in parts
use Rattle.std.specs.Prelude.{ℕ, ◌≡◌, ◌+◌, ◌*◌, ◌/◌, ◌^◌, ◌<◌, ◌≤◌, false, List, [], ◌∷◌, ◌++◌, length, slice_index_or}
use Rattle.str_indices.specs.Text.{Text, size}
use Rattle.str_indices.specs.Schemes.{count}
use Rattle.str_indices.specs.Joins.{joins_crlf}
use Rattle.str_indices.specs.declared.Scheme.{Scheme}
use Rattle.str_indices.specs.ByScheme.{number_of}
use Rattle.positions.specs.Parts.{PartsState}
use Rattle.text_index.specs.declared.mark.Mark.{Mark}

-- how many bytes a stretch has, give or take four
abbrev pub stretch_size : ℕ
stretch_size = 1024

-- how many stretches a text has: those that are full, and one more
abbrev pub stretches_of : Text → ℕ
stretches_of text = size text / stretch_size + 1

-- the count of a mark in a scheme
abbrev pub count_at : Mark → Scheme → ℕ
count_at mark s = number_of mark.counts s

-- the text before the mark and the text after it, where the mark is, what it counts, and that it parts no CR from its LF
pub record IsMark (text : Text) (mark : Mark) : Type 0 where
  pub front : Text
  pub back : Text
  pub split : text ≡ front ++ back
  pub byte : mark.byte ≡ size front
  pub counts : (s : Scheme) → count_at mark s ≡ count s front
  pub whole : joins_crlf front back ≡ false

-- it is at most four bytes before the place i * stretch_size
pub record IsMarkAt (text : Text) (i : ℕ) (mark : Mark) : Type 0 where
  pub is : IsMark text mark
  pub before : mark.byte ≤ i * stretch_size
  pub near : i * stretch_size ≤ mark.byte + 4

-- the marks from mark 1 on, and the one at the text's end
pub record AreMarks (text : Text) (marks : List Mark) (whole : Mark) : Type 0 where
  pub each : (i : ℕ) (d : Mark) → i < length marks → IsMarkAt text (i + 1) (slice_index_or marks i d)
  pub many : length marks ≡ size text / stretch_size
  pub end : IsMark text whole
  pub at_end : whole.byte ≡ size text
  pub short : size text < 2 ^ 64

-- the text, how many marks were looked at, and of how many stretches the text was read
pub record MarksState : Type 0 where
  pub text : Text
  pub looks : ℕ
  pub reads : ℕ

-- where the stretch of a byte begins at most
abbrev pub begins_at : ℕ → ℕ
begins_at byte = (byte + 4) / stretch_size * stretch_size

-- the same as a text in parts: a search by a byte takes at most two looks, one by a count halves the marks, and a mark has the
-- units before it
abbrev pub parts_of : MarksState → PartsState
parts_of state = record {
  text = state.text;
  pieces = state.text ∷ [];
  latest_start = begins_at;
  byte_choices = 4;
  count_choices = 2 * stretches_of state.text;
  unit_searches = 0;
  looks = state.looks;
  reads = state.reads;
}
