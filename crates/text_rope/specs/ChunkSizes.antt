-- The sizes of a chunk, and what holds of each.
--     max_chunk                 how many bytes a chunk has at most
--     min_chunk                 how many bytes a chunk has at least that is not alone
--     IsLongEnough chunk                it has at least `min_chunk` bytes
--     AreLongEnough chunks              each has at least `min_chunk` bytes
--     IsFilled chunks             each has at least `min_chunk` bytes, or there is one at most
--     IsFull whole chunk           it has at least `min_chunk` bytes, or all of the text
--     IsSmall summary           it is that of a text that a chunk can have
--     IsKept summary text       the summary is the text's, which is not empty and not too long
use Rattle.std.specs.Prelude.{ℕ, ◌≡◌, ◌≢◌, ◌≤◌, ◌⊎◌, List, [], length}
use Rattle.std.specs.List.{All}
use Rattle.str_indices.specs.Text.{Text, size}
use Rattle.text_summary.specs.Summaries.{summary_of}
use Rattle.text_summary.specs.declared.summaries.Summary.{Summary}

-- how many bytes a chunk has at most
abbrev pub max_chunk : ℕ
max_chunk = 1024

-- how many bytes a chunk has at least that is not alone: half of `max_chunk`, less 3, since a cut moves by up to 3 bytes to a
-- boundary
abbrev pub min_chunk : ℕ
min_chunk = 509

-- a chunk has at least `min_chunk` bytes
abbrev pub IsLongEnough : Text → Type 0
IsLongEnough chunk = min_chunk ≤ size chunk

-- each chunk has at least `min_chunk` bytes
abbrev pub AreLongEnough : List Text → Type 0
AreLongEnough chunks = All IsLongEnough chunks

-- what holds of the chunks of each rope: each has as many, or there is one at most
abbrev pub IsFilled : List Text → Type 0
IsFilled chunks = AreLongEnough chunks ⊎ (length chunks ≤ 1)

-- a chunk of a text has at least `min_chunk` bytes, or is all of the text
abbrev pub IsFull : Text → Text → Type 0
IsFull whole chunk = IsLongEnough chunk ⊎ (chunk ≡ whole)

-- the summary is that of a text that a chunk can have
pub record IsSmall (summary : Summary) : Type 0 where
  pub text : Text
  pub right : summary ≡ summary_of text
  pub short : size text ≤ max_chunk

-- what holds of each chunk
pub record IsKept (summary : Summary) (text : Text) : Type 0 where
  pub right : summary ≡ summary_of text
  pub some : text ≢ []
  pub short : size text ≤ max_chunk
