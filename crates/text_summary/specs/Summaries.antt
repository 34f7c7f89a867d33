-- The summary of a text.
--     summary_of text       the length, the counts, and how the text starts and ends
--     count_of summary s    the count of a scheme
--     AreSummaries f g      they are those of two texts that are not too long together
use Rattle.std.specs.Prelude.{ℕ, ◌≡◌, ◌+◌, ◌^◌, ◌<◌}
use Rattle.str_indices.specs.Text.{Text, size}
use Rattle.str_indices.specs.Schemes.{count}
use Rattle.str_indices.specs.declared.Scheme.{Scheme}
use Rattle.str_indices.specs.declared.Scheme.TheVariants.{Chars, Utf16, Lf, Crlf, Lines}
use Rattle.str_indices.specs.Joins.{starts_with_feed, ends_in_return}
use Rattle.text_summary.specs.declared.summaries.Summary.{Summary}

-- the length, the counts, and how the text starts and ends
abbrev pub summary_of : Text → Summary
summary_of text = record {
  len = size text;
  chars = count Chars text;
  utf16 = count Utf16 text;
  lf = count Lf text;
  crlf = count Crlf text;
  lines = count Lines text;
  starts_lf = starts_with_feed text;
  ends_cr = ends_in_return text;
}

-- the count of a scheme
abbrev pub count_of : Summary → Scheme → ℕ
count_of summary Chars = summary.chars
count_of summary Utf16 = summary.utf16
count_of summary Lf = summary.lf
count_of summary Crlf = summary.crlf
count_of summary Lines = summary.lines

-- they are the summaries of two texts that are not too long together
pub record AreSummaries (front after : Summary) : Type 0 where
  pub a : Text
  pub b : Text
  pub front_is : front ≡ summary_of a
  pub after_is : after ≡ summary_of b
  pub short : size a + size b < 2 ^ 63
