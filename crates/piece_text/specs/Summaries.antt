-- What a summary says of a text.
--     summary_of text       the length, the counts, and how the text starts and ends
--     count_of summary s    the count of a scheme
--     IsPiece summary t     the summary is the text's, and the text is not empty
use Rattle.std.specs.Prelude.{◌≡◌, ◌≢◌, []}
use Rattle.str_indices.specs.Text.{Text}
use Rattle.text_summary.specs.declared.summaries.Summary.{Summary}
pub use Rattle.text_summary.specs.Summaries.{summary_of, count_of}

-- the summary is the text's, and the text is not empty
pub record IsPiece (summary : Summary) (text : Text) : Type 0 where
  pub right : summary ≡ summary_of text
  pub some : text ≢ []
