-- A part of a text that is replaced by another text.
--     IsReplaced old new from to text    new is old with the part between two byte indices replaced by the text
--     IsUpdate a m b t update            the change is of m, between a and b, to t
--     FitsIn whole change                the change is of a text with that summary, and no text is too long
use Rattle.std.specs.Prelude.{ℕ, ◌≡◌, ◌+◌, ◌^◌, ◌<◌, ◌++◌}
use Rattle.str_indices.specs.Text.{Text, size}
use Rattle.str_indices.specs.Joins.{starts_with_feed, ends_in_return}
use Rattle.text_summary.specs.Summaries.{summary_of}
use Rattle.text_summary.specs.declared.summaries.Summary.{Summary}
use Rattle.text_summary.specs.declared.changes.Update.{Update}

-- the part between two byte indices, each between chars, is replaced by a text
pub record IsReplaced (old new : Text) (from to : ℕ) (text : Text) : Type 0 where
  pub front : Text
  pub middle : Text
  pub back : Text
  pub was : old ≡ front ++ (middle ++ back)
  pub start : size front ≡ from
  pub end : size front + size middle ≡ to
  pub is : new ≡ front ++ (text ++ back)

-- the change has what is known of a part m between a and b, and of a text t that comes in for it
pub record IsUpdate (a m b t : Text) (update : Update) : Type 0 where
  pub ends_cr : update.ends_cr ≡ ends_in_return a
  pub starts_lf : update.starts_lf ≡ starts_with_feed b
  pub removed : update.removed ≡ summary_of m
  pub inserted : update.inserted ≡ summary_of t

-- it is known of a text with that summary, and neither that text nor the one after the change is too long
pub record FitsIn (whole : Summary) (update : Update) : Type 0 where
  pub a : Text
  pub m : Text
  pub b : Text
  pub t : Text
  pub whole_is : whole ≡ summary_of (a ++ (m ++ b))
  pub update_is : IsUpdate a m b t update
  pub short_old : size (a ++ (m ++ b)) < 2 ^ 63
  pub short_new : size (a ++ (t ++ b)) < 2 ^ 63
