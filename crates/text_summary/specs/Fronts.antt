-- The text before a piece, as far as it is known.
--     IsFront s a front        the bytes and the count of a, and whether it ends in CR
--     IsStep s a b step        the answer of a step over b after a
--     IsBefore s front lf      some text has that front, and one comes after it that starts with LF or does not
--     IsFollowed s front p     some text has that front, one with summary p comes after it, and both are not too long
use Rattle.std.specs.Prelude.{Bool, ◌≡◌, ◌≢◌, ◌+◌, ◌-◌, ◌^◌, ◌<◌, [], ◌++◌}
use Rattle.str_indices.specs.Text.{Text, size}
use Rattle.str_indices.specs.Schemes.{count}
use Rattle.str_indices.specs.declared.Scheme.{Scheme}
use Rattle.str_indices.specs.Joins.{starts_with_feed, ends_in_return, seam_loss}
use Rattle.text_summary.specs.Summaries.{summary_of}
use Rattle.text_summary.specs.declared.summaries.Summary.{Summary}
use Rattle.text_summary.specs.declared.fronts.Front.{Front}
use Rattle.text_summary.specs.declared.fronts.Step.{Step}

-- the bytes and the count of a text, and whether it ends in CR
pub record IsFront (s : Scheme) (a : Text) (front : Front) : Type 0 where
  pub len : front.len ≡ size a
  pub total : front.total ≡ count s a
  pub ends_cr : front.ends_cr ≡ ends_in_return a

-- the answer of a step over b after a
pub record IsStep (s : Scheme) (a b : Text) (step : Step) : Type 0 where
  pub reached : step.reached ≡ count s a - seam_loss s a b
  pub after : IsFront s (a ++ b) step.after

-- some text has that front, and one comes after it that starts with LF or does not
pub record IsBefore (s : Scheme) (front : Front) (starts_lf : Bool) : Type 0 where
  pub a : Text
  pub b : Text
  pub front_is : IsFront s a front
  pub starts_is : starts_lf ≡ starts_with_feed b

-- some text has that front, one with that summary comes after it, and both are not too long together
pub record IsFollowed (s : Scheme) (front : Front) (piece : Summary) : Type 0 where
  pub a : Text
  pub b : Text
  pub front_is : IsFront s a front
  pub piece_is : piece ≡ summary_of b
  pub some : b ≢ []
  pub short : size a + size b < 2 ^ 63
