-- The seam of two texts, one after the other.
--     ends_in_return text      whether the last char is CR
--     starts_with_feed text    whether the first char is LF
--     joins_crlf a b           whether the seam makes one CRLF of a break of each text
--     seam_loss s a b          how many ends fewer the joined text has in a scheme than both have alone
use Rattle.std.specs.Prelude.{ℕ, Bool, [], ◌∷◌, ◌&&◌, if◌then◌else◌, nat_eq}
use Rattle.std.specs.List.{starts_with, ends_with}
use Rattle.str_indices.specs.Text.{Text, line_feed, carriage_return}
use Rattle.str_indices.specs.Schemes.{Scheme, Crlf, Lines}

-- whether the last char is CR
abbrev pub ends_in_return : Text → Bool
ends_in_return text = ends_with nat_eq text (carriage_return ∷ [])

-- whether the first char is LF
abbrev pub starts_with_feed : Text → Bool
starts_with_feed text = starts_with nat_eq text (line_feed ∷ [])

-- whether the seam makes one CRLF of a break of each text
abbrev pub joins_crlf : Text → Text → Bool
joins_crlf a b = ends_in_return a && starts_with_feed b

-- how many ends fewer the joined text has: one where the seam makes a CRLF, in the two schemes in which CR alone is a
-- break too
abbrev pub seam_loss : Scheme → Text → Text → ℕ
seam_loss Crlf a b = if joins_crlf a b then 1 else 0
seam_loss Lines a b = if joins_crlf a b then 1 else 0
seam_loss s a b = 0
