use Rattle.std.proofs.Common.{◌∙◌, arith, inl, inr, sym}
use Rattle.std.proofs.lemmas.Str.{chars-nil}
use Rattle.text_rope_c.proofs.Refused.{by_status, on_done, refused_as, refused_when}
use Rattle.text_rope_c.proofs.changes.str_rope_remove.Goals as goal

pub returns-clause-done : goal.returns-clause-done
returns-clause-done c = λ is. rw chars-nil at
    (on_done c.replace_part.result (sym c.status_at.ensures ∙ is) c.replace_part.ensures.ok)

pub returns-clause-refusals : goal.returns-clause-refusals
returns-clause-refusals c =
    refused_when (λ long. omega (arith, long, c.replace_part.ensures.short)) (λ none. absurd none)
    (λ takes. elim takes [ inl some ↦ absurd (some chars-nil) | inr both ↦ both ])
    (refused_as (by_status c.status_at.result c.replace_part.result c.status_at.ensures) c.replace_part.ensures.refusals)
