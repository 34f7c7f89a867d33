use Rattle.std.proofs.Common.{arith, inl, inr}
use Rattle.text_rope_c.proofs.Refused.{by_status, refused_as, refused_when}
use Rattle.text_rope_c.proofs.changes.rope_insert_utf8.Goals as goal

pub returns-clause-refusals : goal.returns-clause-refusals
returns-clause-refusals c =
    let is = rw c.utf8_of.ensures at c.replace_part.ensures.refusals in
    refused_when (λ long. omega (arith, long)) (λ long. omega (arith, long))
    (λ takes. elim takes [ inl some ↦ some | inr both ↦ absurd (omega (arith, both.0)) ])
    (refused_as (by_status c.status_at.result c.replace_part.result c.status_at.ensures) is)
