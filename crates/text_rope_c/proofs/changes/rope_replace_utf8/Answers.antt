use Rattle.text_rope_c.proofs.Refused.{by_status, refused_as}
use Rattle.text_rope_c.proofs.changes.rope_replace_utf8.Goals as goal

pub returns-clause-refusals : goal.returns-clause-refusals
returns-clause-refusals c = rw c.utf8_of.ensures at
    (refused_as (by_status c.status_at.result c.replace_part.result c.status_at.ensures) c.replace_part.ensures.refusals)
