use Rattle.std.specs.Prelude.{IfSome, IsErrOf}
use Rattle.std.proofs.Common.{◌∙◌, List, ℕ, chars, subst, sym}
use Rattle.positions.specs.Positions.{byte_range_at}
use Rattle.positions.specs.declared.encodings.Encoding.{Encoding}
use Rattle.positions.specs.declared.line_type.LineType.TheVariants.{Crlf}
use Rattle.text_rope.specs.Refusals.{IsChangeRefused}
use Rattle.text_summary.specs.Changes.{IsReplaced}
use Rattle.text_rope_c.proofs.Refused.{by_status, change_refused_as, on_done}
use Rattle.text_rope_c.proofs.range_changes.rope_change_utf8.Goals as goal

pub returns-clause-done : goal.returns-clause-done
returns-clause-done c = λ is.
    let old = c.args.rope.now.text in
    let new = c.apply_change.new.rope.text in
    let replaced = λ (e : Encoding) (bytes : List ℕ). IfSome (byte_range_at Crlf e old c.args.range)
    (λ part. IsReplaced old new part.start part.end (chars bytes)) in
    subst (λ e. replaced e c.args.text.now) c.encoding_at.ensures (subst (λ bytes. replaced c.encoding_at.result bytes) c.utf8_of.ensures
    (on_done c.apply_change.result (sym c.status_at.ensures ∙ is) c.apply_change.ensures.ok))

pub returns-clause-refusals : goal.returns-clause-refusals
returns-clause-refusals c =
    let old = c.args.rope.now.text in
    let refused = λ (e : Encoding) (bytes : List ℕ). IsChangeRefused (IsErrOf c.apply_change.result) (byte_range_at Crlf e old c.args.range)
    (byte_range_at Crlf e old c.args.range) old bytes in
    change_refused_as (by_status c.status_at.result c.apply_change.result c.status_at.ensures)
    (subst (λ e. refused e c.args.text.now) c.encoding_at.ensures
    (subst (λ bytes. refused c.encoding_at.result bytes) c.utf8_of.ensures c.apply_change.ensures.refusals))
