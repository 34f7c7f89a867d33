use Rattle.std.specs.Prelude.{Some, IfSome, IsErrOf, OnOk}
use Rattle.std.proofs.Common.{ap, ◌∙◌, sym, subst, chars}
use Rattle.str_indices.specs.Text.{Text}
use Rattle.positions.specs.Positions.{byte_range_at}
use Rattle.positions.specs.declared.line_type.LineType.TheVariants.{Crlf}
use Rattle.text_rope.specs.Ranges.{exact_part_at}
use Rattle.text_rope.specs.Refusals.{IsChangeRefused}
use Rattle.text_summary.specs.Changes.{IsReplaced}
use Rattle.text_rope_c.proofs.Refused.{change_refused_after, refused_by}
use Rattle.text_rope_c.proofs.range_changes.apply_exact_change.Goals as goal

pub returns-in_err-apply_exact-clause-refusals : goal.returns-in_err-apply_exact-clause-refusals
returns-in_err-apply_exact-clause-refusals c =
    let same = c.new-whole.ensures ∙ sym (rw c.if-is_null.true at c.is_null.ensures.told.0).1 in
    subst (λ r. IsChangeRefused (IsErrOf r) (byte_range_at Crlf c.args.encoding c.args.rope.now.text c.args.range)
    (exact_part_at c.args.encoding c.args.rope.now.text (Some c.args.range)) c.args.rope.now.text c.args.text.now)
    (c.in_err-apply_exact.was ∙ refused_by c.from_residual.result c.in_err-apply_exact.field-0.0 c.from_residual.ensures.1)
    (subst (λ (old : Text). IsChangeRefused (IsErrOf c.apply_exact.result) (byte_range_at Crlf c.args.encoding old c.args.range)
    (exact_part_at c.args.encoding old (Some c.args.range)) old c.args.text.now) same c.apply_exact.ensures.refusals)

pub returns-then-is_null-clause-refusals : goal.returns-then-is_null-clause-refusals
returns-then-is_null-clause-refusals c =
    let same = c.new-whole.ensures ∙ sym (rw c.if-is_null.true at c.is_null.ensures.told.0).1 in
    let replaced = λ (old : Text). IfSome (exact_part_at c.args.encoding old (Some c.args.range)) (λ part. IsReplaced old c.apply_exact.new.self part.start part.end
    (chars c.args.text.now)) in
    change_refused_after c.apply_exact.result c.store.result c.in_ok-apply_exact.field-0 c.apply_exact.new.self c.in_ok-apply_exact.was c.store.ensures.no_other
    (rw c.if-is_null.true at c.is_null.ensures.told.0).1 c.store.ensures.some
    (subst replaced same c.in_ok-apply_exact.ensures.ok)
    (subst (λ (old : Text). IsChangeRefused (IsErrOf c.apply_exact.result) (byte_range_at Crlf c.args.encoding old c.args.range)
    (exact_part_at c.args.encoding old (Some c.args.range)) old c.args.text.now) same c.apply_exact.ensures.refusals)

pub returns-clause-ok : goal.returns-clause-ok
returns-clause-ok c =
    let text = chars c.args.text.now in
    let replaced = λ (old new : Text). OnOk c.apply_exact-2.result (IfSome (exact_part_at c.args.encoding old (Some c.args.range))
    (λ part. IsReplaced old new part.start part.end text)) in
    subst (λ old. replaced old c.apply_exact-2.new.self) (c.as_mut.ensures.value ∙ ap (λ s. s.text) c.is_null.ensures.told.1)
    c.apply_exact-2.ensures.ok

pub returns-clause-refusals : goal.returns-clause-refusals
returns-clause-refusals c =
    subst (λ (old : Text). IsChangeRefused (IsErrOf c.apply_exact-2.result) (byte_range_at Crlf c.args.encoding old c.args.range)
    (exact_part_at c.args.encoding old (Some c.args.range)) old c.args.text.now) (c.as_mut.ensures.value ∙ ap (λ s. s.text) c.is_null.ensures.told.1) c.apply_exact-2.ensures.refusals
