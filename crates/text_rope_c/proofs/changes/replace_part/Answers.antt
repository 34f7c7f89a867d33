use Rattle.std.proofs.Common.{◌∙◌, ap, chars, inl, sym}
use Rattle.std.specs.Prelude.{is_err}
use Rattle.text_rope_c.proofs.Emptied.{replaced_nil}
use Rattle.text_rope_c.proofs.Refused.{refused_after}
use Rattle.text_rope_c.proofs.changes.replace_part.Goals as goal

pub returns-then-is_null-clause-refusals : goal.returns-then-is_null-clause-refusals
returns-then-is_null-clause-refusals c =
    refused_after c.replace.result c.store.result c.in_ok-replace.field-0 c.in_ok-replace.was c.store.ensures.no_other
    (λ refused. inl (λ none.
    c.store.ensures.some (ap is_err refused)
    (replaced_nil _ c.replace.new.self c.args.from c.args.to (chars c.args.text.now) c.new-whole.ensures c.in_ok-replace.ensures.ok none)))
    (rw (c.new-whole.ensures ∙ sym (rw c.if-is_null.true at c.is_null.ensures.told.0).1) at c.replace.ensures.refusals)

pub returns-clause-refusals : goal.returns-clause-refusals
returns-clause-refusals c = rw (c.as_mut-rope.ensures.value, ap (λ s. s.text) c.is_null.ensures.told.1) at c.replace-2.ensures.refusals
