use Rattle.std.specs.Prelude.{Some, IfSome, IsErrOf}
use Rattle.std.proofs.Common.{◌≡◌, ◌∙◌, List, ℕ, chars, rules, subst, sym}
use Rattle.positions.specs.Positions.{byte_range_at}
use Rattle.positions.specs.declared.encodings.Encoding.{Encoding}
use Rattle.positions.specs.declared.line_type.LineType.TheVariants.{Crlf}
use Rattle.text_rope.specs.Ranges.{exact_part_at}
use Rattle.text_rope.specs.Refusals.{IsChangeRefused}
use Rattle.text_summary.specs.Changes.{IsReplaced}
use Rattle.text_rope_c.proofs.Refused.{by_status, change_refused_as, on_done}
use Rattle.text_rope_c.proofs.range_changes.rope_change_exact.Goals as goal

pub returns-in-Some-clause-done : goal.returns-in-Some-clause-done
returns-in-Some-clause-done c = λ is.
    let old = c.args.rope.now.text in
    let new = c.apply_exact_change.new.rope.text in
    let same : c.in-Some.text.now ≡ c.args.text.now = search rules in
    let replaced = λ (e : Encoding) (bytes : List ℕ). IfSome (exact_part_at e old (Some c.args.range))
    (λ part. IsReplaced old new part.start part.end (chars bytes)) in
    subst (λ e. replaced e c.args.text.now) c.encoding_at.ensures (subst (λ bytes. replaced c.encoding_at.result bytes) same
    (on_done c.apply_exact_change.result (sym c.status_at.ensures ∙ is) c.apply_exact_change.ensures.ok))

pub returns-in-Some-clause-refusals : goal.returns-in-Some-clause-refusals
returns-in-Some-clause-refusals c = λ _.
    let old = c.args.rope.now.text in
    let same : c.in-Some.text.now ≡ c.args.text.now = search rules in
    let refused = λ (e : Encoding) (bytes : List ℕ). IsChangeRefused (IsErrOf c.apply_exact_change.result)
    (byte_range_at Crlf e old c.args.range) (exact_part_at e old (Some c.args.range)) old bytes in (
      search rules,
      change_refused_as (by_status c.status_at.result c.apply_exact_change.result c.status_at.ensures)
          (subst (λ e. refused e c.args.text.now) c.encoding_at.ensures
          (subst (λ bytes. refused c.encoding_at.result bytes) same c.apply_exact_change.ensures.refusals)),
    )
