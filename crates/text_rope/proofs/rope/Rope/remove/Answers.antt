use Rattle.text_rope.proofs.lemmas.{rules, chars-nil}
use Rattle.text_rope.proofs.rope.Rope.remove.Goals as goal

pub returns-clause-ok : goal.returns-clause-ok
returns-clause-ok c = rw chars-nil at c.in_ok-replace_range.ensures.ok

pub returns-in_err-replace_range-clause-refusals : goal.returns-in_err-replace_range-clause-refusals
returns-in_err-replace_range-clause-refusals c = record {
  not_ordered = search rules;
  not_boundary = search rules;
  too_long = search rules;
  no_memory = search (chars-nil, rules);
}
