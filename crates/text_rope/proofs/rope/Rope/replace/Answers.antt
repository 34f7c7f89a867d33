use Rattle.text_rope.proofs.lemmas.{rules}
use Rattle.text_rope.proofs.rope.Rope.replace.Goals as goal

pub returns-clause-refusals : goal.returns-clause-refusals
returns-clause-refusals c = record {
  not_ordered = search rules;
  not_boundary = search rules;
  too_long = search rules;
  no_memory = search rules;
}
