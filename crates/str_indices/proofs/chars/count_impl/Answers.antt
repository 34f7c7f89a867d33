use Rattle.str_indices.proofs.lemmas.{arith, is_leading, mark-le, ones_steady, leading_at_boundary}
use Rattle.str_indices.proofs.chars.count_impl.Goals as goal

pub count_up_to-requires-clause-fits : goal.count_up_to-requires-clause-fits
count_up_to-requires-clause-fits g c = (ones_steady _ (λ j. mark-le is_leading _) _).fits

pub returns-clause-count : goal.returns-clause-count
returns-clause-count g c = omega (
  arith,
  c.count_up_to.ensures.counted,
  leading_at_boundary c.args.probe.now.text c.len.ensures.utf8 c.args.end c.requires.boundary,
)
