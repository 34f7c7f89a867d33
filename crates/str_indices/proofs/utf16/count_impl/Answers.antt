use Rattle.str_indices.proofs.lemmas.{arith, units_steady, units_in_cut}
use Rattle.str_indices.proofs.utf16.count_impl.Goals as goal

pub count_up_to-requires-clause-fits : goal.count_up_to-requires-clause-fits
count_up_to-requires-clause-fits g c = (units_steady c.args.probe.now.text c.len.ensures.utf8).fits

pub returns-clause-count : goal.returns-clause-count
returns-clause-count g c = omega (
  arith,
  c.count_up_to.ensures.counted,
  units_in_cut c.args.probe.now.text c.len.ensures.utf8 c.args.end c.requires.boundary,
)
