use Rattle.str_indices.proofs.lemmas.{arith, take, break_at-le, ones_steady, breaks_in_cut}
use Rattle.str_indices.proofs.lines.count_breaks_impl.Goals as goal

pub count_up_to-requires-clause-fits : goal.count_up_to-requires-clause-fits
count_up_to-requires-clause-fits g c = (ones_steady _ (break_at-le (take c.args.end c.args.probe.now.text)) _).fits

pub returns-clause-count : goal.returns-clause-count
returns-clause-count g c = omega (
  arith,
  c.count_up_to.ensures.counted,
  breaks_in_cut c.args.probe.now.text c.len.ensures.utf8 c.args.end c.requires.boundary,
)
