use Rattle.str_indices.proofs.lemmas.{arith, break_start-le, ones_steady, breaks_of_cut}
use Rattle.str_indices.proofs.lines_crlf.count_breaks_impl.Goals as goal

pub count_up_to-requires-clause-fits : goal.count_up_to-requires-clause-fits
count_up_to-requires-clause-fits g c = (ones_steady _ (break_start-le c.args.probe.now.text) _).fits

pub returns-clause-count : goal.returns-clause-count
returns-clause-count g c = omega (
  arith,
  c.count_up_to.ensures.counted,
  breaks_of_cut c.args.probe.now.text c.len.ensures.utf8 c.args.end c.requires.within,
)
