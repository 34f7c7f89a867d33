use Rattle.str_indices.proofs.lemmas.{arith, is_line_feed, mark-le, ones_steady, line_feeds_before}
use Rattle.str_indices.proofs.lines_lf.count_breaks_impl.Goals as goal

pub count_up_to-requires-clause-fits : goal.count_up_to-requires-clause-fits
count_up_to-requires-clause-fits g c = (ones_steady _ (λ j. mark-le is_line_feed _) _).fits

pub returns-clause-count : goal.returns-clause-count
returns-clause-count g c = omega (
  arith,
  c.count_up_to.ensures.counted,
  line_feeds_before c.args.probe.now.text c.len.ensures.utf8 c.args.end c.requires.within,
)
