use Rattle.str_indices.proofs.lemmas.{arith, begins_four_bytes, mark-le, ones_steady, pairs_before_last_three}
use Rattle.str_indices.proofs.utf16.count_surrogates_impl.Goals as goal

pub count_up_to-requires-clause-fits : goal.count_up_to-requires-clause-fits
count_up_to-requires-clause-fits g c = (ones_steady _ (λ j. mark-le begins_four_bytes _) _).fits

pub returns-clause-count : goal.returns-clause-count
returns-clause-count g c =
    let text = c.args.probe.now.text in
    let counted = rw c.saturating_sub.ensures at c.count_up_to.ensures.counted in
    omega (
      arith,
      counted,
      pairs_before_last_three text c.len.ensures.utf8 c.args.end c.requires.within c.requires.boundary,
    )
