use Rattle.str_indices.proofs.lemmas.{arith, unit_reached, units_steady}
use Rattle.str_indices.proofs.utf16.to_byte_idx_impl.Goals as goal

pub find-requires-clause-steady : goal.find-requires-clause-steady
find-requires-clause-steady g c = units_steady c.args.probe.now.text c.len.ensures.utf8

pub returns-clause-answer : goal.returns-clause-answer
returns-clause-answer g c =
    let found = c.find.ensures in
    omega (arith, unit_reached _ c.len.ensures.utf8 _ c.args.idx found.reached found.at_most found.stopped)
