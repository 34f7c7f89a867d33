use Rattle.str_indices.proofs.lemmas.{arith, is_leading, mark-le, ones_steady, char_reached}
use Rattle.str_indices.proofs.chars.to_byte_idx_impl.Goals as goal

pub find-requires-clause-steady : goal.find-requires-clause-steady
find-requires-clause-steady g c = ones_steady _ (λ j. mark-le is_leading _) _

pub returns-clause-answer : goal.returns-clause-answer
returns-clause-answer g c =
    let found = c.find.ensures in
    omega (arith, char_reached _ c.len.ensures.utf8 _ c.args.idx found.reached found.at_most found.stopped)
