use Rattle.text_summary.proofs.lemmas.{◌++◌, ap, sym, ◌∙◌, arith, starts_with_feed, starts_with_feed-append, none_of, some_of}
use Rattle.text_summary.proofs.seams.joined_starts_lf.Goals as goal

pub returns-then-len-eq0 : goal.returns-then-len-eq0
returns-then-len-eq0 c a b len_is first_is second_is =
    let none = none_of a (omega (arith, len_is, c.if-len-eq0.true)) in
    second_is ∙ ap (λ r. starts_with_feed (r ++ b)) (sym none)

pub returns-else-len-eq0 : goal.returns-else-len-eq0
returns-else-len-eq0 c a b len_is first_is second_is =
    let some = some_of a (λ none. c.if-len-eq0.false (len_is ∙ none)) in
    first_is some ∙ sym (starts_with_feed-append a b some)
