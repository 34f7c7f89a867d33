use Rattle.text_summary.proofs.lemmas.{◌++◌, ap, sym, ◌∙◌, arith, append-nil, ends_in_return, ends_in_return-append, none_of, some_of}
use Rattle.text_summary.proofs.seams.joined_ends_cr.Goals as goal

pub returns-then-len-eq0 : goal.returns-then-len-eq0
returns-then-len-eq0 c a b first_is len_is second_is =
    let none = none_of b (omega (arith, len_is, c.if-len-eq0.true)) in
    first_is ∙ ap ends_in_return (sym (append-nil a) ∙ ap (λ r. a ++ r) (sym none))

pub returns-else-len-eq0 : goal.returns-else-len-eq0
returns-else-len-eq0 c a b first_is len_is second_is =
    let some = some_of b (λ none. c.if-len-eq0.false (len_is ∙ none)) in
    second_is some ∙ sym (ends_in_return-append a b some)
