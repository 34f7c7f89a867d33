use Rattle.std.proofs.Common.{◌++◌, ◌∙◌, ap, chars, remove}
use Rattle.piece_text.specs.Pieces.{joined, as_pieces}
use Rattle.piece_text.proofs.lemmas.Callers.{joined-append, joined-as_pieces, as_pieces-some}
use Rattle.text_tests.proofs.pieces.caller.five_calls.Goals as goal

pub returns : goal.returns
returns c =
    let a = chars c.args.first.now in
    let b = chars c.args.second.now in
    let one = as_pieces-some (chars c.args.third.now) c.requires in
    let put = c.in_ok-insert.ensures.ok ∙ ap (λ t. t ++ c.push.new.self) one in
    let pushed = c.in_ok-push.ensures.ok ∙ ap (λ t. t ++ as_pieces b) c.new-text.ensures in
    let removed = c.in_ok-remove.ensures.ok ∙ ap (λ t. remove t 0) put ∙ pushed in
    let whole = c.in_ok-insert-2.ensures.ok ∙ ap (λ t. as_pieces a ++ t) removed in
    c.split.ensures.text ∙ ap joined whole ∙ joined-append (as_pieces a) (as_pieces b)
    ∙ ap (λ t. t ++ joined (as_pieces b)) (joined-as_pieces a) ∙ ap (λ t. a ++ t) (joined-as_pieces b)
