use Rattle.piece_text.proofs.lemmas.{◌≡◌, ◌≢◌, ◌+◌, ◌-◌, ◌<◌, ◌∙◌, [], ap, sym, arith, length, take, get_or_default, subst, joined, joined-take, piece_at, ends_in_return-append, some_after}
use Rattle.str_indices.specs.Joins.{ends_in_return}
use Rattle.piece_text.proofs.view.runs.ends_before.Goals as goal

-- the text before ends as its last piece does
pub returns-clause-ends : goal.returns-clause-ends
returns-clause-ends c =
    let texts = c.args.pieces.now in
    let i = c.args.at - 1 in
    let inside : i < length texts = omega (arith, c.requires, c.if-at-eq0.false) in
    let upto : i + 1 ≡ c.args.at = omega (arith, c.if-at-eq0.false) in
    let piece = c.index-pieces-at.is ∙ get_or_default texts i c.index-pieces-at.result [] inside in
    let some : piece_at texts i ≢ [] = subst (λ t. t ≢ []) piece c.summary.ensures.some in
    ap (λ s. s.ends_cr) c.summary.ensures.summary ∙ ap ends_in_return piece
    ∙ sym (ends_in_return-append (joined (take i texts)) (piece_at texts i) some)
    ∙ ap ends_in_return (sym (joined-take texts i inside)) ∙ ap (λ k. ends_in_return (joined (take k texts))) upto

pub returns-clause-some : goal.returns-clause-some
returns-clause-some c =
    let texts = c.args.pieces.now in
    let i = c.args.at - 1 in
    let inside : i < length texts = omega (arith, c.requires, c.if-at-eq0.false) in
    let upto : i + 1 ≡ c.args.at = omega (arith, c.if-at-eq0.false) in
    let piece = c.index-pieces-at.is ∙ get_or_default texts i c.index-pieces-at.result [] inside in
    let some : piece_at texts i ≢ [] = subst (λ t. t ≢ []) piece c.summary.ensures.some in
    λ _ none. some_after (joined (take i texts)) (piece_at texts i) some
    (sym (joined-take texts i inside) ∙ ap (λ k. joined (take k texts)) upto ∙ none)
