use Rattle.text_rope.proofs.lemmas.{◌≡◌, ◌++◌, ◌∙◌, ap, sym, append-nil, chars, joined, joined-append, put_before, put_behind}
use Rattle.text_rope.proofs.rope.Rope.append_some.Goals as goal

pub returns-in-Some-clause-appended : goal.returns-in-Some-clause-appended
returns-in-Some-clause-appended c =
    let text = chars c.read-text.result.now in
    let chunk : c.args.other.now ≡ text =
    sym c.other.view_is ∙ ap joined c.in-Some.ensures.some ∙ append-nil c.in-Some.chunk.now ∙ sym c.read-text.ensures.text in
    let put = put_behind c.args.self.now c.replace_range.new.self c.len-len.result text c.len-len.ensures.len c.in_ok-replace_range.ensures.ok in
    put ∙ ap (λ t. c.args.self.now ++ t) (sym chunk)

pub returns-in-Some-only_chunk-clause-appended : goal.returns-in-Some-only_chunk-clause-appended
returns-in-Some-only_chunk-clause-appended c =
    let text = chars c.read-text-in-Some-only_chunk.result.now in
    let chunk : c.args.self.now ≡ text =
    sym c.self.view_is ∙ ap joined c.in-Some-only_chunk.ensures.some ∙ append-nil c.in-Some-only_chunk.chunk.now
    ∙ sym c.read-text-in-Some-only_chunk.ensures.text in
    let put = put_before c.args.other.now c.replace_range-in-Some-only_chunk.new.self text c.in_ok-replace_range-2.ensures.ok in
    ap joined c.replace.ensures.value ∙ c.other-in-Some-only_chunk.view_is ∙ put ∙ ap (λ t. t ++ c.args.other.now) (sym chunk)

pub returns-clause-appended : goal.returns-clause-appended
returns-clause-appended c =
    let both = ap joined c.in_ok-self-inside.ensures.chunks ∙ joined-append c.self.inside.tree c.other.inside.tree in
    both ∙ ap (λ t. t ++ joined c.other.inside.tree) c.self.view_is ∙ ap (λ t. c.args.self.now ++ t) c.other.view_is
