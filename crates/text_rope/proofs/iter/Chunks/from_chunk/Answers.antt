use Rattle.text_rope.proofs.lemmas.{◌≡◌, ◌++◌, ap, joined, joined_size, subst, sym, ◌∙◌, within_from_rest}
use Rattle.text_rope.specs.Chunks.{IsWithin}
use Rattle.text_rope.specs.Rests.{IsOnWay, IsRestAt}
use Rattle.text_rope.proofs.iter.Chunks.from_chunk.Goals as goal

pub invariant_of-chunks : goal.invariant_of-chunks
invariant_of-chunks c =
    let rest = c.rest_of-rest in
    let tree = c.args.tree.now in
    let same : rest.new.v.texts ≡ tree = rest.ensures.texts ∙ ap (λ v. v.texts) c.of-view.ensures.view in
    let is : IsRestAt 0 tree rest.result.chunks.now rest.result.start c.args.at =
    rw (ap (λ v. v.texts) c.of-view.ensures.view) at rest.ensures.rest in
    let here : IsOnWay tree rest.result.chunks.now rest.result.start c.len-end.result = record {
      within = within_from_rest is c.requires (c.len-end.ensures.len ∙ ap joined_size same);
      chunks_are = λ before some. record {
        front = is.front;
        back = is.back;
        parts = is.parts ∙ ap (λ chunks. is.front ++ (chunks ++ is.back)) (sym is.chunks_are);
        place = is.place;
      };
    } in
    subst (λ t. IsOnWay t rest.result.chunks.now rest.result.start c.len-end.result) (sym same) here

pub returns-clause-within : goal.returns-clause-within
returns-clause-within c =
    let rest = c.rest_of-rest in
    let tree = c.args.tree.now in
    let same : rest.new.v.texts ≡ tree = rest.ensures.texts ∙ ap (λ v. v.texts) c.of-view.ensures.view in
    let is : IsRestAt 0 tree rest.result.chunks.now rest.result.start c.args.at =
    rw (ap (λ v. v.texts) c.of-view.ensures.view) at rest.ensures.rest in
    subst (λ t. IsWithin (joined t) rest.result.start c.len-end.result) (sym same)
    (within_from_rest is c.requires (c.len-end.ensures.len ∙ ap joined_size same))
