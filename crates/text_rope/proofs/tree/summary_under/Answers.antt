use Rattle.text_rope.proofs.lemmas.{◌++◌, ◌^◌, ◌<◌, joined_size, ap, sym, ◌∙◌, arith, joined, joined-append, summary_of}
use Rattle.text_rope.proofs.lemmas.Trees.{joined_size-append}
use Rattle.text_rope.proofs.tree.summary_under.Goals as goal

pub join_summaries-requires : goal.join_summaries-requires
join_summaries-requires c =
    let branch = c.in-Branch.branch.value in
    let left = branch.left.texts in
    let right = branch.right.texts in
    let short : joined_size (left ++ right) < 2 ^ 63 = rw c.in-Branch.is at c.requires in
    record {
      a = joined c.deref-in-Branch.result.now.left.texts;
      b = joined c.deref-in-Branch-2.result.now.right.texts;
      front_is = c.summary.ensures.summary;
      after_is = c.summary-in-Branch.ensures.summary;
      short = omega (
        arith,
        short,
        joined_size-append left right,
        ap (λ f. joined_size f.left.texts) c.deref-in-Branch.ensures,
        ap (λ f. joined_size f.right.texts) c.deref-in-Branch-2.ensures,
      );
    }

pub returns-in-Branch : goal.returns-in-Branch
returns-in-Branch c =
    let branch = c.in-Branch.branch.value in
    let left = c.deref-in-Branch.result.now.left.texts in
    let right = c.deref-in-Branch-2.result.now.right.texts in
    let both = c.join_summaries.ensures (joined left) (joined right) c.summary.ensures.summary c.summary-in-Branch.ensures.summary
    ∙ ap summary_of (sym (joined-append left right)) ∙ ap (λ f. summary_of (joined (f.left.texts ++ right))) c.deref-in-Branch.ensures
    ∙ ap (λ f. summary_of (joined (branch.left.texts ++ f.right.texts))) c.deref-in-Branch-2.ensures in
    rw c.in-Branch.is both
