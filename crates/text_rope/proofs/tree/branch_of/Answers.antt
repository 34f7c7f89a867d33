use Rattle.text_rope.proofs.lemmas.{◌≡◌, ◌+◌, max, arith, joined, is_subtree}
use Rattle.text_rope.proofs.tree.branch_of.Goals as goal

pub join_summaries-summary-requires : goal.join_summaries-summary-requires
join_summaries-summary-requires c = record {
  a = joined c.args.left.texts;
  b = joined c.args.right.texts;
  front_is = c.summary.ensures.summary;
  after_is = c.summary-2.ensures.summary;
  short = c.requires.short;
}

pub invariant_of-result : goal.invariant_of-result
invariant_of-result c =
    let left = c.args.left in
    let right = c.args.right in
    let height : c.max-height.result + 1 ≡ max left.height right.height + 1 = omega (arith, c.max-height.ensures, c.height.ensures.height, c.height-2.ensures.height) in
    rw c.in_ok-new.ensures.ok (
      is_subtree left right c.join_summaries-summary.result (c.max-height.result + 1)
          (c.join_summaries-summary.ensures (joined left.texts) (joined right.texts) c.summary.ensures.summary c.summary-2.ensures.summary)
          c.requires.short height c.requires.balanced c.height.ensures.low c.height-2.ensures.low c.height.ensures.many
          c.height-2.ensures.many c.summary.ensures.each c.summary-2.ensures.each,
      record {
        height_is = height;
        balanced = c.requires.balanced;
        some_left = c.summary.ensures.some;
        some_right = c.summary-2.ensures.some;
      },
    )
