use Rattle.text_rope.proofs.lemmas.{◌≢◌, ◌-◌, ◌++◌, [], rules, ap, arith, length, size-append, few_looks, some_of, joined, place_left, place_right}
use Rattle.text_rope.proofs.queries.place_at_by_scheme.Goals as goal

pub down-init : goal.down-init
down-init c =
    let s = c.args.s in
    let none = c.none-front.ensures s in
    record {
      before = record { a = []; is = none; short = omega (arith, none.len, c.summary-short.ensures.short) };
      after = omega (arith, none.len);
      inside = omega (arith, none.len, c.requires);
      place = λ chunk before own. own [] none;
      texts = search rules;
      looks = search rules;
      looks_kept = search rules;
      reads = search rules;
    }

pub returns-in-Chunks-clause-low : goal.returns-in-Chunks-clause-low
returns-in-Chunks-clause-low c =
    omega (arith, c.down.invariant.looks, ap (λ v. v.looks) c.in-Chunks.ensures.state, c.in-Chunks.ensures.look.height)

pub returns-in-Chunks-clause-looks : goal.returns-in-Chunks-clause-looks
returns-in-Chunks-clause-looks c = few_looks (c.look.new.self.looks - c.args.v.now.looks) c.args.subtree.now.height
    (length c.args.subtree.now.texts)
    (omega (arith, c.down.invariant.looks, ap (λ v. v.looks) c.in-Chunks.ensures.state, c.in-Chunks.ensures.look.height))
    c.height-height.ensures.many

pub down-preserved-then-at-step : goal.down-preserved-then-at-step
down-preserved-then-at-step c =
    let down = c.down.invariant in
    let branch = c.in-Subtrees.ensures.look in
    let left = joined c.in-Subtrees.left.now.texts in
    let before = down.before in
    let some : left ≢ [] = some_of left (λ none. omega (arith, none, c.summary.ensures.some, c.summary.ensures.few)) in
    let told = c.step-step.ensures before.a left before.is c.summary.ensures.summary some in
    record {
      before = record { a = before.a; is = before.is; short = omega (arith, before.short, branch.size_is) };
      after = down.after;
      inside = omega (arith, told.after.len, before.is.len, size-append before.a left, c.if-at-step.true);
      place = λ chunk front own. down.place chunk front (λ a is. rw branch.texts (place_left c.in-Subtrees.right.now.texts (own a is)));
      texts = search rules;
      looks = grind (arith, down.looks, ap (λ v. v.looks) c.in-Subtrees.ensures.state, branch.height);
      looks_kept = search rules;
      reads = search rules;
    }

pub down-preserved : goal.down-preserved
down-preserved c =
    let down = c.down.invariant in
    let branch = c.in-Subtrees.ensures.look in
    let left = joined c.in-Subtrees.left.now.texts in
    let before = down.before in
    let some : left ≢ [] = some_of left (λ none. omega (arith, none, c.summary.ensures.some, c.summary.ensures.few)) in
    let told = c.step-step.ensures before.a left before.is c.summary.ensures.summary some in
    record {
      before = record {
        a = before.a ++ left;
        is = told.after;
        short = omega (arith, before.short, branch.size_is, size-append before.a left);
      };
      after = omega (arith, c.if-at-step.false);
      inside = omega (arith, told.after.len, before.is.len, size-append before.a left, branch.size_is, down.inside);
      place = λ chunk front own. down.place chunk front (λ a is.
          let here = c.step-step.ensures a left is c.summary.ensures.summary some in
          rw branch.texts (place_right c.in-Subtrees.left.now.texts (own (a ++ left) here.after)));
      texts = search rules;
      looks = grind (arith, down.looks, ap (λ v. v.looks) c.in-Subtrees.ensures.state, branch.height);
      looks_kept = search rules;
      reads = search rules;
    }
