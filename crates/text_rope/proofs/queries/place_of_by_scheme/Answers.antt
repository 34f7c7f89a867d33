use Rattle.text_rope.proofs.lemmas.{◌≢◌, ◌-◌, ◌++◌, [], rules, ap, arith, length, size-append, few_looks, some_of, count-nil, seam_loss, joined, joined_size, place_of_left, place_of_right, seam_of_subtrees}
use Rattle.text_rope.proofs.queries.place_of_by_scheme.Goals as goal

pub down-init : goal.down-init
down-init c =
    let s = c.args.s in
    let none = c.none-front.ensures s in
    record {
      reaches = record {
        a = [];
        is = none;
        short = omega (arith, c.summary-short.ensures.short);
        past = omega (arith, count-nil s, c.requires);
      };
      place = λ chunk before own. own [] none;
      texts = search rules;
      looks = search rules;
      looks_kept = search rules;
      reads = search rules;
    }

pub chunk_at_count-requires : goal.chunk_at_count-requires
chunk_at_count-requires c =
    let leaf = c.in-Chunks.ensures.look in
    let reaches = c.down.invariant.reaches in
    record {
      reaches = record {
        a = reaches.a;
        is = reaches.is;
        short = omega (arith, reaches.short, ap joined_size leaf.texts);
        past = rw leaf.texts at reaches.past;
      };
      some = leaf.some;
    }

pub returns-in-Chunks-clause-place : goal.returns-in-Chunks-clause-place
returns-in-Chunks-clause-place c =
    c.down.invariant.place c.chunk_at_count.result.chunk.now c.chunk_at_count.result.before (λ a is.
    rw c.in-Chunks.ensures.look.texts (c.chunk_at_count.ensures a is))

pub returns-in-Chunks-clause-looks : goal.returns-in-Chunks-clause-looks
returns-in-Chunks-clause-looks c = few_looks (c.look.new.self.looks - c.args.v.now.looks) c.args.subtree.now.height
    (length c.args.subtree.now.texts)
    (omega (arith, c.down.invariant.looks, ap (λ v. v.looks) c.in-Chunks.ensures.state, c.in-Chunks.ensures.look.height))
    c.height-height.ensures.many

pub step-first-requires : goal.step-first-requires
step-first-requires c =
    let branch = c.in-Subtrees.ensures.look in
    let left = joined c.in-Subtrees.left.now.texts in
    let reaches = c.down.invariant.reaches in
    record {
      a = reaches.a;
      b = left;
      front_is = reaches.is;
      piece_is = c.summary.ensures.summary;
      some = some_of left (λ none. omega (arith, none, c.summary.ensures.some, c.summary.ensures.few));
      short = omega (arith, reaches.short, branch.size_is);
    }

pub step-next-requires : goal.step-next-requires
step-next-requires c =
    let branch = c.in-Subtrees.ensures.look in
    let left = joined c.in-Subtrees.left.now.texts in
    let right = joined c.in-Subtrees.right.now.texts in
    let reaches = c.down.invariant.reaches in
    let some : left ≢ [] = some_of left (λ none. omega (arith, none, c.summary.ensures.some, c.summary.ensures.few)) in
    let told = c.step-first.ensures reaches.a left reaches.is c.summary.ensures.summary some in
    record {
      a = reaches.a ++ left;
      b = right;
      front_is = told.after;
      piece_is = c.summary-in-Subtrees.ensures.summary;
      some = some_of right (λ none. omega (arith, none, c.summary-in-Subtrees.ensures.some, c.summary-in-Subtrees.ensures.few));
      short = omega (arith, reaches.short, branch.size_is, size-append reaches.a left);
    }

pub down-preserved-then-k-next : goal.down-preserved-then-k-next
down-preserved-then-k-next c =
    let down = c.down.invariant in
    let branch = c.in-Subtrees.ensures.look in
    let left = joined c.in-Subtrees.left.now.texts in
    let right = joined c.in-Subtrees.right.now.texts in
    let reaches = down.reaches in
    let some : left ≢ [] = some_of left (λ none. omega (arith, none, c.summary.ensures.some, c.summary.ensures.few)) in
    let some_right : right ≢ [] = some_of right (λ none. omega (arith, none, c.summary-in-Subtrees.ensures.some, c.summary-in-Subtrees.ensures.few)) in
    record {
      reaches = record {
        a = reaches.a;
        is = reaches.is;
        short = omega (arith, reaches.short, branch.size_is);
        past = omega (
          arith,
          reaches.past,
          ap (λ r. seam_loss c.args.s reaches.a (joined r)) branch.texts,
          seam_of_subtrees c.args.s reaches.a c.in-Subtrees.left.now.texts c.in-Subtrees.right.now.texts some,
        );
      };
      place = λ chunk front own. down.place chunk front (λ a is.
          let told = c.step-first.ensures a left is c.summary.ensures.summary some in
          let next = c.step-next.ensures (a ++ left) right told.after c.summary-in-Subtrees.ensures.summary some_right in
          rw branch.texts (place_of_left c.in-Subtrees.right.now.texts (omega (arith, next.reached, c.if-k-next.true)) (own a is)));
      texts = search rules;
      looks = grind (arith, down.looks, ap (λ v. v.looks) c.in-Subtrees.ensures.state, branch.height);
      looks_kept = search rules;
      reads = search rules;
    }

pub down-preserved : goal.down-preserved
down-preserved c =
    let down = c.down.invariant in
    let branch = c.in-Subtrees.ensures.look in
    let left = joined c.in-Subtrees.left.now.texts in
    let right = joined c.in-Subtrees.right.now.texts in
    let reaches = down.reaches in
    let some : left ≢ [] = some_of left (λ none. omega (arith, none, c.summary.ensures.some, c.summary.ensures.few)) in
    let some_right : right ≢ [] = some_of right (λ none. omega (arith, none, c.summary-in-Subtrees.ensures.some, c.summary-in-Subtrees.ensures.few)) in
    let told = c.step-first.ensures reaches.a left reaches.is c.summary.ensures.summary some in
    let next = c.step-next.ensures (reaches.a ++ left) right told.after c.summary-in-Subtrees.ensures.summary some_right in
    record {
      reaches = record {
        a = reaches.a ++ left;
        is = told.after;
        short = omega (arith, reaches.short, branch.size_is, size-append reaches.a left);
        past = omega (arith, next.reached, c.if-k-next.false);
      };
      place = λ chunk front own. down.place chunk front (λ a is.
          let here = c.step-first.ensures a left is c.summary.ensures.summary some in
          rw branch.texts (place_of_right c.in-Subtrees.left.now.texts (own (a ++ left) here.after)));
      texts = search rules;
      looks = grind (arith, down.looks, ap (λ v. v.looks) c.in-Subtrees.ensures.state, branch.height);
      looks_kept = search rules;
      reads = search rules;
    }
