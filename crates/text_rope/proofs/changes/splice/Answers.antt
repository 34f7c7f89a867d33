use Rattle.std.specs.Prelude.{min}
use Rattle.text_rope.proofs.lemmas.{ℕ, ◌≡◌, ◌≤◌, ◌+◌, ◌-◌, ◌*◌, ◌++◌, [], ◌∙◌, inl, inr, refl, ap, arith, length, IsJoinedHeight, joined_size, joined_size-append, chunk_end_le, exchanged_between, exchanged_bytes}
use Rattle.text_rope.specs.ChunkEnds.{AreExchanged}
use Rattle.text_rope.specs.States.{texts_of}
use Rattle.text_rope.specs.Work.{WorkState, Costs, height_of}
use Rattle.text_rope.proofs.changes.splice.Goals as goal

-- what is before and after, the chunks between, and two joins: by the heights of the first three, of the joined one and of the last
sum_of : (h n f o g b : ℕ) (old front own joined back new : WorkState) → f ≤ h + 1 → o ≤ n → b ≤ h + 1 → IsJoinedHeight f o g
    → Costs old front (6 * f + 16 * h + 6) (48 + 16 * min h 2 + 16 * min f 1) → Costs front own (32 * n + 5) (2 * n + 16)
    → Costs own joined (6 * ((f - o) + (o - f)) + 3) (16 * (1 - min f o))
    → Costs joined back (6 * b + 16 * h + 6) (48 + 16 * min h 2 + 16 * min b 1)
    → Costs back new (6 * ((g - b) + (b - g)) + 3) (16 * (1 - min g b)) → Costs old new (50 * h + 44 * n + 47) (2 * n + 240)
sum_of h n f o g b old front own joined back new f_low o_low b_low height first chunks join last all = record {
  nodes_at_most = omega (
    arith,
    f_low,
    o_low,
    b_low,
    height.not_lower,
    height.at_most_one_higher,
    first.nodes_at_most,
    chunks.nodes_at_most,
    join.nodes_at_most,
    last.nodes_at_most,
    all.nodes_at_most,
  );
  chunks_at_most = omega (arith, first.chunks_at_most, chunks.chunks_at_most, join.chunks_at_most, last.chunks_at_most, all.chunks_at_most);
  nodes_kept = omega (arith, first.nodes_kept, chunks.nodes_kept, join.nodes_kept, last.nodes_kept, all.nodes_kept);
  chunks_kept = omega (arith, first.chunks_kept, chunks.chunks_kept, join.chunks_kept, last.chunks_kept, all.chunks_kept);
}

pub splice_few-requires-2-clause-some : goal.splice_few-requires-2-clause-some
splice_few-requires-2-clause-some c = omega (
  arith,
  c.requires.some,
  chunk_end_le c.args.subtree.now.texts c.args.to c.requires.end,
  ap (λ s. s.len) c.summary.ensures.summary,
)

pub tree_of-requires : goal.tree_of-requires
tree_of-requires c = omega (arith, c.requires.short, chunk_end_le c.args.subtree.now.texts c.args.to c.requires.end)

pub join_options-requires : goal.join_options-requires
join_options-requires c =
    let texts = c.args.subtree.now.texts in
    record {
      short = omega (
        arith,
        exchanged_bytes texts (texts_of c.in_ok-front.front) c.new.result.items c.args.from c.summary.result.now.len c.in_ok-front.ensures.replaced,
        ap joined_size c.new.ensures.items,
        ap (λ root. joined_size (texts_of root)) c.as_ref.ensures.value,
        ap (λ root. joined_size (texts_of root)) c.as_ref-2.ensures.value,
        ap (λ s. s.len) c.summary.ensures.summary,
        ap joined_size c.in_ok-own.ensures.chunks,
        chunk_end_le texts c.args.to c.requires.end,
        c.requires.short,
        c.requires.some,
      );
    }

pub join_options-requires-2 : goal.join_options-requires-2
join_options-requires-2 c =
    let texts = c.args.subtree.now.texts in
    let front = texts_of c.in_ok-front.front in
    let own = texts_of c.in_ok-own.own in
    record {
      short = omega (
        arith,
        exchanged_bytes texts front c.new.result.items c.args.from c.summary.result.now.len c.in_ok-front.ensures.replaced,
        exchanged_bytes texts (texts_of c.in_ok-back.back) c.new-2.result.items 0 c.args.to c.in_ok-back.ensures.replaced,
        ap joined_size c.new.ensures.items,
        ap joined_size c.new-2.ensures.items,
        ap (λ s. s.len) c.summary.ensures.summary,
        ap (λ root. joined_size (texts_of root)) c.as_ref-3.ensures.value,
        ap (λ root. joined_size (texts_of root)) c.as_ref-4.ensures.value,
        ap joined_size (rw (c.as_ref.ensures.value, c.as_ref-2.ensures.value) at c.in_ok-front-2.ensures.chunks),
        joined_size-append front own,
        ap joined_size c.in_ok-own.ensures.chunks,
        chunk_end_le texts c.args.to c.requires.end,
        c.requires.short,
        c.requires.some,
      );
    }

pub returns-clause-replaced : goal.returns-clause-replaced
returns-clause-replaced c =
    let texts = c.args.subtree.now.texts in
    let front = texts_of c.in_ok-front.front in
    let back = texts_of c.in_ok-back.back in
    let chunks = c.args.chunks.items in
    let whole = texts_of c.in_ok-join_options.field-0 in
    let first : AreExchanged texts front c.args.from (joined_size texts) [] =
    rw (ap (λ s. s.len) c.summary.ensures.summary, c.new.ensures.items) at c.in_ok-front.ensures.replaced in
    let last : AreExchanged texts back 0 c.args.to [] = rw c.new-2.ensures.items at c.in_ok-back.ensures.replaced in
    let is : whole ≡ (front ++ chunks) ++ back =
    (rw (c.as_ref-3.ensures.value, c.as_ref-4.ensures.value) at c.in_ok-join_options.ensures.chunks)
    ∙ ap (λ f. f ++ back) ((rw (c.as_ref.ensures.value, c.as_ref-2.ensures.value) at c.in_ok-front-2.ensures.chunks) ∙ ap (λ r. front ++ r) c.in_ok-own.ensures.chunks) in
    exchanged_between texts front back chunks whole c.args.from c.args.to first last c.summary.ensures.each is

pub returns-clause-work : goal.returns-clause-work
returns-clause-work c =
    sum_of c.args.subtree.now.height (length c.args.chunks.items) (height_of c.in_ok-front.front) (height_of c.in_ok-own.own)
    (height_of c.in_ok-front-2.front) (height_of c.in_ok-back.back) c.args.work.now c.splice_few-2.new.work c.tree_of.new.work
    c.join_options.new.work c.splice_few-3.new.work c.join_options-2.new.work c.in_ok-front.ensures.low c.in_ok-own.ensures.low
    c.in_ok-back.ensures.low (rw (c.as_ref.ensures.value, c.as_ref-2.ensures.value) at c.in_ok-front-2.ensures.height)
    (c.in_ok-front.ensures.edge (inr (ap (λ s. s.len) c.summary.ensures.summary))) c.in_ok-own.ensures.work
    (rw (c.as_ref.ensures.value, c.as_ref-2.ensures.value) at c.join_options.ensures.work)
    (c.in_ok-back.ensures.edge (inl refl)) (rw (c.as_ref-3.ensures.value, c.as_ref-4.ensures.value) at c.join_options-2.ensures.work)

pub returns-in_err-join_options-clause-work : goal.returns-in_err-join_options-clause-work
returns-in_err-join_options-clause-work c =
    sum_of c.args.subtree.now.height (length c.args.chunks.items) (height_of c.in_ok-front.front) (height_of c.in_ok-own.own)
    (height_of c.in_ok-front-2.front) (height_of c.in_ok-back.back) c.args.work.now c.splice_few-2.new.work c.tree_of.new.work
    c.join_options.new.work c.splice_few-3.new.work c.join_options-2.new.work c.in_ok-front.ensures.low c.in_ok-own.ensures.low
    c.in_ok-back.ensures.low (rw (c.as_ref.ensures.value, c.as_ref-2.ensures.value) at c.in_ok-front-2.ensures.height)
    (c.in_ok-front.ensures.edge (inr (ap (λ s. s.len) c.summary.ensures.summary))) c.in_ok-own.ensures.work
    (rw (c.as_ref.ensures.value, c.as_ref-2.ensures.value) at c.join_options.ensures.work)
    (c.in_ok-back.ensures.edge (inl refl)) (rw (c.as_ref-3.ensures.value, c.as_ref-4.ensures.value) at c.join_options-2.ensures.work)
