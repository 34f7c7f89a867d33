use Rattle.std.proofs.lemmas.Result.{IfOk-weaker}
use Rattle.std.specs.Prelude.{Option, Result, Ok, Err, IfOk, min}
use Rattle.text_rope.proofs.lemmas.{ℕ, ◌≡◌, ◌≤◌, ◌+◌, ◌-◌, ◌*◌, Seen, IsJoinedHeight, [], ◌++◌, ◌∙◌, inl, inr, refl, sym, ap, arith, append-nil, length, length-append, Text, joined_size, exchanged_bytes, chunk_end_all, chunk_end_le, chunk_end_left, chunk_end_none, chunk_end_right, exchanged_across, exchanged_all, exchanged_left, exchanged_right}
use Rattle.text_rope.specs.Leaves.{AreSome}
use Rattle.text_rope.specs.ChunkEnds.{AreExchanged, IsChunkEnd}
use Rattle.text_rope.specs.States.{texts_of}
use Rattle.text_rope.specs.Work.{WorkState, Costs, height_of, height_or}
use Rattle.text_rope.proofs.changes.+splice_few.Goals as goal

-- some steps, and three counts after them
after_three : (k a b c all o looked front back new : ℕ) → looked ≡ o + k → front ≤ looked + a → back ≤ front + b → new ≤ back + c
    → k + a + b + c ≤ all → new ≤ o + all
after_three k a b c all o looked front back new is first second third le = omega (arith, is, first, second, third, le)

kept : (k o looked front back new : ℕ) → looked ≡ o + k → looked ≤ front → front ≤ back → back ≤ new → o ≤ new
kept k o looked front back new is first second third = omega (arith, is, first, second, third)

at_most : (a k m : ℕ) → a ≤ k → min a k ≤ m → a ≤ m
at_most a k m low le = omega (arith, low, le)

-- twice the higher of two trees
twice_higher : (f b m h : ℕ) → f ≤ m → b ≤ m → f ≤ h → b ≤ h → 6 * f + 6 * b + 6 * ((f - b) + (b - f)) ≤ 6 * m + 6 * h
twice_higher f b m h f_m b_m f_h b_h = omega arith

-- the nodes of both subtrees and of their join
nodes_of : (f b m h l u : ℕ) → f ≤ m → b ≤ m → f ≤ h → b ≤ h → l + 1 ≤ h → u + 1 ≤ h
    → 1 + (6 * f + 16 * l + 6) + (6 * b + 16 * u + 6) + (6 * ((f - b) + (b - f)) + 3) ≤ 6 * m + 38 * h + 6
nodes_of f b m h l u f_m b_m f_h b_h l_h u_h = omega (arith, twice_higher f b m h f_m b_m f_h b_h)

-- and the chunks
chunks_of_subtrees : (l u h : ℕ) → l + 1 ≤ h → u + 1 ≤ h → 16 * min l 2 + 16 * min u 2 ≤ 32 + 16 * min h 2
chunks_of_subtrees l u h l_h u_h = omega arith

chunks_of_join : (f b m : ℕ) → min f 1 ≤ m → min b 1 ≤ m → 16 * min f 1 + 16 * min b 1 + 16 * (1 - min f b) ≤ 16 + 16 * min m 1
chunks_of_join f b m f_m b_m = omega arith

sum_of_chunks : (p q r s t v w : ℕ) → p + q ≤ 32 + r → s + t + v ≤ 16 + w → 0 + (48 + p + s) + (48 + q + t) + v ≤ 144 + r + w
sum_of_chunks p q r s t v w subtrees join = omega (arith, subtrees, join)

chunks_of : (f b m h l u : ℕ) → min f 1 ≤ m → min b 1 ≤ m → l + 1 ≤ h → u + 1 ≤ h
    → 0 + (48 + 16 * min l 2 + 16 * min f 1) + (48 + 16 * min u 2 + 16 * min b 1) + 16 * (1 - min f b)
    ≤ 144 + 16 * min h 2 + 16 * min m 1
chunks_of f b m h l u f_m b_m l_h u_h = sum_of_chunks (16 * min l 2) (16 * min u 2) (16 * min h 2) (16 * min f 1)
    (16 * min b 1) (16 * (1 - min f b)) (16 * min m 1) (chunks_of_subtrees l u h l_h u_h) (chunks_of_join f b m f_m b_m)

-- a joined tree is as high as both; a refusal counts as `k`
as_high : {E : Type 0} (r : Result (Option Seen) E) (f b k : ℕ) → IfOk r (λ whole. IsJoinedHeight f b (height_of whole))
    → min f k ≤ height_or k r × min b k ≤ height_or k r
as_high (Ok whole) f b k height = (omega (arith, height.not_lower), omega (arith, height.not_lower))
as_high (Err e) f b k height = (omega arith, omega arith)

-- a look at a branch, what is exchanged on both subtrees of its middle, and their join
across_of : {E : Type 0} (r : Result (Option Seen) E) (h l u f b : ℕ) (old looked front back new : WorkState) → l + 1 ≤ h → u + 1 ≤ h
    → f ≤ l + 1 → b ≤ u + 1 → looked.nodes ≡ old.nodes + 1 → looked.chunks ≡ old.chunks
    → Costs looked front (6 * f + 16 * l + 6) (48 + 16 * min l 2 + 16 * min f 1)
    → Costs front back (6 * b + 16 * u + 6) (48 + 16 * min u 2 + 16 * min b 1)
    → Costs back new (6 * ((f - b) + (b - f)) + 3) (16 * (1 - min f b)) → IfOk r (λ whole. IsJoinedHeight f b (height_of whole))
    → Costs old new (6 * height_or (h + 1) r + 38 * h + 6) (144 + 16 * min h 2 + 16 * min (height_or 1 r) 1)
across_of r h l u f b old looked front back new l_h u_h f_l b_u nodes chunks first second last height =
    let high = as_high r f b (h + 1) height in
    let some = as_high r f b 1 height in
    let f_h : f ≤ h = omega (arith, f_l, l_h) in
    let b_h : b ≤ h = omega (arith, b_u, u_h) in
    let f_m : f ≤ height_or (h + 1) r = at_most f (h + 1) (height_or (h + 1) r) (omega (arith, f_h)) high.0 in
    let b_m : b ≤ height_or (h + 1) r = at_most b (h + 1) (height_or (h + 1) r) (omega (arith, b_h)) high.1 in
    record {
      nodes_at_most = after_three 1 _ _ _ _ old.nodes looked.nodes front.nodes back.nodes new.nodes nodes first.nodes_at_most
          second.nodes_at_most last.nodes_at_most (nodes_of f b (height_or (h + 1) r) h l u f_m b_m f_h b_h l_h u_h);
      chunks_at_most = after_three 0 _ _ _ _ old.chunks looked.chunks front.chunks back.chunks new.chunks (omega (arith, chunks)) first.chunks_at_most
          second.chunks_at_most last.chunks_at_most (chunks_of f b (height_or 1 r) h l u some.0 some.1 l_h u_h);
      nodes_kept = kept 1 old.nodes looked.nodes front.nodes back.nodes new.nodes nodes first.nodes_kept second.nodes_kept last.nodes_kept;
      chunks_kept = kept 0 old.chunks looked.chunks front.chunks back.chunks new.chunks (omega (arith, chunks)) first.chunks_kept second.chunks_kept
          last.chunks_kept;
    }

pub splice_few-requires : goal.splice_few-requires
splice_few-requires t c =
    let branch = c.in-Subtrees.ensures.look in
    let left = c.in-Subtrees.left.now.texts in
    let right = c.in-Subtrees.right.now.texts in
    let len = ap (λ s. s.len) c.summary-2.ensures.summary in
    let start : IsChunkEnd (left ++ right) c.args.from = rw branch.texts at c.requires.start in
    let end : IsChunkEnd (left ++ right) c.args.to = rw branch.texts at c.requires.end in (
      grind (arith, length-append {A = Text}, branch.texts, branch.some_right),
      (
        c.requires.some,
        (
          chunk_end_left left right c.args.from start (omega (arith, len, c.requires.some)),
          (chunk_end_left left right c.args.to end (omega (arith, len)), omega (arith, branch.size_is, c.requires.short)),
        ),
      ),
    )

pub splice_few-requires-then-middle-from : goal.splice_few-requires-then-middle-from
splice_few-requires-then-middle-from t c =
    let branch = c.in-Subtrees.ensures.look in
    let left = c.in-Subtrees.left.now.texts in
    let right = c.in-Subtrees.right.now.texts in
    let middle = c.summary-2.result.now.len in
    let len = ap (λ s. s.len) c.summary-2.ensures.summary in
    let start : IsChunkEnd (left ++ right) c.args.from = rw branch.texts at c.requires.start in
    let end : IsChunkEnd (left ++ right) c.args.to = rw branch.texts at c.requires.end in (
      grind (arith, length-append {A = Text}, branch.texts, branch.some_left),
      (
        omega (arith, c.requires.some),
        (
          chunk_end_right left right c.args.from (c.args.from - middle) start (omega (arith, len)),
          (
            chunk_end_right left right c.args.to (c.args.to - middle) end (omega (arith, len, c.requires.some)),
            omega (arith, branch.size_is, c.requires.short),
          ),
        ),
      ),
    )

pub join_options-requires : goal.join_options-requires
join_options-requires t c =
    let left = c.in-Subtrees.left.now.texts in
    let front = texts_of c.in_ok-front.front in
    record {
      short = omega (
        arith,
        exchanged_bytes left front c.args.chunks.items c.args.from c.args.to c.in_ok-front.ensures.replaced,
        ap (λ root. joined_size (texts_of root)) c.as_ref.ensures.value,
        c.in-Subtrees.ensures.look.size_is,
        c.requires.short,
        c.requires.some,
      );
    }

pub join_options-requires-then-middle-from : goal.join_options-requires-then-middle-from
join_options-requires-then-middle-from t c =
    let right = c.in-Subtrees.right.now.texts in
    let back = texts_of c.in_ok-back.back in
    let middle = c.summary-2.result.now.len in
    record {
      short = omega (
        arith,
        exchanged_bytes right back c.args.chunks.items (c.args.from - middle) (c.args.to - middle) c.in_ok-back.ensures.replaced,
        ap (λ root. joined_size (texts_of root)) c.as_ref-then-middle-from.ensures.value,
        c.in-Subtrees.ensures.look.size_is,
        c.requires.short,
        c.requires.some,
        c.if-middle-from.true,
      );
    }

pub splice_few-requires-then-from-eq0-2 : goal.splice_few-requires-then-from-eq0-2
splice_few-requires-then-from-eq0-2 t c =
    let branch = c.in-Subtrees.ensures.look in
    let left = c.in-Subtrees.left.now.texts in
    let right = c.in-Subtrees.right.now.texts in
    let middle = c.summary-2.result.now.len in
    let len = ap (λ s. s.len) c.summary-2.ensures.summary in
    let end : IsChunkEnd (left ++ right) c.args.to = rw branch.texts at c.requires.end in (
      grind (arith, length-append {A = Text}, branch.texts, branch.some_left),
      (
        omega (arith, c.if-to-middle.false),
        (
          chunk_end_none right,
          (chunk_end_right left right c.args.to (c.args.to - middle) end (omega (arith, len, c.if-to-middle.false)), omega (arith, branch.size_is, len, c.requires.short, c.if-to-middle.false)),
        ),
      ),
    )

pub splice_few-requires-2 : goal.splice_few-requires-2
splice_few-requires-2 t c =
    let branch = c.in-Subtrees.ensures.look in
    let left = c.in-Subtrees.left.now.texts in
    let right = c.in-Subtrees.right.now.texts in
    let len = ap (λ s. s.len) c.summary-2.ensures.summary in
    let start : IsChunkEnd (left ++ right) c.args.from = rw branch.texts at c.requires.start in (
      grind (arith, length-append {A = Text}, branch.texts, branch.some_right),
      (
        omega (arith, c.if-middle-from.false),
        (
          chunk_end_left left right c.args.from start (omega (arith, len, c.if-middle-from.false)),
          (rw len (chunk_end_all left), omega (arith, branch.size_is, len, c.requires.short, chunk_end_le c.args.subtree.now.texts c.args.to c.requires.end)),
        ),
      ),
    )

pub splice_few-requires-3 : goal.splice_few-requires-3
splice_few-requires-3 t c =
    let branch = c.in-Subtrees.ensures.look in
    let left = c.in-Subtrees.left.now.texts in
    let right = c.in-Subtrees.right.now.texts in
    let middle = c.summary-2.result.now.len in
    let len = ap (λ s. s.len) c.summary-2.ensures.summary in
    let end : IsChunkEnd (left ++ right) c.args.to = rw branch.texts at c.requires.end in (
      grind (arith, length-append {A = Text}, branch.texts, branch.some_left),
      (
        omega (arith, c.if-to-middle.false),
        (
          chunk_end_none right,
          (chunk_end_right left right c.args.to (c.args.to - middle) end (omega (arith, len, c.if-to-middle.false)), omega (arith, branch.size_is, c.summary.ensures.short, ap joined_size c.new.ensures.items, ap length c.new.ensures.items)),
        ),
      ),
    )

pub join_options-requires-2 : goal.join_options-requires-2
join_options-requires-2 t c =
    let left = c.in-Subtrees.left.now.texts in
    let right = c.in-Subtrees.right.now.texts in
    let middle = c.summary-2.result.now.len in
    record {
      short = omega (
        arith,
        exchanged_bytes left (texts_of c.in_ok-front-2.front) c.args.chunks.items c.args.from middle c.in_ok-front-2.ensures.replaced,
        exchanged_bytes right (texts_of c.in_ok-back-2.back) c.new.result.items 0 (c.args.to - middle) c.in_ok-back-2.ensures.replaced,
        ap joined_size c.new.ensures.items,
        ap (λ root. joined_size (texts_of root)) c.as_ref-2.ensures.value,
        ap (λ root. joined_size (texts_of root)) c.as_ref-3.ensures.value,
        ap (λ s. s.len) c.summary-2.ensures.summary,
        c.in-Subtrees.ensures.look.size_is,
        c.requires.short,
        c.requires.some,
        c.if-to-middle.false,
      );
    }

pub returns-then-to-whole-clause-replaced : goal.returns-then-to-whole-clause-replaced
returns-then-to-whole-clause-replaced t c =
    let texts = c.args.subtree.now.texts in
    let chunks = c.args.chunks.items in
    let to : c.args.to ≡ joined_size texts = c.if-to-whole.true ∙ ap (λ s. s.len) c.summary.ensures.summary in
    IfOk-weaker c.few_of.result (λ whole. texts_of whole ≡ chunks) (λ whole. AreExchanged texts (texts_of whole) c.args.from c.args.to chunks)
    (λ whole is. rw (is, c.if-from-eq0.true, to) (exchanged_all texts chunks)) c.few_of.ensures.chunks

pub returns-then-to-middle-clause-replaced : goal.returns-then-to-middle-clause-replaced
returns-then-to-middle-clause-replaced t c =
    let texts = c.args.subtree.now.texts in
    let left = c.in-Subtrees.left.now.texts in
    let right = c.in-Subtrees.right.now.texts in
    let front = texts_of c.in_ok-front.front in
    let chunks = c.args.chunks.items in
    IfOk-weaker c.join_options.result (λ whole. texts_of whole ≡ front ++ right)
    (λ whole. AreExchanged texts (texts_of whole) c.args.from c.args.to chunks) (λ whole is.
    rw c.in-Subtrees.ensures.look.texts (exchanged_left left right front (texts_of whole) chunks c.args.from c.args.to
    c.in_ok-front.ensures.replaced is)) (rw c.as_ref.ensures.value at c.join_options.ensures.chunks)

pub returns-then-middle-from-clause-replaced : goal.returns-then-middle-from-clause-replaced
returns-then-middle-from-clause-replaced t c =
    let texts = c.args.subtree.now.texts in
    let left = c.in-Subtrees.left.now.texts in
    let right = c.in-Subtrees.right.now.texts in
    let back = texts_of c.in_ok-back.back in
    let chunks = c.args.chunks.items in
    let middle = c.summary-2.result.now.len in
    let len = ap (λ s. s.len) c.summary-2.ensures.summary in
    IfOk-weaker c.join_options-then-middle-from.result (λ whole. texts_of whole ≡ left ++ back)
    (λ whole. AreExchanged texts (texts_of whole) c.args.from c.args.to chunks) (λ whole is.
    rw c.in-Subtrees.ensures.look.texts (exchanged_right left right back (texts_of whole) chunks (c.args.from - middle) (c.args.to - middle)
    c.args.from c.args.to c.in_ok-back.ensures.replaced (omega (arith, len, c.if-middle-from.true)) (omega (arith, len, c.if-to-middle.false))
    is)) (rw c.as_ref-then-middle-from.ensures.value at c.join_options-then-middle-from.ensures.chunks)

pub returns-then-from-eq0-2-clause-replaced : goal.returns-then-from-eq0-2-clause-replaced
returns-then-from-eq0-2-clause-replaced t c =
    let branch = c.in-Subtrees.ensures.look in
    let texts = c.args.subtree.now.texts in
    let left = c.in-Subtrees.left.now.texts in
    let right = c.in-Subtrees.right.now.texts in
    let chunks = c.args.chunks.items in
    let middle = c.summary-2.result.now.len in
    let len = ap (λ s. s.len) c.summary-2.ensures.summary in
    let each : AreSome (left ++ right) = rw branch.texts at c.summary.ensures.each in
    IfOk-weaker c.splice_few-then-from-eq0-2.result (λ whole. AreExchanged right (texts_of whole) 0 (c.args.to - middle) chunks)
    (λ whole. AreExchanged texts (texts_of whole) c.args.from c.args.to chunks) (λ whole is.
    rw (branch.texts, c.if-from-eq0-2.true) (exchanged_across left right [] (texts_of whole) [] chunks (texts_of whole) chunks 0 c.args.to
    (c.args.to - middle) (exchanged_all left []) is (omega (arith, len, c.if-to-middle.false)) each refl refl))
    c.splice_few-then-from-eq0-2.ensures.replaced

pub returns-then-to-whole-2-clause-replaced : goal.returns-then-to-whole-2-clause-replaced
returns-then-to-whole-2-clause-replaced t c =
    let branch = c.in-Subtrees.ensures.look in
    let left = c.in-Subtrees.left.now.texts in
    let right = c.in-Subtrees.right.now.texts in
    let front = texts_of c.in_ok-front-2.front in
    let chunks = c.args.chunks.items in
    let len = ap (λ s. s.len) c.summary-2.ensures.summary in
    let each : AreSome (left ++ right) = rw branch.texts at c.summary.ensures.each in
    let first : AreExchanged left front c.args.from (joined_size left) chunks = rw len at c.in_ok-front-2.ensures.replaced in
    rw branch.texts (exchanged_across left right front [] chunks [] front chunks c.args.from c.args.to (joined_size right) first
    (exchanged_all right []) (omega (arith, branch.size_is, ap (λ s. s.len) c.summary.ensures.summary, c.if-to-whole-2.true)) each
    (sym (append-nil front)) (sym (append-nil chunks)))

pub returns-clause-replaced : goal.returns-clause-replaced
returns-clause-replaced t c =
    let branch = c.in-Subtrees.ensures.look in
    let texts = c.args.subtree.now.texts in
    let left = c.in-Subtrees.left.now.texts in
    let right = c.in-Subtrees.right.now.texts in
    let front = texts_of c.in_ok-front-2.front in
    let back = texts_of c.in_ok-back-2.back in
    let chunks = c.args.chunks.items in
    let middle = c.summary-2.result.now.len in
    let len = ap (λ s. s.len) c.summary-2.ensures.summary in
    let each : AreSome (left ++ right) = rw branch.texts at c.summary.ensures.each in
    let first : AreExchanged left front c.args.from (joined_size left) chunks = rw len at c.in_ok-front-2.ensures.replaced in
    let last : AreExchanged right back 0 (c.args.to - middle) [] = rw c.new.ensures.items at c.in_ok-back-2.ensures.replaced in
    IfOk-weaker c.join_options-2.result (λ whole. texts_of whole ≡ front ++ back)
    (λ whole. AreExchanged texts (texts_of whole) c.args.from c.args.to chunks) (λ whole is.
    rw branch.texts (exchanged_across left right front back chunks [] (texts_of whole) chunks c.args.from c.args.to (c.args.to - middle) first last
    (omega (arith, len, c.if-to-middle.false)) each is (sym (append-nil chunks))))
    (rw (c.as_ref-2.ensures.value, c.as_ref-3.ensures.value) at c.join_options-2.ensures.chunks)

pub returns-clause-work : goal.returns-clause-work
returns-clause-work t c =
    across_of c.join_options-2.result c.args.subtree.now.height c.in-Subtrees.left.now.height c.in-Subtrees.right.now.height
    (height_of c.in_ok-front-2.front) (height_of c.in_ok-back-2.back) c.args.work.now c.look.new.self c.splice_few-2.new.work
    c.splice_few-3.new.work c.join_options-2.new.work (omega (arith, c.in-Subtrees.ensures.look.height))
    (omega (arith, c.in-Subtrees.ensures.look.height)) c.in_ok-front-2.ensures.low
    c.in_ok-back-2.ensures.low c.look.ensures.nodes c.look.ensures.chunks
    (c.in_ok-front-2.ensures.edge (inr (ap (λ s. s.len) c.summary-2.ensures.summary))) (c.in_ok-back-2.ensures.edge (inl refl))
    (rw (c.as_ref-2.ensures.value, c.as_ref-3.ensures.value) at c.join_options-2.ensures.work)
    (rw (c.as_ref-2.ensures.value, c.as_ref-3.ensures.value) at c.join_options-2.ensures.height)
