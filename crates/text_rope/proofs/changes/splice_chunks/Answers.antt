use Rattle.text_rope.proofs.lemmas.{ℕ, ◌≡◌, ◌+◌, ◌-◌, ◌<◌, ◌≤◌, ◌++◌, ◌∙◌, List, take, drop, length, ap, arith, append_assoc, take-append-drop, Text, joined_size, joined_size-append, piece_at, size, starts_at, ends_at, chunk_end_le, chunk_end_right, first_take, last_drop, last_right}
use Rattle.text_rope.specs.ChunkEnds.{AreLast, IsChunkEnd}
use Rattle.text_rope.proofs.changes.splice_chunks.Goals as goal

-- the bytes of the chunks before two places, at each of which one ends
chunks_between : (own rest : List Text) (i j from to : ℕ) → rest ≡ drop i own → from < to → IsChunkEnd own from → IsChunkEnd own to
    → i < length own → joined_size (take i own) ≤ from → from < joined_size (take i own) + size (piece_at own i)
    → j < length rest → joined_size (take j rest) < to - from → to - from ≤ joined_size (take j rest) + size (piece_at rest j)
    → (joined_size (take i own) ≡ from) × (joined_size (take (j + 1) rest) ≡ to - from)
chunks_between own rest i j from to rest_is order start end in_own after before in_rest less within =
    let place = starts_at own i from start in_own after before in
    let parts : IsChunkEnd (take i own ++ drop i own) to = rw (take-append-drop i own) end in
    let ends : IsChunkEnd rest (to - from) = rw rest_is (chunk_end_right (take i own) (drop i own) to (to - from) parts (omega (arith, place, order))) in
    (place, ends_at rest j (to - from) ends in_rest less within)

pub chunk_up_to-requires-clause-within : goal.chunk_up_to-requires-clause-within
chunk_up_to-requires-clause-within c = omega (arith, chunk_end_le c.args.own.now c.args.to c.requires.end, c.requires.some)

pub chunk_up_to-requires-2-clause-within : goal.chunk_up_to-requires-2-clause-within
chunk_up_to-requires-2-clause-within c =
    let own = c.args.own.now in
    let i = c.chunk_up_to.result.chunk in
    omega (
      arith,
      c.chunk_up_to.ensures.start,
      c.chunk_up_to.ensures.before,
      ap joined_size c.split_at.ensures.back,
      ap joined_size (take-append-drop i own),
      joined_size-append (take i own) (drop i own),
      chunk_end_le own c.args.to c.requires.end,
      c.requires.some,
    )

pub chunk_up_to-requires-2-clause-short : goal.chunk_up_to-requires-2-clause-short
chunk_up_to-requires-2-clause-short c =
    let own = c.args.own.now in
    let i = c.chunk_up_to.result.chunk in
    omega (
      arith,
      c.chunk_up_to.ensures.start,
      c.chunk_up_to.ensures.before,
      ap joined_size c.split_at.ensures.back,
      ap joined_size (take-append-drop i own),
      joined_size-append (take i own) (drop i own),
      c.requires.short_own,
    )

pub few_of-requires-clause-short : goal.few_of-requires-clause-short
few_of-requires-clause-short c =
    let own = c.args.own.now in
    let chunks = c.args.chunks.items in
    let front = c.split_at.result.0.now in
    let rest = c.split_at.result.1.now in
    let back = c.split_at-2.result.1.now in
    let i = c.chunk_up_to.result.chunk in
    let j = c.chunk_up_to-2.result.chunk + 1 in
    let items : c.push_shared-2.new.chunks.items ≡ (front ++ chunks) ++ back =
    c.in_ok-push_shared-2.ensures.chunks ∙ ap (λ x. x ++ back) (c.in_ok-append.ensures.items
    ∙ ap (λ x. x ++ chunks) (c.in_ok-push_shared.ensures.chunks ∙ ap (λ x. x ++ front) c.in_ok-all.ensures.items)) in
    let told = c.chunk_up_to.ensures in
    let after = c.chunk_up_to-2.ensures in
    let both = chunks_between own rest i c.chunk_up_to-2.result.chunk c.args.from c.args.to c.split_at.ensures.back c.requires.some
    c.requires.start c.requires.end told.chunk (omega (arith, told.start, told.before)) (omega (arith, told.start, told.within))
    after.chunk (omega (arith, after.start, after.before, c.requires.some)) (omega (arith, after.start, after.within)) in
    omega (
      arith,
      ap joined_size items,
      joined_size-append (front ++ chunks) back,
      joined_size-append front chunks,
      ap joined_size c.split_at.ensures.front,
      ap joined_size c.split_at.ensures.back,
      ap joined_size c.split_at-2.ensures.back,
      ap joined_size (take-append-drop i own),
      joined_size-append (take i own) (drop i own),
      ap joined_size (take-append-drop j rest),
      joined_size-append (take j rest) (drop j rest),
      both.0,
      both.1,
      c.requires.short,
    )

pub returns-clause-replaced : goal.returns-clause-replaced
returns-clause-replaced c =
    let own = c.args.own.now in
    let chunks = c.args.chunks.items in
    let front = c.split_at.result.0.now in
    let rest = c.split_at.result.1.now in
    let back = c.split_at-2.result.1.now in
    let i = c.chunk_up_to.result.chunk in
    let j = c.chunk_up_to-2.result.chunk + 1 in
    let items : c.push_shared-2.new.chunks.items ≡ (front ++ chunks) ++ back =
    c.in_ok-push_shared-2.ensures.chunks ∙ ap (λ x. x ++ back) (c.in_ok-append.ensures.items
    ∙ ap (λ x. x ++ chunks) (c.in_ok-push_shared.ensures.chunks ∙ ap (λ x. x ++ front) c.in_ok-all.ensures.items)) in
    let told = c.chunk_up_to.ensures in
    let after = c.chunk_up_to-2.ensures in
    let both = chunks_between own rest i c.chunk_up_to-2.result.chunk c.args.from c.args.to c.split_at.ensures.back c.requires.some
    c.requires.start c.requires.end told.chunk (omega (arith, told.start, told.before)) (omega (arith, told.start, told.within))
    after.chunk (omega (arith, after.start, after.before, c.requires.some)) (omega (arith, after.start, after.within)) in
    let end : joined_size (take j (drop i own)) ≡ c.args.to - c.args.from = rw c.split_at.ensures.back at both.1 in
    let last : AreLast (take i own ++ drop i own) (drop j (drop i own)) c.args.to =
    last_right (take i own) (drop i own) (drop j (drop i own)) c.args.to (c.args.to - c.args.from)
    (last_drop (drop i own) j (c.args.to - c.args.from) end) (omega (arith, both.0, c.requires.some)) in
    record {
      front = take i own;
      back = drop j (drop i own);
      first = first_take own i c.args.from both.0;
      last = rw (take-append-drop i own) at last;
      is = c.in_ok-few_of.ensures.chunks ∙ items ∙ ap (λ f. (f ++ chunks) ++ back) c.split_at.ensures.front
          ∙ ap (λ b. (take i own ++ chunks) ++ b) (c.split_at-2.ensures.back ∙ ap (λ r. drop j r) c.split_at.ensures.back)
          ∙ append_assoc (take i own) chunks (drop j (drop i own));
    }
