use Rattle.std.specs.Prelude.{◌⊎◌}
use Rattle.text_rope.proofs.lemmas.{◌≡◌, ◌≤◌, ◌++◌, ◌∙◌, inl, inr, cases_lt, ap, arith, chars, length, List, Text, ℕ, size, size-append, size-chars, string_bytes, joined, joined_size, AreLongEnough, min_chunk, max_chunk, filled_exchanged, full_none, narrowed_parts, replaced_chunks_of}
use Rattle.text_rope.specs.States.{texts_of}
use Rattle.text_rope.proofs.edits.replace_text_in.Goals as goal

-- the chunks of a text that is none, or not short, or all
which : (chunks : List Text) (bytes start end whole : ℕ) → (min_chunk ≤ bytes → AreLongEnough chunks) → (bytes ≤ max_chunk → length chunks ≤ 1)
    → (bytes ≡ 0 → length chunks ≡ 0) → (bytes ≡ 0) ⊎ ((min_chunk ≤ bytes) ⊎ ((start ≡ 0) × (end ≡ whole)))
    → AreLongEnough chunks ⊎ ((start ≡ 0) × ((end ≡ whole) × (length chunks ≤ 1)))
which chunks bytes start end whole full one none (inl zero) = inl (full_none chunks (none zero))
which chunks bytes start end whole full one none (inr (inl long)) = inl (full long)
which chunks bytes start end whole full one none (inr (inr all)) =
    elim (cases_lt bytes min_chunk) [
      | inl short ↦ inr (all.0, (all.1, one (omega (arith, short))))
      | inr long ↦ inl (full (omega (arith, long)))
    ]

pub splice-requires-clause-short : goal.splice-requires-clause-short
splice-requires-clause-short c =
    let patch = c.widen-patch.result in
    let p = c.widen-patch.ensures.patch in
    let head = chars patch.before.now ++ chars patch.head.now in
    let tail = chars patch.tail.now ++ chars patch.after.now in
    let more = chars c.args.more.now in
    omega (
      arith,
      p.head.start,
      p.head.end,
      p.tail.start,
      p.tail.end,
      ap size (c.in_ok-chunks.ensures.text ∙ c.in_ok-text.ensures.text),
      size-append head (more ++ tail),
      size-append more tail,
      size-chars c.args.more.now c.utf8.more,
      c.requires.short,
      c.requires.order,
    )

pub of-requires : goal.of-requires
of-requires c =
    let patch = c.widen-patch.result in
    let chunks = c.in_ok-chunks.chunks.items in
    let told = c.in_ok-chunks.ensures in
    let texts = c.args.subtree.now.texts in
    let filled = c.widen-patch.ensures.filled in
    filled_exchanged texts (texts_of c.in_ok-root.root) chunks patch.start patch.end c.requires.filled c.summary-each.ensures.each
    c.in_ok-root.ensures.replaced c.widen-patch.ensures.patch.some
    (which chunks (length (string_bytes c.in_ok-text.text)) patch.start patch.end (joined_size texts) told.full told.one told.none
    (rw c.in_ok-text.ensures.len filled))

pub returns-clause-replaced : goal.returns-clause-replaced
returns-clause-replaced c =
    let patch = c.widen-patch.result in
    let p = c.widen-patch.ensures.patch in
    let head = chars patch.before.now ++ chars patch.head.now in
    let tail = chars patch.tail.now ++ chars patch.after.now in
    let more = chars c.args.more.now in
    let text = c.in_ok-chunks.ensures.text ∙ c.in_ok-text.ensures.text in
    let texts = c.args.subtree.now.texts in
    let root = texts_of c.in_ok-root.root in
    rw c.of.ensures (narrowed_parts (joined texts) (joined root) head tail more (joined c.in_ok-chunks.chunks.items) patch.start c.args.from
    c.args.to patch.end p.head p.tail c.requires.order text (replaced_chunks_of texts root c.in_ok-chunks.chunks.items patch.start patch.end
    c.in_ok-root.ensures.replaced (omega (arith, p.some))))
