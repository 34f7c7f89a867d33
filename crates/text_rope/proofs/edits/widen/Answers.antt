use Rattle.text_rope.proofs.lemmas.{inl, inr, arith, append-nil, chars, chars-none, joined, full_chunk, part_both, part_chunk, chunk_begins, chunk_end, chunk_end_le, chunk_ends, chunk_start, chunk_within}
use Rattle.text_rope.specs.Chunks.{IsPartAt}
use Rattle.text_rope.proofs.edits.widen.Goals as goal

pub returns-then-patch-whole-clause-patch : goal.returns-then-patch-whole-clause-patch
returns-then-patch-whole-clause-patch c =
    let texts = c.args.subtree.now.texts in
    let patch = c.args.patch in
    let p = c.requires.patch in
    let next = c.stretch_at-next.result in
    let own = chars next.text.now in
    let told = c.stretch_at-next.ensures in
    let begins = chunk_begins texts own next.start next.end patch.end p.end told.chunk told.after told.inside in
    let tail : IsPartAt (joined texts) (chars patch.tail.now) c.args.to patch.end =
    rw (chars-none patch.after.now c.requires.after, append-nil) at p.tail in
    let chunk : IsPartAt (joined texts) own patch.end next.end = rw begins at (part_chunk texts own next.start next.end told.chunk) in
    record {
      start = p.start;
      end = chunk_end texts own next.start next.end told.chunk;
      some = omega (arith, p.some, told.inside);
      head = p.head;
      tail = part_both (joined texts) (chars patch.tail.now) own c.args.to patch.end next.end tail chunk;
    }

pub returns-then-patch-whole-clause-filled : goal.returns-then-patch-whole-clause-filled
returns-then-patch-whole-clause-filled c =
    let texts = c.args.subtree.now.texts in
    let patch = c.args.patch in
    let p = c.requires.patch in
    let next = c.stretch_at-next.result in
    let own = chars next.text.now in
    let told = c.stretch_at-next.ensures in
    let begins = chunk_begins texts own next.start next.end patch.end p.end told.chunk told.after told.inside in
    let full = full_chunk texts own next.start next.end c.requires.filled told.chunk
    (omega (arith, begins, p.some, told.chunk.end_is, chunk_within texts own next.start next.end told.chunk)) in
    inr (inl (omega (arith, full, told.len)))

pub returns-then-patch-gt0-clause-patch : goal.returns-then-patch-gt0-clause-patch
returns-then-patch-gt0-clause-patch c =
    let texts = c.args.subtree.now.texts in
    let patch = c.args.patch in
    let p = c.requires.patch in
    let prior = c.stretch_at-prior.result in
    let own = chars prior.text.now in
    let told = c.stretch_at-prior.ensures in
    let ends = chunk_ends texts own prior.start prior.end patch.start p.start told.chunk (omega (arith, told.after, c.if-patch-gt0.true))
    (omega (arith, told.inside)) in
    let head : IsPartAt (joined texts) (chars patch.head.now) patch.start c.args.from =
    rw (chars-none patch.before.now c.requires.before) at p.head in
    let chunk : IsPartAt (joined texts) own prior.start patch.start = rw ends at (part_chunk texts own prior.start prior.end told.chunk) in
    record {
      start = chunk_start texts own prior.start prior.end told.chunk;
      end = p.end;
      some = omega (arith, p.some, told.after);
      head = part_both (joined texts) own (chars patch.head.now) prior.start patch.start c.args.from chunk head;
      tail = p.tail;
    }

pub returns-then-patch-gt0-clause-filled : goal.returns-then-patch-gt0-clause-filled
returns-then-patch-gt0-clause-filled c =
    let texts = c.args.subtree.now.texts in
    let patch = c.args.patch in
    let p = c.requires.patch in
    let prior = c.stretch_at-prior.result in
    let own = chars prior.text.now in
    let told = c.stretch_at-prior.ensures in
    let ends = chunk_ends texts own prior.start prior.end patch.start p.start told.chunk (omega (arith, told.after, c.if-patch-gt0.true))
    (omega (arith, told.inside)) in
    let full = full_chunk texts own prior.start prior.end c.requires.filled told.chunk
    (omega (arith, ends, p.some, told.chunk.end_is, chunk_end_le texts patch.end p.end)) in
    inr (inl (omega (arith, full, told.len)))
