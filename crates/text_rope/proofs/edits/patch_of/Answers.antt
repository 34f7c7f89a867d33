use Rattle.text_rope.proofs.lemmas.{◌-◌, arith, append-nil, chars, chars-nil, length, size-chars, boundary_by_chunk, chunk_start, chunk_end, part_by_chunk}
use Rattle.text_rope.proofs.edits.patch_of.Goals as goal

pub returns-clause-patch : goal.returns-clause-patch
returns-clause-patch c =
    let texts = c.args.subtree.now.texts in
    let first = c.first_from-first.result in
    let last = c.stretch_at-last.result in
    let first_chunk = c.first_from-first.ensures.chunk in
    let last_chunk = c.stretch_at-last.ensures.chunk in
    record {
      start = chunk_start texts (chars first.text.now) first.start first.end first_chunk;
      end = chunk_end texts (chars last.text.now) last.start last.end last_chunk;
      some = omega (
        arith,
        c.first_from-first.ensures.first,
        c.stretch_at-last.ensures.after,
        c.stretch_at-last.ensures.inside,
        c.saturating_sub.ensures,
      );
      head = rw chars-nil (part_by_chunk texts (chars first.text.now) (chars c.text_between.result.now) first.start first.end 0
          (c.args.from - first.start) first.start c.args.from first_chunk c.text_between.ensures (omega arith)
          (omega (arith, c.first_from-first.ensures.after)));
      tail = rw (chars-nil, append-nil) (part_by_chunk texts (chars last.text.now) (chars c.text_between-2.result.now) last.start last.end
          (c.args.to - last.start) (length last.text.now) c.args.to last.end last_chunk c.text_between-2.ensures
          (omega (arith, c.stretch_at-last.ensures.after, c.saturating_sub.ensures))
          (omega (arith, last_chunk.end_is, c.stretch_at-last.ensures.len)));
    }

pub returns-clause-short : goal.returns-clause-short
returns-clause-short c = omega (
  arith,
  size-chars c.text_between.result.now c.text_between.utf8,
  c.text_between.ensures.start,
  c.text_between.ensures.end,
  c.first_from-first.ensures.chunk.end_is,
  c.first_from-first.ensures.within,
  c.first_from-first.ensures.after,
  c.first_from-first.ensures.piece,
  size-chars c.text_between-2.result.now c.text_between-2.utf8,
  c.text_between-2.ensures.start,
  c.text_between-2.ensures.end,
  c.stretch_at-last.ensures.len,
  c.stretch_at-last.ensures.piece,
)

pub text_between-requires-clause-end : goal.text_between-requires-clause-end
text_between-requires-clause-end c =
    let first = c.first_from-first.result in
    boundary_by_chunk c.args.subtree.now.texts (chars first.text.now) first.start first.end c.args.from c.first_from-first.ensures.chunk
    c.first_from-first.ensures.after c.first_from-first.ensures.within c.requires.start

pub text_between-requires-2-clause-start : goal.text_between-requires-2-clause-start
text_between-requires-2-clause-start c =
    let last = c.stretch_at-last.result in
    boundary_by_chunk c.args.subtree.now.texts (chars last.text.now) last.start last.end c.args.to c.stretch_at-last.ensures.chunk
    (omega (arith, c.stretch_at-last.ensures.after, c.saturating_sub.ensures))
    (omega (arith, c.stretch_at-last.ensures.inside, c.saturating_sub.ensures)) c.requires.end
