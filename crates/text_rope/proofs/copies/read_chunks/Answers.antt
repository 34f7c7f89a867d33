use Rattle.text_rope.proofs.lemmas.{◌∙◌, refl, arith, chars, joined, size-chars, part_read_none, part_read_on}
use Rattle.text_rope.specs.Chunks.{IsPartAt}
use Rattle.text_rope.proofs.copies.read_chunks.Goals as goal

pub loop-written-init : goal.loop-written-init
loop-written-init c = record {
  read = part_read_none c.args.skip c.args.room.now c.requires.start;
  skip = omega arith;
  within = c.requires.order;
  after = omega arith;
  texts = refl;
  end = refl;
}

pub loop-written-preserved : goal.loop-written-preserved
loop-written-preserved c =
    let before = c.loop-written.invariant in
    let at = c.loop-written.chunks.at in
    let to = c.next_chunk.new.self.at in
    let bytes = c.as_bytes-bytes.result.now in
    let utf8 = c.as_bytes-bytes.ensures.utf8 in
    let part : IsPartAt (joined c.args.chunks.now.view.texts) (chars bytes) at to =
    rw (before.texts, ← c.as_bytes-bytes.ensures.value) at c.in-Some.ensures.part in
    record {
      read = part_read_on before.read utf8 part before.skip c.read-written.ensures;
      skip = omega (
        arith,
        c.saturating_sub-skip.ensures,
        before.skip,
        before.after,
        part.start,
        part.end,
        size-chars bytes utf8,
      );
      within = c.in-Some.ensures.within;
      after = omega (arith, before.after, c.in-Some.ensures.on);
      texts = c.in-Some.ensures.cost.texts ∙ before.texts;
      end = c.in-Some.ensures.end ∙ before.end;
    }
