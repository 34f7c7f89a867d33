use Rattle.text_index.proofs.lemmas.{chars, sym, arith, size-chars, whole_at_end}
use Rattle.text_index.proofs.marking.fill.Goals as goal

pub move_to-requires-clause-place : goal.move_to-requires-clause-place
move_to-requires-clause-place c =
    rw (sym (size-chars c.args.text.now c.utf8.text)) (whole_at_end (chars c.args.text.now))

pub returns : goal.returns
returns c =
    let marks = c.marks.invariant in
    let len = size-chars c.args.text.now c.utf8.text in
    record {
      each = λ i d inside. marks.each i d (omega (arith, inside, c.marks-test.false, c.marks.auto.i-end));
      many = rw len marks.many;
      end = c.move_to.ensures.mark;
      at_end = omega (arith, c.move_to.ensures.byte, len);
      short = omega (arith, len);
    }
