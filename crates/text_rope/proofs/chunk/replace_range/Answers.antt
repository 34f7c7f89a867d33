use Rattle.text_rope.proofs.lemmas.{arith, chars, chars-none, string_bytes, taken_then_put}
use Rattle.text_rope.proofs.chunk.replace_range.Goals as goal

pub returns-then-more-gt0 : goal.returns-then-more-gt0
returns-then-more-gt0 c = taken_then_put (chars (string_bytes c.args.text.now)) (chars (string_bytes c.take_out.new.text))
    (chars (string_bytes c.put-then-more-gt0.new.text)) c.args.from c.args.to (chars c.args.more.now) c.take_out.ensures.text
    c.put-then-more-gt0.ensures.text

-- what comes in is empty
pub returns-else-more-gt0 : goal.returns-else-more-gt0
returns-else-more-gt0 c = rw (chars-none c.args.more.now (omega (arith, c.if-more-gt0.false))) c.take_out.ensures.text
