use Rattle.text_rope.proofs.lemmas.{arith, length, refl, size-some, asked_within, no_looks, none_asked, one_asked}
use Rattle.text_rope.proofs.iter.prefetch_first.Goals as goal

-- no chunk is empty
pub returns-in-Some : goal.returns-in-Some
returns-in-Some c = absurd (omega (
  arith,
  c.read.ensures.len,
  size-some c.in-Some.chunk.now c.read.ensures.some,
  c.if-read-eq0.true,
))

pub returns-in_default-clause-cost : goal.returns-in_default-clause-cost
returns-in_default-clause-cost c =
    let v = c.args.v.now in
    one_asked {old = v} {middle = v} refl (no_looks v.looks (length v.texts)) (omega arith) refl c.read.ensures.state

pub returns-in_default-2-clause-cost : goal.returns-in_default-2-clause-cost
returns-in_default-2-clause-cost c = asked_within (omega arith) (none_asked _)
