use Rattle.text_rope.proofs.lemmas.{ap, arith, asked_within, none_asked, one_asked}
use Rattle.text_rope.proofs.cursor.ChunkCursor.prev.Goals as goal

pub returns-clause-moved : goal.returns-clause-moved
returns-clause-moved c told = omega (arith, c.place_before-before.ensures.end, ap (λ s. s.start) c.self.view_is)

pub returns-then-place-eq0-clause-cost : goal.returns-then-place-eq0-clause-cost
returns-then-place-eq0-clause-cost c = asked_within (omega arith) (none_asked _)

pub returns-clause-cost : goal.returns-clause-cost
returns-clause-cost c =
    let before = c.place_before-before.ensures in
    rw (ap (λ s. s.view) c.self.view_is) at
    (one_asked before.texts before.looks before.looks_kept before.reads c.read-self-inside.ensures.state)
