use Rattle.text_rope.proofs.lemmas.{◌+◌, ◌≤◌, ◌∙◌, ap, arith, joined, length, copied_of_part}
use Rattle.text_rope.proofs.rope.Rope.copy_to.Goals as goal

pub returns-clause-ok : goal.returns-clause-ok
returns-clause-ok c =
    let chunks = c.of-chunks.result in
    let text = ap (λ s. joined s.view.texts) c.of-chunks.ensures.state ∙ c.self.view_is in
    let start = ap (λ s. s.at) c.of-chunks.ensures.state in
    let end = ap (λ s. s.end) c.of-chunks.ensures.state in
    let room : chunks.end ≤ chunks.at + length c.args.room.now = omega (arith, start, end, c.if-room-range.false) in
    rw (text, start, end) at (copied_of_part c.read_chunks.ensures.read c.read_chunks.ensures.within c.read_chunks.ensures.full room)
