use Rattle.piece_text.proofs.lemmas.{no_pieces, joined_size, to_byte_idx-zero, ◌∙◌, ap, arith, to_byte_idx, to_byte_idx-le-size, joined}
use Rattle.piece_text.proofs.queries.to_in.Goals.{then-k-eq0-via-then-k-eq0, then-k-eq0-via-else-k-eq0+then-len-eq0}
use Rattle.piece_text.proofs.queries.to_in.Goals as goal

-- the sum is the answer for the joined text
pub overflow_add-result : goal.overflow_add-result
overflow_add-result c =
    let s = c.args.s in
    let own = c.to_byte_idx.ensures.answer
    ∙ ap (λ t. to_byte_idx s t c.piece_for-asked.result.index) (rw c.piece_for-asked.ensures.texts at c.text.ensures.text) in
    omega (
      arith,
      own,
      c.piece_for-asked.ensures.answer,
      to_byte_idx-le-size s (joined c.args.p.now.texts) c.args.k,
      c.len.ensures.short,
    )

-- nothing is before index 0, and nowhere in no text
pub returns-then-k-eq0-clause-answer : goal.returns-then-k-eq0-clause-answer
returns-then-k-eq0-clause-answer c =
    let s = c.args.s in
    let texts = c.args.p.now.texts in
    elim c.then-k-eq0.branch [
      | then-k-eq0-via-then-k-eq0 w ↦
          omega (arith, to_byte_idx-zero s (joined texts), ap (to_byte_idx s (joined texts)) w.if-k-eq0.true)
      | then-k-eq0-via-else-k-eq0+then-len-eq0 w ↦
          let none = no_pieces texts (omega (arith, w.len.ensures.len, w.if-len-eq0.true)) in
          omega (arith, to_byte_idx-le-size s (joined texts) c.args.k, ap joined_size none)
    ]
