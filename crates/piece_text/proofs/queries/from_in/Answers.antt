use Rattle.piece_text.proofs.lemmas.{length, inl, inr, cases_lt, ◌≡◌, ◌≤◌, ◌-◌, ◌∙◌, ap, arith, take, take_all, size, from_byte_idx, count-le-size, from_byte_idx-le-count, from_byte_idx-all, joined, joined_size}
use Rattle.piece_text.proofs.queries.from_in.Goals as goal

-- the sum is the answer for the joined text
pub overflow_add-result : goal.overflow_add-result
overflow_add-result c =
    let s = c.args.s in
    let texts = c.loop-i.p.texts in
    let kept = ap (λ p. p.texts) c.step_over-step.ensures.state in
    let own = c.from_byte_idx.ensures
    ∙ ap (λ t. from_byte_idx s t (c.args.b - c.loop-i.front.len)) (rw kept at c.text.ensures.text) in
    let here = c.step_over-step.ensures.from_here c.args.b c.loop-i.invariant.past c.if-b-step.true in
    let same = ap (λ p. joined_size p.texts) c.loop-i.invariant.state in
    omega (
      arith,
      own,
      here,
      from_byte_idx-le-count s (joined texts) c.args.b,
      count-le-size s (joined texts),
      c.range_round-range.ensures.short,
      ap joined_size c.range_round-range.ensures.texts,
      same,
    )

-- every piece ends at or before the byte index
pub returns-clause-answer : goal.returns-clause-answer
returns-clause-answer c =
    let s = c.args.s in
    let texts = c.args.p.now.texts in
    let range = c.range_round-range.ensures in
    let front = c.loop-i.invariant.front in
    let same : c.loop-i.i ≡ c.range_round-range.result.end =
    omega (arith, c.loop-i-test.false, c.loop-i.auto.i-end range.range.order) in
    elim (cases_lt c.loop-i.i (length texts)) [
      | inl before ↦
          let round = rw (← same) at (range.end (omega (arith, before, same))) in
          absurd (omega (arith, round, front.len, c.loop-i.invariant.past))
      | inr end ↦
          let all : take c.loop-i.i texts ≡ texts = take_all c.loop-i.i texts end in
          let past : size (joined texts) ≤ c.args.b = omega (arith, rw all at front.len, c.loop-i.invariant.past) in
          omega (arith, rw all at front.total, from_byte_idx-all s (joined texts) c.args.b past)
    ]
