use Rattle.piece_text.proofs.lemmas.{◌≡◌, ◌≢◌, ◌-◌, ◌<◌, ◌∙◌, ap, sym, arith, inl, inr, [], length, take, take_all, cases_lt, to_byte_idx, joined, piece_at, settled_at}
use Rattle.piece_text.proofs.queries.piece_for.Goals as goal

-- the range goes to the end of the text, or so far that the text has the index before its last piece
pub returns-clause-answer : goal.returns-clause-answer
returns-clause-answer c =
    let s = c.args.s in
    let k = c.args.k in
    let texts = c.args.p.now.texts in
    let range = c.range_for-range.ensures in
    let same : c.loop-i.i ≡ c.range_for-range.result.end =
    omega (arith, c.loop-i-test.false, c.loop-i.auto.i-end range.range.order) in
    let past : c.range_for-range.result.first < c.loop-i.i = omega (arith, same, range.some c.requires.pieces) in
    let own = c.loop-i.invariant.answer past in
    elim (cases_lt c.loop-i.i (length texts)) [
      | inl before ↦
          let settled = range.end (omega (arith, before, same)) in
          let last : c.loop-i.i - 1 ≡ settled.before = omega (arith, same, settled.one_more) in
          let some : piece_at texts settled.before ≢ [] = rw last at (c.loop-i.invariant.some past) in
          let there = settled_at s texts settled.before k (omega (arith, before, last)) some settled.counted in
          there ∙ ap (λ n. to_byte_idx s (joined (take n texts)) k) (sym (same ∙ settled.one_more)) ∙ own
      | inr end ↦ ap (λ t. to_byte_idx s (joined t) k) (sym (take_all c.loop-i.i texts end)) ∙ own
    ]
