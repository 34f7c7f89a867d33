use Rattle.piece_text.proofs.lemmas.{◌≡◌, ◌+◌, ◌<◌, ◌∙◌, ap, refl, arith, inl, inr, cases_lt, take, joined, piece_at, joined-take, next_piece, comes_at, come_before, come_to_end}
use Rattle.piece_text.specs.Parts.{IsPlaced}
use Rattle.piece_text.proofs.places.piece_up_to.Goals.{After-summary-own}
use Rattle.piece_text.proofs.places.piece_up_to.Goals as goal

-- the piece that is looked at is placed
placed : (c : After-summary-own) → IsPlaced c.args.s c.args.p.now.texts
    (record { piece = c.loop-i.i; before = c.loop-i.front; own = c.summary-own.result })
placed c =
    let texts = c.args.p.now.texts in
    let kept : c.loop-i.p.texts ≡ texts = ap (λ p. p.texts) c.loop-i.invariant.state ∙ c.range_for-range.ensures.texts in
    record {
      inside = omega (arith, c.loop-i-test.true, c.range_for-range.ensures.range.within);
      before_is = c.loop-i.invariant.front;
      own_is = rw kept at c.summary-own.ensures.summary;
      some = rw kept at c.summary-own.ensures.some;
    }

pub step-step-requires : goal.step-step-requires
step-step-requires c =
    let is = placed c in
    let texts = c.args.p.now.texts in
    let kept : c.loop-i.p.texts ≡ texts = ap (λ p. p.texts) c.loop-i.invariant.state ∙ c.range_for-range.ensures.texts in
    next_piece c.args.s texts c.loop-i.i c.loop-i.front c.summary-own.result is.inside is.before_is is.own_is is.some
    (rw kept at c.summary-own.ensures.short)

-- the text comes to the count before piece i, and not before the piece before it
pub returns-then-k-step-clause-comes : goal.returns-then-k-step-clause-comes
returns-then-k-step-clause-comes c =
    let s = c.args.s in
    let texts = c.args.p.now.texts in
    let i = c.loop-i.i in
    let first = c.range_for-range.result.first in
    let last = c.loop-i.last in
    let here = placed c.before.before.before in
    let told = c.step-step.ensures (joined (take i texts)) (piece_at texts i) here.before_is here.own_is here.some in
    let later : first < i = elim (cases_lt first i) [
      | inl later ↦ later
      | inr not_later ↦
          let same : i ≡ first = omega (arith, not_later, c.loop-i.auto.i) in
          absurd (omega (arith, c.loop-i.invariant.below same, told.reached, here.before_is.total, c.if-k-step.true))
    ] in
    let there = come_before s texts i c.args.k here.inside here.some (omega (arith, told.reached, c.if-k-step.true)) in
    comes_at s texts last (c.loop-i.invariant.placed later) c.args.k (c.loop-i.invariant.past later)
    (rw (c.loop-i.invariant.next later) at there)

pub loop-i-preserved : goal.loop-i-preserved
loop-i-preserved c =
    let texts = c.args.p.now.texts in
    let i = c.loop-i.i in
    let here = placed c.before.before.before.before in
    let told = c.step-step.ensures (joined (take i texts)) (piece_at texts i) here.before_is here.own_is here.some in
    record {
      front = rw (joined-take texts i here.inside) told.after;
      state = grind (arith, c.summary-own.ensures.state, c.loop-i.invariant.state);
      below = λ first. absurd (omega (arith, first, c.loop-i.auto.i));
      placed = λ _. here;
      next = λ _. refl;
      past = λ _. omega (arith, told.reached, here.before_is.total, c.if-k-step.false);
    }

-- the range goes to the end of the text, or so far that the text comes to the count before its last piece
pub returns-clause-comes : goal.returns-clause-comes
returns-clause-comes c =
    let texts = c.args.p.now.texts in
    let range = c.range_for-range.ensures in
    let end = c.range_for-range.result.end in
    let last = c.loop-i.last in
    let some = range.some c.requires.pieces in
    let same : c.loop-i.i ≡ end = omega (arith, c.loop-i-test.false, c.loop-i.auto.i-end (omega (arith, some))) in
    let later : c.range_for-range.result.first < c.loop-i.i = omega (arith, same, some) in
    let is = c.loop-i.invariant.placed later in
    let one_more : end ≡ last.piece + 1 = omega (arith, same, c.loop-i.invariant.next later) in
    comes_at c.args.s texts last is c.args.k (c.loop-i.invariant.past later)
    (come_to_end c.args.s texts end c.args.k last.piece one_more is.some range.end)
