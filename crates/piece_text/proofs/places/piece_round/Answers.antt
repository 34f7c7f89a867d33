use Rattle.piece_text.proofs.lemmas.{◌≡◌, ◌+◌, ◌-◌, ◌<◌, ◌∙◌, ap, arith, inl, inr, length, take, cases_lt, size-append, joined, joined_size, piece_at, joined-take, next_piece, place_end}
use Rattle.piece_text.specs.Parts.{IsPlaced}
use Rattle.piece_text.proofs.places.piece_round.Goals.{After-summary-own}
use Rattle.piece_text.proofs.places.piece_round.Goals as goal

-- the piece that is looked at is placed
placed : (c : After-summary-own) → IsPlaced c.args.s c.args.p.now.texts
    (record { piece = c.loop-i.i; before = c.loop-i.front; own = c.summary-own.result })
placed c =
    let texts = c.args.p.now.texts in
    let kept : c.loop-i.p.texts ≡ texts = ap (λ p. p.texts) c.loop-i.invariant.state ∙ c.range_round-range.ensures.texts in
    record {
      inside = omega (arith, c.loop-i-test.true, c.range_round-range.ensures.range.within);
      before_is = c.loop-i.invariant.front;
      own_is = rw kept at c.summary-own.ensures.summary;
      some = rw kept at c.summary-own.ensures.some;
    }

pub step-requires : goal.step-requires
step-requires c =
    let is = placed c in
    next_piece c.args.s c.args.p.now.texts c.loop-i.i c.loop-i.front c.summary-own.result is.inside is.before_is is.own_is is.some
    c.range_round-range.ensures.short

pub returns-then-b-after-clause-place : goal.returns-then-b-after-clause-place
returns-then-b-after-clause-place c =
    let texts = c.args.p.now.texts in
    let i = c.loop-i.i in
    let is = placed c.before.before.before.before in
    let look = c.step.ensures (joined (take i texts)) (piece_at texts i) is.before_is is.own_is is.some in
    record {
      is = is;
      after = c.loop-i.invariant.past;
      before = inl (omega (
        arith,
        c.if-b-after.true,
        look.after.len,
        size-append (joined (take i texts)) (piece_at texts i),
        is.before_is.len,
        ap (λ o. o.len) is.own_is,
      ));
    }

pub loop-i-preserved : goal.loop-i-preserved
loop-i-preserved c =
    let texts = c.args.p.now.texts in
    let i = c.loop-i.i in
    let is = placed c.before.before.before.before in
    let look = c.step.ensures (joined (take i texts)) (piece_at texts i) is.before_is is.own_is is.some in
    record {
      front = rw (joined-take texts i is.inside) look.after;
      state = grind (arith, c.summary-own.ensures.state, c.loop-i.invariant.state);
      past = omega (arith, c.if-b-after.false);
    }

pub returns-clause-place : goal.returns-clause-place
returns-clause-place c =
    let texts = c.args.p.now.texts in
    let range = c.range_round-range.ensures in
    let end = c.range_round-range.result.end in
    let some : c.range_round-range.result.first < end = range.some c.requires in
    let same : c.loop-i.i ≡ end - 1 = omega (arith, some, c.loop-i-test.false, c.loop-i.auto.i-end (omega (arith, some))) in
    let kept : c.loop-i.p.texts ≡ texts = ap (λ p. p.texts) c.loop-i.invariant.state ∙ range.texts in
    let one_more : end - 1 + 1 ≡ end = omega (arith, some) in
    let is : IsPlaced c.args.s texts (record { piece = end - 1; before = c.loop-i.front; own = c.summary.result }) = record {
      inside = omega (arith, some, range.range.within);
      before_is = rw same at c.loop-i.invariant.front;
      own_is = rw kept at c.summary.ensures.summary;
      some = rw kept at c.summary.ensures.some;
    } in
    record {
      is = is;
      after = c.loop-i.invariant.past;
      before = elim (cases_lt end (length texts)) [
        | inl inside ↦ inl (omega (
          arith,
          range.end inside,
          ap (λ n. joined_size (take n texts)) one_more,
          place_end c.args.s texts _ is,
        ))
        | inr last ↦ inr (omega (arith, last, one_more, range.range.within))
      ];
    }
