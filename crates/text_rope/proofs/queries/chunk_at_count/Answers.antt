use Rattle.text_rope.proofs.lemmas.{◌≡◌, ◌+◌, ◌-◌, ◌<◌, ◌++◌, ◌∷◌, ◌∙◌, ℕ, List, [], take, drop, length, refl, sym, ap, arith, append-nil, IsFront, subst, Text, seam_loss, seam_loss-same, joined, piece_at, get_or_default, take_all, take_more, take-append-drop, behind-take, short_at, chunks_at, place_of_last, place_of_left, seam_of_chunks}
use Rattle.text_rope.specs.Places.{IsPlaceOf}
use Rattle.text_rope.proofs.queries.chunk_at_count.Goals as goal

pub loop-i-init : goal.loop-i-init
loop-i-init c =
    let s = c.args.s in
    let chunks = c.args.chunks.now in
    let chunk = c.index-chunks-0.result in
    let own : chunk ≡ piece_at chunks 0 = c.index-chunks-0.is ∙ get_or_default chunks 0 chunk [] c.requires.some in
    record {
      within = omega (arith, c.requires.some);
      last = own;
      front = λ a is. rw (append-nil a) is;
      past = λ a is.
          let reaches = c.requires.reaches in
          let rest = drop 1 chunks in
          let whole : joined chunks ≡ chunk ++ joined rest = ap joined (chunks_at chunks 0 chunk c.requires.some own) in
          let seam = ap (λ r. seam_loss s reaches.a r) whole ∙ seam_of_chunks s reaches.a chunk rest c.summary-some.ensures.some in
          let same = seam_loss-same s a chunk reaches.a chunk (sym is.ends_cr ∙ reaches.is.ends_cr) refl in
          rw (append-nil a) (omega (arith, reaches.past, seam, same, is.total, reaches.is.total));
    }

pub step-step-requires : goal.step-step-requires
step-step-requires c =
    let chunks = c.args.chunks.now in
    let j = c.loop-i.i - 1 in
    let chunk = c.loop-i.last.now in
    let reaches = c.requires.reaches in
    let loop = c.loop-i.invariant in
    record {
      a = reaches.a ++ joined (take j chunks);
      b = chunk;
      front_is = loop.front reaches.a reaches.is;
      piece_is = c.summary.ensures.summary;
      some = c.summary.ensures.some;
      short = short_at reaches.a chunks j chunk (omega (arith, c.loop-i-test.true)) loop.last reaches.short;
    }

pub returns-then-k-count_before : goal.returns-then-k-count_before
returns-then-k-count_before c a is =
    let s = c.args.s in
    let chunks = c.args.chunks.now in
    let i = c.loop-i.i in
    let j = i - 1 in
    let chunk = c.loop-i.last.now in
    let next = c.index-chunks-i.result in
    let loop = c.loop-i.invariant in
    let x = a ++ joined (take j chunks) in
    let one : j + 1 ≡ i = omega (arith, c.loop-i.auto.i) in
    let inside : j < length chunks = omega (arith, one, c.loop-i-test.true) in
    let whole : a ++ joined (take i chunks) ≡ x ++ chunk =
    ap (λ (n : ℕ). a ++ joined (take n chunks)) (sym one) ∙ behind-take a chunks j chunk inside loop.last in
    let more : take i chunks ≡ take j chunks ++ chunk ∷ [] =
    ap (λ (n : ℕ). take n chunks) (sym one) ∙ take_more chunks j [] inside ∙ ap (λ r. take j chunks ++ r ∷ []) (sym loop.last) in
    let told = c.step-step.ensures x chunk (loop.front a is) c.summary.ensures.summary c.summary.ensures.some in
    let y = a ++ joined (take i chunks) in
    let reached = c.count_before.ensures y next (rw whole told.after) (ap (λ m. m.starts_lf) c.summary-in-loop-i.ensures.summary) in
    let own : next ≡ piece_at chunks i = c.index-chunks-i.is ∙ get_or_default chunks i next [] c.loop-i-test.true in
    let seam : seam_loss s y (joined (drop i chunks)) ≡ seam_loss s y next =
    ap (λ r. seam_loss s y (joined r)) (chunks_at chunks i next c.loop-i-test.true own)
    ∙ seam_of_chunks s y next (drop (i + 1) chunks) c.summary-in-loop-i.ensures.some in
    let last = place_of_last s a (take j chunks) chunk c.loop-i.front c.args.k (loop.front a is) (loop.past a is) in
    subst (λ (t : List Text). IsPlaceOf s a t chunk c.loop-i.front c.args.k) (take-append-drop i chunks)
    (place_of_left (drop i chunks) (omega (arith, seam, reached, c.if-k-count_before.true)) (rw more last))

pub loop-i-preserved : goal.loop-i-preserved
loop-i-preserved c =
    let s = c.args.s in
    let chunks = c.args.chunks.now in
    let i = c.loop-i.i in
    let j = i - 1 in
    let chunk = c.loop-i.last.now in
    let next = c.index-chunks-i.result in
    let loop = c.loop-i.invariant in
    let one : i + 1 - 1 ≡ j + 1 = omega (arith, c.loop-i.auto.i) in
    let inside : j < length chunks = omega (arith, c.loop-i-test.true) in
    let own : next ≡ piece_at chunks i = c.index-chunks-i.is ∙ get_or_default chunks i next [] c.loop-i-test.true in
    let whole : (a : Text) → a ++ joined (take (i + 1 - 1) chunks) ≡ (a ++ joined (take j chunks)) ++ chunk =
    λ a. ap (λ (n : ℕ). a ++ joined (take n chunks)) one ∙ behind-take a chunks j chunk inside loop.last in
    let behind : (a : Text) → IsFront s a c.args.before → IsFront s (a ++ joined (take (i + 1 - 1) chunks)) c.step-step.result.after =
    λ a is. rw (whole a) (c.step-step.ensures (a ++ joined (take j chunks)) chunk (loop.front a is) c.summary.ensures.summary c.summary.ensures.some).after in
    record {
      within = omega (arith, c.loop-i-test.true);
      last = own ∙ ap (λ (n : ℕ). piece_at chunks n) (omega (arith));
      front = behind;
      past = λ a is.
          let reached = c.count_before.ensures (a ++ joined (take (i + 1 - 1) chunks)) next (behind a is)
          (ap (λ m. m.starts_lf) c.summary-in-loop-i.ensures.summary) in
          omega (arith, reached, c.if-k-count_before.false);
    }

pub returns : goal.returns
returns c a is =
    let chunks = c.args.chunks.now in
    let i = c.loop-i.i in
    let j = i - 1 in
    let chunk = c.loop-i.last.now in
    let loop = c.loop-i.invariant in
    let all : take i chunks ≡ chunks = take_all i chunks c.loop-i-test.false in
    let one : j + 1 ≡ i = omega (arith, c.loop-i.auto.i) in
    let more : take i chunks ≡ take j chunks ++ chunk ∷ [] =
    ap (λ (n : ℕ). take n chunks) (sym one) ∙ take_more chunks j [] (omega (arith, one, loop.within))
    ∙ ap (λ r. take j chunks ++ r ∷ []) (sym loop.last) in
    rw (sym all ∙ more) (place_of_last c.args.s a (take j chunks) chunk c.loop-i.front c.args.k (loop.front a is) (loop.past a is))
