use Rattle.text_rope.proofs.lemmas.{◌≡◌, ◌+◌, ◌++◌, ◌∙◌, [], take, drop, arith, append-nil, size-append, joined, piece_at, get_or_default, take_all, behind-take, parts_at, short_at, IsFront}
use Rattle.text_rope.proofs.queries.chunk_at_byte.Goals as goal

pub loop-i-init : goal.loop-i-init
loop-i-init c = record { front = λ a is. rw (append-nil a) is; after = c.requires.after }

pub step-step-requires : goal.step-step-requires
step-step-requires c =
    let chunks = c.args.chunks.now in
    let i = c.loop-i.i in
    let chunk = c.index-chunks-i.result in
    let before = c.requires.before in
    let own : chunk ≡ piece_at chunks i = c.index-chunks-i.is ∙ get_or_default chunks i chunk [] c.loop-i-test.true in
    record {
      a = before.a ++ joined (take i chunks);
      b = chunk;
      front_is = c.loop-i.invariant.front before.a before.is;
      piece_is = c.summary.ensures.summary;
      some = c.summary.ensures.some;
      short = short_at before.a chunks i chunk c.loop-i-test.true own before.short;
    }

pub returns-then-at-step : goal.returns-then-at-step
returns-then-at-step c a is =
    let chunks = c.args.chunks.now in
    let i = c.loop-i.i in
    let chunk = c.index-chunks-i.result in
    let own : chunk ≡ piece_at chunks i = c.index-chunks-i.is ∙ get_or_default chunks i chunk [] c.loop-i-test.true in
    let now = c.loop-i.invariant.front a is in
    let told = c.step-step.ensures (a ++ joined (take i chunks)) chunk now c.summary.ensures.summary c.summary.ensures.some in
    record {
      front = take i chunks;
      back = drop (i + 1) chunks;
      parts = parts_at chunks i chunk c.loop-i-test.true own;
      before_is = now;
      after = c.loop-i.invariant.after;
      inside = omega (arith, told.after.len, now.len, size-append (a ++ joined (take i chunks)) chunk, c.if-at-step.true);
    }

pub loop-i-preserved : goal.loop-i-preserved
loop-i-preserved c =
    let chunks = c.args.chunks.now in
    let i = c.loop-i.i in
    let chunk = c.index-chunks-i.result in
    let own : chunk ≡ piece_at chunks i = c.index-chunks-i.is ∙ get_or_default chunks i chunk [] c.loop-i-test.true in
    record {
      front = λ a is.
          let now = c.loop-i.invariant.front a is in
          let told = c.step-step.ensures (a ++ joined (take i chunks)) chunk now c.summary.ensures.summary c.summary.ensures.some in
          rw (behind-take a chunks i chunk c.loop-i-test.true own) told.after;
      after = c.if-at-step.false;
    }

pub unreachable-requires : goal.unreachable-requires
unreachable-requires c =
    let chunks = c.args.chunks.now in
    let before = c.requires.before in
    let all : take c.loop-i.i chunks ≡ chunks = take_all c.loop-i.i chunks c.loop-i-test.false in
    let now : IsFront c.args.s (before.a ++ joined chunks) c.loop-i.front = rw all at (c.loop-i.invariant.front before.a before.is) in
    omega (arith, now.len, before.is.len, size-append before.a (joined chunks), c.loop-i.invariant.after, c.requires.inside)
