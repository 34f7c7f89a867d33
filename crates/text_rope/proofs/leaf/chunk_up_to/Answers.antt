use Rattle.text_rope.proofs.lemmas.{◌≡◌, ◌∙◌, [], take, ap, arith, size, size-append, joined, joined_size, joined-take, piece_at, get_or_default, take_all}
use Rattle.text_rope.proofs.leaf.chunk_up_to.Goals as goal

pub loop-i-preserved : goal.loop-i-preserved
loop-i-preserved c =
    let chunks = c.args.chunks.now in
    let i = c.loop-i.i in
    let chunk = c.index-chunks-i.result in
    let own : chunk ≡ piece_at chunks i = c.index-chunks-i.is ∙ get_or_default chunks i chunk [] c.loop-i-test.true in
    let more = ap size (joined-take chunks i c.loop-i-test.true) ∙ size-append (joined (take i chunks)) (piece_at chunks i) in
    record {
      start = omega (arith, more, ap size own, ap (λ s. s.len) c.summary.ensures.summary, c.loop-i.invariant.start);
      past = omega (arith, c.if-to-end.false);
      before = λ _. c.if-to-end.false;
    }

pub unreachable-requires : goal.unreachable-requires
unreachable-requires c =
    let chunks = c.args.chunks.now in
    let here : take c.loop-i.i chunks ≡ chunks = take_all c.loop-i.i chunks c.loop-i-test.false in
    let past = c.loop-i.invariant.before (omega (arith, c.loop-i-test.false, c.requires.some)) in
    omega (arith, ap joined_size here, c.loop-i.invariant.start, past, c.requires.within)
