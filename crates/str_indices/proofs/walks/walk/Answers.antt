use Rattle.str_indices.proofs.lemmas.{sym, add-one, ap, ◌∙◌, ◌≡◌, ◌+◌, length, arith, byte_before, sum_below, FitsIn, sum_below-next, sum_below-le-sum_below, byte_made, then_, weaken, walked_on}
use Rattle.str_indices.proofs.walks.walk.Goals as goal

pub overflow_add-count : goal.overflow_add-count
overflow_add-count g c =
    let so_far = c.loop-i.invariant in
    let same = c.byte_before-before.ensures.reads.text_kept in
    let text = c.byte_before-before.new.probe.text in
    let counted_at = g.C.PlaceCounts.counted_at c.args.end text in
    let len : c.len.result ≡ length text = rw same c.len.ensures.len in
    let turned = ap (λ p. p.text) c.turn-byte.ensures.state ∙ so_far.reads.text_kept in
    let added = rw turned at c.count_byte-count.ensures.counted in
    let fits : FitsIn (sum_below counted_at) (length text) = rw same c.requires.fits in
    omega (
      arith,
      so_far.counted,
      added,
      sum_below-next counted_at c.loop-i.i,
      fits (c.loop-i.i + 1) (omega (arith, c.requires.seen, ap length same)),
    )

pub loop-i-preserved : goal.loop-i-preserved
loop-i-preserved g c =
    let so_far = c.loop-i.invariant in
    let text = c.byte_before-before.new.probe.text in
    let counted_at = g.C.PlaceCounts.counted_at c.args.end text in
    let turned = ap (λ p. p.text) c.turn-byte.ensures.state ∙ so_far.reads.text_kept in
    let added = rw turned at c.count_byte-count.ensures.counted in
    let count = c.loop-i.count + c.count_byte-count.result in
    let counted : count ≡ sum_below counted_at (c.loop-i.i + 1) =
    omega (arith, so_far.counted, added, sum_below-next counted_at c.loop-i.i) in
    let byte = rw so_far.reads.text_kept at c.turn-byte.ensures.byte in
    let next : c.turn-byte.result ≡ byte_before text (c.loop-i.i + 1) = rw add-one byte in
    let made = byte_made c.turn-byte.ensures.state c.count_byte-count.ensures.reads in
    let reads = weaken (then_ so_far.reads made) (omega arith) (omega arith) (omega arith) (omega arith) in
    record {
      from_low = omega (arith, so_far.from_low);
      counted = counted;
      walked = walked_on counted_at c.args.idx c.loop-i.place c.loop-i.i count c.from-place.result so_far.walked counted
          c.from-place.ensures;
      before = next;
      reads = reads;
    }

pub returns-then-count-idx-clause-counted : goal.returns-then-count-idx-clause-counted
returns-then-count-idx-clause-counted g c = λ few.
    let so_far = c.loop-i.invariant in
    let counted_at = g.C.PlaceCounts.counted_at c.args.end c.byte_before-before.new.probe.text in
    let turned = ap (λ p. p.text) c.turn-byte.ensures.state ∙ so_far.reads.text_kept in
    let added = rw turned at c.count_byte-count.ensures.counted in
    let more = sum_below-le-sum_below counted_at (c.loop-i.i + 1) c.args.to (omega arith) in
    let all = rw (sym c.byte_before-before.ensures.reads.text_kept) at few in
    absurd (omega (arith, so_far.counted, added, sum_below-next counted_at c.loop-i.i, more, all))
