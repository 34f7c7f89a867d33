use Rattle.str_indices.proofs.lemmas.{◌≡◌, ap, arith, get_or, length-set, byte_more, subst}
use Rattle.str_indices.proofs.utf8_faults.chunk_by_turns.Goals as goal

pub loop-i-preserved : goal.loop-i-preserved
loop-i-preserved g c =
    let so_far = c.loop-i.invariant in
    let text = c.args.probe.now.text in
    let is = subst (λ place. c.turn.result ≡ get_or text place 0) (omega arith)
    (rw (ap (λ p. p.text) so_far.turned) at c.turn.ensures.byte) in
    record {
      turned = grind (arith, so_far.turned, c.turn.ensures.state);
      long = grind (arith, so_far.long, length-set);
      filled = byte_more c.loop-i.bytes text c.args.at c.loop-i.i c.turn.result (search arith) (search arith) is so_far.filled;
    }
