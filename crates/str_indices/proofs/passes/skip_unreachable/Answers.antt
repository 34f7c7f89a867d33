use Rattle.str_indices.proofs.lemmas.{◌≡◌, ◌+◌, ◌-◌, arith, chunks_joined}
use Rattle.str_indices.proofs.passes.skip_unreachable.Goals as goal

pub rounds-preserved : goal.rounds-preserved
rounds-preserved g c =
    let so_far = c.rounds.invariant in
    let round = c.count_chunks-at in
    let counted = rw (so_far.reads.text_kept, c.len-len.ensures.len) at round.ensures.counts.counted in
    let at = c.rounds.at.byte in
    let steps = round.result.byte - at in
    let there : at + steps ≡ round.result.byte = omega (arith, round.ensures.reached.0) in
    let near = rw c.SIZE.ensures at round.ensures.reached.1 in
    let few = rw there at (c.requires.steady.near at steps (omega (arith, near))) in
    let sure = c.sure_chunks-chunks.ensures.sure (omega arith) in
    record {
      from_low = omega (arith, so_far.from_low, round.ensures.reached.0);
      searches = record {
        within = omega (arith, near);
        counted = counted;
        at_most = omega (arith, counted, few, so_far.searches, near, sure);
        carried = rw so_far.reads.text_kept at round.ensures.counts.carried;
      };
      reads = chunks_joined g.met.T.ByteChunk.lawful.least so_far.from_low round.ensures.reached.0 so_far.reads
          round.ensures.reads;
    }
