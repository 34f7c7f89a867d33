use Rattle.str_indices.proofs.lemmas.{◌-◌, arith, group_joined, round_fits}
use Rattle.str_indices.proofs.place_counts.count_chunks.Goals as goal

pub rounds-preserved : goal.rounds-preserved
rounds-preserved g c =
    let so_far = c.rounds.invariant in
    let round = c.count_in_steps-at.ensures in
    let here = rw c.SIZE-size.ensures at c.rounds-test.true in
    record {
      from_low = omega (arith, so_far.from_low, round.byte);
      to_high = omega (arith, here, round.byte);
      counts = rw so_far.reads.text_kept at round.counts;
      reads = group_joined round.byte g.met.T.ByteChunk.lawful.least so_far.from_low so_far.reads round.reads;
    }

pub count_in_steps-requires-clause-summable : goal.count_in_steps-requires-clause-summable
count_in_steps-requires-clause-summable g c =
    rw c.SIZE-size.ensures (round_fits (c.args.to - c.rounds.at.byte) g.T.ByteChunk.SIZE c.chunks_of_round-most.result
    g.C.PlaceCounts.MOST g.T.ByteChunk.MAX_ACC g.met.T.ByteChunk.lawful.least
    (rw c.SIZE-size.ensures at c.rounds-test.false) c.chunks_of_round-most.ensures.summable)

pub returns-clause-reads : goal.returns-clause-reads
returns-clause-reads g c =
    let so_far = c.rounds.invariant in
    let last = c.count_in_steps.ensures in
    group_joined last.byte g.met.T.ByteChunk.lawful.least so_far.from_low so_far.reads last.reads
