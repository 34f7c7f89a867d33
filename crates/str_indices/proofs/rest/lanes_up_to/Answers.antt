use Rattle.str_indices.proofs.lemmas.{◌≡◌, ◌+◌, ◌-◌, ◌++◌, replicate, ap, arith, bit_and, bits_exchanged, kept_small, last_lanes_stay, left_out_and_kept, rest_counted, subst, zip2}
use Rattle.str_indices.proofs.rest.lanes_up_to.Goals as goal

pub returns-clause-lanes : goal.returns-clause-lanes
returns-clause-lanes g c =
    let same = ap (λ p. p.text) c.chunk_by_turns-chunk.ensures.turns in
    let later = rw (same, c.SIZE.ensures) at c.count_lanes-counted.ensures.later in
    let all = rw (same, c.SIZE.ensures) at c.count_lanes-counted.ensures.lanes in
    let text = c.args.probe.now.text in
    let size = g.T.ByteChunk.SIZE in
    let n = c.args.to - c.args.from.byte in
    let bounded = g.met.C.PlaceCounts.bounded in
    let first : c.args.to ≡ c.args.from.byte + size → _ =
    λ whole. all (subst (λ at. g.C.PlaceCounts.carries text at c.args.from.carry) (omega (arith, whole)) c.requires.carried) in
    let small = kept_small (g.C.PlaceCounts.counted_at c.args.end text) c.args.to c.args.from.byte size c.requires.long
    c.requires.near later first 2 (λ n. omega (arith, bounded.1, bounded.2 c.args.end text n)) in
    let table : c.as_flattened.result.now ≡ replicate 64 0 ++ replicate 64 0xFF = c.as_flattened.ensures.value in
    let kept = left_out_and_kept 0 0xFF c.as_flattened.result.now 64 (size - n) n size table (omega (arith, c.requires.near))
    g.met.T.ByteChunk.lawful.most in
    let loaded = rw c.SIZE-2.ensures at c.load-kept.ensures in
    let lanes = g.T.ByteChunk.lanes c.count_lanes-counted.result.lanes in
    let stay = last_lanes_stay (size - n) n lanes small (omega (arith, later.long, c.requires.near)) in
    let both : g.T.ByteChunk.lanes c.bitand.result ≡ zip2 bit_and lanes (g.T.ByteChunk.lanes c.load-kept.result) =
    search (c.bitand.ensures, bits_exchanged) in
    rest_counted (g.C.PlaceCounts.counted_at c.args.end text) c.args.to c.args.from.byte size c.requires.long c.requires.near
    later first (rw (both, loaded, kept) stay) g.C.PlaceCounts.MOST (bounded.2 c.args.end text)
