use Rattle.str_indices.proofs.lemmas.{◌≡◌, true, is_open, ◌+◌, ◌≤◌, ◌∙◌, length, ap, arith, subst, AllFollow, chunk_made, div-add-le, group_joined, weaken, window_loaded}
use Rattle.std.specs.Prelude.{IsFalse}
use Rattle.str_indices.proofs.utf8_faults.check_chunks.Goals as goal

pub check_alone-requires-clause-chunk : goal.check_alone-requires-clause-chunk
check_alone-requires-clause-chunk g c =
    let so_far = c.chunks.invariant in
    let text = c.args.probe.now.text in
    let loaded = ap (λ p. p.text) c.load-chunk.ensures.state in
    let lanes = rw so_far.reads.text_kept at c.load-chunk.ensures.lanes in
    rw (loaded, so_far.reads.text_kept)
    (window_loaded text c.chunks.at g.T.ByteChunk.SIZE _ c.len-len.ensures.bytes
    (omega (arith, c.chunks-test.true, c.SIZE.ensures, c.len-len.ensures.len, so_far.high)) lanes)

pub returns-in-Err-clause-reads : goal.returns-in-Err-clause-reads
returns-in-Err-clause-reads g c =
    let so_far = c.chunks.invariant in
    let size = g.T.ByteChunk.SIZE in
    let n = length c.args.probe.now.text in
    let least = g.met.T.ByteChunk.lawful.least in
    let within : c.chunks.at + size ≤ n = omega (arith, c.chunks-test.true, c.SIZE.ensures, c.len-len.ensures.len, so_far.high) in
    let made = chunk_made c.chunks.at c.chunks.at (omega arith) c.load-chunk.ensures.state
    (weaken c.check_alone.ensures.reads (omega arith) (omega arith) (omega arith) (omega arith)) in
    let joined = group_joined {group = 1} {to = c.chunks.at + size} (omega arith) least so_far.low so_far.reads made in
    weaken joined (omega arith) (omega arith)
    (omega (arith, div-add-le size c.args.from (c.chunks.at + size) n least (omega (arith, so_far.low)) within)) (omega arith)

pub chunks-preserved : goal.chunks-preserved
chunks-preserved g c =
    let so_far = c.chunks.invariant in
    let size = c.SIZE-at.ensures in
    let loaded = ap (λ p. p.text) c.load-chunk.ensures.state in
    let made = chunk_made c.chunks.at c.chunks.at (omega arith) c.load-chunk.ensures.state
    (weaken c.check_alone.ensures.reads (omega arith) (omega arith) (omega arith) (omega arith)) in
    let same = loaded ∙ so_far.reads.text_kept in
    record {
      low = omega (arith, so_far.low);
      high = omega (arith, c.chunks-test.true, c.SIZE.ensures, size, c.len-len.ensures.len, so_far.high);
      follow = rw size (subst (λ text. AllFollow text 0 (c.chunks.at + g.T.ByteChunk.SIZE)) same c.in-Ok.ensures.ok.0);
      shut = rw size (subst (λ text. c.in-Ok.is_ascii ≡ true → IsFalse (is_open text (c.chunks.at + g.T.ByteChunk.SIZE))) same c.in-Ok.ensures.ok.1);
      reads = group_joined {group = 1} (omega (arith, size)) g.met.T.ByteChunk.lawful.least so_far.low so_far.reads made;
    }
