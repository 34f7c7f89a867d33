use Rattle.str_indices.proofs.lemmas.{◌≡◌, ◌+◌, ◌*◌, arith}
use Rattle.str_indices.proofs.utf8_faults.check_group.Goals as goal

pub returns-clause-ok : goal.returns-clause-ok
returns-clause-ok g c =
    let size = g.T.ByteChunk.SIZE in
    let end : c.args.at + 3 * c.SIZE-size.result + size ≡ c.args.at + 4 * size = omega (arith, c.SIZE-size.ensures) in
    rw end at c.check_chunk-4.ensures.ok
