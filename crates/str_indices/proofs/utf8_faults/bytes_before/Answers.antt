use Rattle.str_indices.proofs.lemmas.{◌∙◌, ap, arith, get_or, after_zeros, splat_ends}
use Rattle.str_indices.proofs.utf8_faults.bytes_before.Goals as goal

pub returns-clause-before : goal.returns-clause-before
returns-clause-before g c =
    let some = g.met.T.ByteChunk.lawful.least in
    let all = after_zeros c.args.probe.now.text in
    let two = rw c.byte_back.ensures.reads.text_kept at c.byte_back-2.ensures.byte in
    let three = rw (c.byte_back-2.ensures.reads.text_kept, c.byte_back.ensures.reads.text_kept) at c.byte_back-3.ensures.byte in
    record {
      one_back = splat_ends some c.byte_back.type_inv c.splat.ensures
          (c.byte_back.ensures.byte ∙ ap (λ k. get_or all k 0) (omega arith));
      two_back = splat_ends some c.byte_back-2.type_inv c.splat-2.ensures (two ∙ ap (λ k. get_or all k 0) (omega arith));
      three_back = splat_ends some c.byte_back-3.type_inv c.splat-3.ensures (three ∙ ap (λ k. get_or all k 0) (omega arith));
    }
