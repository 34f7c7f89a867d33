use Rattle.str_indices.proofs.lemmas.{ℕ, ◌<◌, arith}
use Rattle.std.proofs.Common.{get_or}
use Rattle.str_indices.proofs.lemmas.{greatest_more, least_more, greatest_lead, all_below, all_past}
use Rattle.str_indices.proofs.kinds.kinds_of.Goals as goal

pub loop-byte-preserved : goal.loop-byte-preserved
loop-byte-preserved c = record {
  greatest = greatest_more _ _ _ _ c.loop-byte.invariant.greatest c.max-greatest.ensures;
  least = least_more _ _ _ _ c.loop-byte.invariant.least c.min-least_from_vt.ensures;
}

pub returns : goal.returns
returns c =
    let greatest = c.loop-byte.invariant.greatest in
    let least = c.loop-byte.invariant.least in
    let fit : (k : ℕ) → get_or c.args.bytes.now k 0 < 256 = λ k. omega (arith, c.type_inv.bytes k) in
    record {
      is_ascii = all_below _ _ _ 0x80 greatest (omega arith) (omega arith);
      no_pair = all_below _ _ _ 0xF0 greatest (omega arith) (omega arith);
      no_vt_ff = all_past _ _ _ 1 least (omega arith) fit (omega arith);
      no_return = all_past _ _ _ 2 least (omega arith) fit (omega arith);
      has_wide_lead = λ is. greatest_lead _ _ _ greatest (omega arith) (c.is_wide_lead.ensures.0 is);
    }
