use Rattle.str_indices.proofs.lemmas.{arith, pair_lanes, bits_exchanged}
use Rattle.str_indices.proofs.lines.pair_starts.Goals as goal

pub returns : goal.returns
returns g c = pair_lanes _ c.requires.long _ _ (omega (arith, g.met.T.ByteChunk.lawful.least)) c.requires.some
    c.cmp_eq_byte-2.ensures c.cmp_eq_byte.ensures c.shift_back_lex-before.ensures (search (c.bitand.ensures, bits_exchanged))
