use Rattle.str_indices.proofs.lemmas.{◌==◌, get_or, is_byte, lanes_map, lanes_and}
use Rattle.str_indices.specs.Utf8Lanes.{is_masked}
use Rattle.str_indices.proofs.utf8_lanes.mark_byte_after.Goals as goal

pub returns : goal.returns
returns g c =
    let t = g.T.ByteChunk in
    lanes_and (λ j. get_or (t.lanes c.args.one_back) j 0 == c.args.before)
    (λ j. is_masked c.args.mask c.args.byte (get_or (t.lanes c.args.here) j 0))
    (lanes_map (is_byte c.args.before) (t.lanes c.args.one_back) c.requires.one c.cmp_eq_byte.ensures)
    c.mark_byte.ensures c.bitand.ensures
