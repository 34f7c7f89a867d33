use Rattle.str_indices.proofs.lemmas.{◌*◌, subst, arith, AreFour, ascii_follow, both_follow, group_ascii, group_joined}
use Rattle.str_indices.proofs.utf8_faults.skip_ascii.Goals as goal

pub groups-preserved : goal.groups-preserved
groups-preserved g c =
    let text = c.args.probe.now.text in
    let at = c.groups.at in
    let size = g.T.ByteChunk.SIZE in
    let lanes = g.T.ByteChunk.lanes in
    let so_far = c.groups.invariant in
    let group = c.load_group-group in
    let four = subst (λ t. AreFour size t at (lanes group.result.first) (lanes group.result.second) (lanes group.result.third)
    (lanes group.result.fourth)) so_far.reads.text_kept group.ensures.four in
    let bytes = group_ascii text four (c.is_ascii.ensures.0 c.if-not-is_ascii.false) in
    let all = ascii_follow text at (4 * size) so_far.shut bytes in
    rw c.SIZE-in-groups.ensures (record {
      low = omega (arith, so_far.low);
      high = omega (arith, c.groups-test.true, c.SIZE.ensures, c.len.ensures.len, c.requires.within.0, c.requires.within.1);
      follow = both_follow text so_far.follow all.0;
      shut = all.1;
      reads = group_joined {group = 4} (omega arith) g.met.T.ByteChunk.lawful.least so_far.low so_far.reads group.ensures.reads;
    })
