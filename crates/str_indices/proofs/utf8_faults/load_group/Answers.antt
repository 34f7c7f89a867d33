use Rattle.str_indices.proofs.lemmas.{◌+◌, ◌*◌, arith, window_loaded}
use Rattle.str_indices.proofs.utf8_faults.load_group.Goals as goal

pub returns-clause-four : goal.returns-clause-four
returns-clause-four g c =
    let text = c.args.probe.now.text in
    let at = c.args.at in
    let size = g.T.ByteChunk.SIZE in
    let bytes = c.len.ensures.bytes in
    record {
      within = c.requires;
      is_first = window_loaded text at size _ bytes (omega (arith, c.requires)) c.load.ensures.lanes;
      is_second = window_loaded text (at + size) size _ bytes (omega (arith, c.requires))
          (rw (c.SIZE-2.ensures, c.load.ensures.state) at c.load-2.ensures.lanes);
      is_third = window_loaded text (at + 2 * size) size _ bytes (omega (arith, c.requires))
          (rw (c.SIZE-3.ensures, c.load-2.ensures.state, c.load.ensures.state) at c.load-3.ensures.lanes);
      is_fourth = window_loaded text (at + 3 * size) size _ bytes (omega (arith, c.requires))
          (rw (c.SIZE-4.ensures, c.load-3.ensures.state, c.load-2.ensures.state, c.load.ensures.state) at c.load-4.ensures.lanes);
    }
