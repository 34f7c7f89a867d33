use Rattle.str_indices.proofs.lemmas.Common.{◌*◌, arith, subst, HasLanes}
use Rattle.str_indices.proofs.lemmas.Lanes.{room_exchanged, sums_exchanged}
use Rattle.str_indices.proofs.lemmas.Rest.{window, windows_of_one, windows_moved, windows_there, windows_addable, windows_added, windows_to_end}
use Rattle.str_indices.proofs.chunk_search.sums_to_end.Goals as goal

pub add-twos-requires : goal.add-twos-requires
add-twos-requires g c =
    let lanes = g.T.ByteChunk.lanes c.args.lanes in
    let ones = windows_of_one lanes c.requires.long in
    let moved = windows_moved lanes c.requires.long 1 1 (omega (arith, g.met.T.ByteChunk.lawful.least)) ones
    c.shift_back_lex.ensures in
    search (windows_addable lanes c.requires.long 1 ones moved c.requires.small (omega arith), room_exchanged)

pub add-sums-requires : goal.add-sums-requires
add-sums-requires g c =
    let lanes = g.T.ByteChunk.lanes c.args.lanes in
    let least = g.met.T.ByteChunk.lawful.least in
    let ones = windows_of_one lanes c.requires.long in
    let ones' = windows_moved lanes c.requires.long 1 1 (omega (arith, least)) ones c.shift_back_lex.ensures in
    let twos = windows_added lanes c.requires.long 1 ones ones' {wide = g.T.ByteChunk.lanes c.add-twos.result} (search (c.add-twos.ensures, sums_exchanged)) in
    let twos' = windows_moved lanes c.requires.long 2 2 (omega (arith, least)) twos c.shift_back_lex-2.ensures in
    search (windows_addable lanes c.requires.long 2 twos twos' c.requires.small (omega arith), room_exchanged)

pub widths-init : goal.widths-init
widths-init g c =
    let lanes = g.T.ByteChunk.lanes c.args.lanes in
    let least = g.met.T.ByteChunk.lawful.least in
    let ones = windows_of_one lanes c.requires.long in
    let ones' = windows_moved lanes c.requires.long 1 1 (omega (arith, least)) ones c.shift_back_lex.ensures in
    let twos = windows_added lanes c.requires.long 1 ones ones' {wide = g.T.ByteChunk.lanes c.add-twos.result} (search (c.add-twos.ensures, sums_exchanged)) in
    let twos' = windows_moved lanes c.requires.long 2 2 (omega (arith, least)) twos c.shift_back_lex-2.ensures in
    record {
      some = omega arith;
      few = omega arith;
      sums = windows_added lanes c.requires.long 2 twos twos' (search (c.add-sums.ensures, sums_exchanged));
    }

pub add-sums-requires-in-widths : goal.add-sums-requires-in-widths
add-sums-requires-in-widths g c =
    let lanes = g.T.ByteChunk.lanes c.args.lanes in
    let width = 4 * c.widths.fours in
    let so_far = c.widths.invariant in
    let moved = windows_there lanes c.requires.long width width so_far.sums c.move_back.ensures in
    let room = g.met.T.ByteChunk.lawful.most in
    let here = rw c.SIZE.ensures at c.widths-test.true in
    search (
      windows_addable lanes c.requires.long width so_far.sums moved c.requires.small (omega (arith, here, room)),
      room_exchanged,
    )

pub widths-preserved : goal.widths-preserved
widths-preserved g c =
    let lanes = g.T.ByteChunk.lanes c.args.lanes in
    let width = 4 * c.widths.fours in
    let so_far = c.widths.invariant in
    let moved = windows_there lanes c.requires.long width width so_far.sums c.move_back.ensures in
    let here = rw c.SIZE.ensures at c.widths-test.true in
    record {
      some = omega (arith, so_far.some);
      few = omega (arith, here, g.met.T.ByteChunk.lawful.most);
      sums = subst (λ n. HasLanes g.T.ByteChunk.SIZE (window lanes n) (g.T.ByteChunk.lanes c.add-sums-in-widths.result)) (omega arith)
          (windows_added lanes c.requires.long width so_far.sums moved (search (c.add-sums-in-widths.ensures, sums_exchanged)));
    }

pub returns : goal.returns
returns g c = windows_to_end (g.T.ByteChunk.lanes c.args.lanes) c.requires.long
    (rw c.SIZE.ensures at c.widths-test.false) c.widths.invariant.sums
