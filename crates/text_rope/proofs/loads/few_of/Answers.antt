use Rattle.text_rope.proofs.lemmas.{◌/◌, ap, arith, take, drop, take-append-drop, joined_size, joined_size-append}
use Rattle.text_rope.proofs.loads.few_of.Goals as goal

pub leaf_of-requires-2-clause-short : goal.leaf_of-requires-2-clause-short
leaf_of-requires-2-clause-short c =
    let chunks = c.args.chunks.items in
    let half = c.len-all.result / 2 in
    omega (
      arith,
      ap joined_size c.in_ok-back.ensures.items,
      ap joined_size (take-append-drop half chunks),
      joined_size-append (take half chunks) (drop half chunks),
      c.requires.short,
    )

pub leaf_of-requires-3-clause-short : goal.leaf_of-requires-3-clause-short
leaf_of-requires-3-clause-short c =
    let chunks = c.args.chunks.items in
    let half = c.len-all.result / 2 in
    omega (
      arith,
      ap joined_size c.in_ok-back.ensures.tail,
      ap joined_size (take-append-drop half chunks),
      joined_size-append (take half chunks) (drop half chunks),
      c.requires.short,
    )

pub join-requires : goal.join-requires
join-requires c =
    let chunks = c.args.chunks.items in
    let half = c.len-all.result / 2 in
    record {
      short = omega (
        arith,
        ap joined_size c.in_ok-left.ensures.leaf.texts,
        ap joined_size c.in_ok-right.ensures.leaf.texts,
        ap joined_size c.in_ok-back.ensures.items,
        ap joined_size c.in_ok-back.ensures.tail,
        ap joined_size (take-append-drop half chunks),
        joined_size-append (take half chunks) (drop half chunks),
        c.requires.short,
      );
    }
