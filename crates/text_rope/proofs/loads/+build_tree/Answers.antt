use Rattle.text_rope.proofs.lemmas.{◌-◌, arith, ap, take, drop, take-append-drop, joined_size, joined_size-append}
use Rattle.text_rope.specs.States.{texts_of}
use Rattle.text_rope.proofs.loads.+build_tree.Goals as goal

pub few_of-requires-clause-short : goal.few_of-requires-clause-short
few_of-requires-clause-short t c =
    let chunks = c.args.chunks.now.items in
    let at = c.len.result - c.args.many in
    omega (
      arith,
      ap joined_size c.in_ok-own.ensures.tail,
      ap joined_size (take-append-drop at chunks),
      joined_size-append (take at chunks) (drop at chunks),
      c.requires.short,
    )

pub build_tree-requires-2 : goal.build_tree-requires-2
build_tree-requires-2 t c = (
  omega arith,
  (
    omega (arith, c.half_of-half.ensures.less),
    (
      omega (arith, c.in_ok-right.ensures.rest),
      omega (
        arith,
        ap joined_size c.in_ok-right.ensures.chunks,
        joined_size-append c.build_tree.new.chunks.items (texts_of c.in_ok-right.right),
        c.requires.short,
      ),
    ),
  ),
)

pub join_options-requires : goal.join_options-requires
join_options-requires t c = record {
  short = omega (
    arith,
    ap joined_size c.in_ok-right.ensures.chunks,
    joined_size-append c.build_tree.new.chunks.items (texts_of c.in_ok-right.right),
    ap joined_size c.in_ok-left.ensures.chunks,
    ap (λ root. joined_size (texts_of root)) c.as_ref-left.ensures.value,
    ap (λ root. joined_size (texts_of root)) c.as_ref-right.ensures.value,
    joined_size-append c.build_tree-2.new.chunks.items (texts_of c.in_ok-left.left),
    c.requires.short,
  );
}
