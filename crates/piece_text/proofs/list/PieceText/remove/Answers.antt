use Rattle.piece_text.proofs.lemmas.{◌<◌, ◌∙◌, ap, refl, arith, length, [], get_or_default, size, subst, summary_of, joined_size, joined_size-remove, AreRuns, swap_out}
use Rattle.piece_text.proofs.list.PieceText.remove.Goals as goal

-- the piece takes no more bytes than all
pub overflow_sub-self : goal.overflow_sub-self
overflow_sub-self c =
    let items = c.self.inside.pieces.items in
    let inside : c.args.at < length items = omega (arith, c.self.inside.pieces.ok.0, c.len.ensures, c.if-len-at.false) in
    let out = ap size (c.remove-piece.ensures.value ∙ get_or_default items c.args.at c.remove-piece.result [] inside) in
    let others = joined_size-remove items c.args.at inside in
    omega (arith, out, others, c.len-2.ensures, c.self.invariant.0)

-- and the others take the rest
pub invariant_of-self : goal.invariant_of-self
invariant_of-self c =
    let items = c.self.inside.pieces.items in
    let inside : c.args.at < length items = omega (arith, c.self.inside.pieces.ok.0, c.len.ensures, c.if-len-at.false) in
    let out = ap size (c.remove-piece.ensures.value ∙ get_or_default items c.args.at c.remove-piece.result [] inside) in
    let others = joined_size-remove items c.args.at inside in
    rw c.remove-piece.ensures.items
    (omega (arith, out, others, c.len-2.ensures, c.self.invariant.0), omega (arith, c.self.invariant.1), subst (AreRuns c.swap.new.self) (c.as_slice.ensures.value ∙ c.remove-piece.ensures.items) c.swap.ensures)

pub swap-requires-clause-swapped : goal.swap-requires-clause-swapped
swap-requires-clause-swapped c =
    let items = c.self.inside.pieces.items in
    let inside : c.args.at < length items = omega (arith, c.self.inside.pieces.ok.0, c.len.ensures, c.if-len-at.false) in
    let out = c.remove-piece.ensures.value ∙ get_or_default items c.args.at c.remove-piece.result [] inside in
    record {
      old = items;
      are = c.open_end.ensures items c.self.invariant.2;
      swap_is = swap_out items c.as_slice.result.now c.args.at _ inside (c.as_slice.ensures.value ∙ c.remove-piece.ensures.items)
          refl refl (c.summary.ensures.summary ∙ ap summary_of out) c.none.ensures;
      one = omega arith;
      short = omega (arith, c.self.invariant.0, c.self.invariant.1);
    }

pub swap-requires-clause-short : goal.swap-requires-clause-short
swap-requires-clause-short c =
    let items = c.self.inside.pieces.items in
    let inside : c.args.at < length items = omega (arith, c.self.inside.pieces.ok.0, c.len.ensures, c.if-len-at.false) in
    let new = ap joined_size (c.as_slice.ensures.value ∙ c.remove-piece.ensures.items) in
    omega (arith, new, joined_size-remove items c.args.at inside, c.self.invariant.0, c.self.invariant.1)
