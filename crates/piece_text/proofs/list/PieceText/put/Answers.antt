use Rattle.piece_text.proofs.lemmas.{length, refl, ap, subst, ◌∙◌, arith, size, size-chars, joined_size, joined_size-insert, AreRuns, swap_in}
use Rattle.piece_text.proofs.list.PieceText.put.Goals as goal

-- the list has one piece more
pub swap-requires-clause-swapped : goal.swap-requires-clause-swapped
swap-requires-clause-swapped c =
    let old = c.self.inside.pieces.items in
    let kept = c.reserve.ensures.items in
    let put = rw c.reserve.ensures.items at c.in_ok-insert.ensures.items in
    record {
      old = old;
      are = subst (AreRuns c.make_room.new.self) (c.as_slice.ensures.value ∙ kept) c.make_room.ensures;
      swap_is = swap_in old c.as_slice-2.result.now c.args.at c.in_ok-piece.piece _ (omega (arith, c.requires.within, ap length c.self.view_is))
          (c.as_slice-2.ensures.value ∙ put) refl refl c.none.ensures c.summary-own.ensures.summary;
      one = omega arith;
      short = omega (arith, c.self.invariant.0, c.self.invariant.1);
    }

pub swap-requires-clause-short : goal.swap-requires-clause-short
swap-requires-clause-short c =
    let old = c.self.inside.pieces.items in
    let put = rw c.reserve.ensures.items at c.in_ok-insert.ensures.items in
    let new = c.as_slice-2.ensures.value ∙ put in
    omega (
      arith,
      ap joined_size new,
      joined_size-insert old c.args.at c.in_ok-piece.piece,
      ap size c.in_ok-piece.ensures,
      size-chars c.args.text.now c.utf8.text,
      c.requires.short,
      ap joined_size c.self.view_is,
    )

-- and its length grows by that of the text
pub invariant_of-self-2 : goal.invariant_of-self-2
invariant_of-self-2 c =
    let old = c.self.inside.pieces.items in
    let new = rw c.reserve.ensures.items at c.in_ok-insert.ensures.items in
    let grown = joined_size-insert old c.args.at c.in_ok-piece.piece in
    let own = ap size c.in_ok-piece.ensures ∙ size-chars c.args.text.now c.utf8.text in
    (omega (arith, ap joined_size new, grown, own, c.self.invariant.0), omega (arith, c.requires.short, ap joined_size c.self.view_is, c.self.invariant.0), subst (AreRuns c.swap.new.self) c.as_slice-2.ensures.value c.swap.ensures)
