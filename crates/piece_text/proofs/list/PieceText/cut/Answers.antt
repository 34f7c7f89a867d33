use Rattle.piece_text.proofs.lemmas.{◌<◌, ◌∙◌, ap, sym, refl, length, [], get_or_default, size, summary_of, piece_at, IsHalved, is_cut, joined-cut, arith, set, subst, joined_size, AreRuns, swap_cut}
use Rattle.piece_text.proofs.list.PieceText.cut.Goals as goal

pub invariant_of-self-2 : goal.invariant_of-self-2
invariant_of-self-2 c =
    let items = c.self.inside.pieces.items in
    let i = c.args.i in
    let inside : i < length items = rw (← c.self.view_is) at c.requires.inside in
    let own = c.index-piece.ensures ∙ get_or_default items i c.index-piece.result.now [] inside in
    let halved : IsHalved (piece_at items i) c.in_ok-left.left c.in_ok-left.right c.args.at =
    rw own at c.in_ok-left.ensures in
    let cut = is_cut items i c.in_ok-left.left c.in_ok-left.right c.args.at inside halved in
    let put = ap (λ v. set v i c.in_ok-left.left) (rw c.reserve.ensures.items at c.in_ok-insert.ensures.items) in
    (c.self.invariant.0 ∙ sym (ap joined_size put ∙ ap size (joined-cut items _ _ cut)), c.self.invariant.1, subst (AreRuns c.swap.new.self) c.as_slice-2.ensures.value c.swap.ensures)

pub returns-clause-ok : goal.returns-clause-ok
returns-clause-ok c =
    let items = c.self.inside.pieces.items in
    let i = c.args.i in
    let inside : i < length items = rw (← c.self.view_is) at c.requires.inside in
    let own = c.index-piece.ensures ∙ get_or_default items i c.index-piece.result.now [] inside in
    let halved : IsHalved (piece_at items i) c.in_ok-left.left c.in_ok-left.right c.args.at =
    rw own at c.in_ok-left.ensures in
    rw (c.in_ok-insert.ensures.items, c.reserve.ensures.items, ← c.self.view_is)
    (is_cut items i c.in_ok-left.left c.in_ok-left.right c.args.at inside halved)

-- there are two pieces for one
pub swap-requires-clause-swapped : goal.swap-requires-clause-swapped
swap-requires-clause-swapped c =
    let items = c.self.inside.pieces.items in
    let i = c.args.i in
    let inside : i < length items = rw (← c.self.view_is) at c.requires.inside in
    let own = c.index-piece.ensures ∙ get_or_default items i c.index-piece.result.now [] inside in
    let halved : IsHalved (piece_at items i) c.in_ok-left.left c.in_ok-left.right c.args.at =
    rw own at c.in_ok-left.ensures in
    let kept = c.reserve.ensures.items in
    let put = rw c.reserve.ensures.items at c.in_ok-insert.ensures.items in
    let whole = c.summary-whole.ensures.summary ∙ ap summary_of own in
    record {
      old = items;
      are = subst (AreRuns c.make_room.new.self) (c.as_slice.ensures.value ∙ kept) c.make_room.ensures;
      swap_is = swap_cut items c.as_slice-2.result.now i c.in_ok-left.left c.in_ok-left.right _ inside
          (c.as_slice-2.ensures.value ∙ ap (λ v. set v i c.in_ok-left.left) put) halved.halves refl refl
          whole whole;
      one = omega arith;
      short = omega (arith, c.self.invariant.0, c.self.invariant.1);
    }

pub swap-requires-clause-short : goal.swap-requires-clause-short
swap-requires-clause-short c =
    let items = c.self.inside.pieces.items in
    let i = c.args.i in
    let inside : i < length items = rw (← c.self.view_is) at c.requires.inside in
    let own = c.index-piece.ensures ∙ get_or_default items i c.index-piece.result.now [] inside in
    let halved : IsHalved (piece_at items i) c.in_ok-left.left c.in_ok-left.right c.args.at =
    rw own at c.in_ok-left.ensures in
    let cut = is_cut items i c.in_ok-left.left c.in_ok-left.right c.args.at inside halved in
    let put = rw c.reserve.ensures.items at c.in_ok-insert.ensures.items in
    let new = c.as_slice-2.ensures.value ∙ ap (λ v. set v i c.in_ok-left.left) put in
    omega (arith, ap joined_size new, ap size (joined-cut items _ _ cut), c.self.invariant.0, c.self.invariant.1)
