use Rattle.piece_text.proofs.lemmas.{◌≡◌, ◌+◌, ◌-◌, ap, sym, ◌∙◌, arith, subst, length, length-drop, length-take-le, take, drop, pieces_in, IsRun, joined_size-part, swapped_there}
use Rattle.piece_text.proofs.view.runs.Runs.swap_in_run.Goals as goal

pub overflow_sub-count : goal.overflow_sub-count
overflow_sub-count c =
    let is = c.run_of-r.ensures in
    let at = swapped_there c.args.self.now c.self.inside.runs.items c.args.pieces.now c.args.at c.run_of-r.result.0
    c.run_of-r.result.1 c.index-run.result.now c.args.swap c.self.view_is c.requires.swapped is.run is.first is.past is.within
    c.index-run.ensures in
    at.gone_le

pub overflow_add-count : goal.overflow_add-count
overflow_add-count c =
    let is = c.run_of-r.ensures in
    let at = swapped_there c.args.self.now c.self.inside.runs.items c.args.pieces.now c.args.at c.run_of-r.result.0
    c.run_of-r.result.1 c.index-run.result.now c.args.swap c.self.view_is c.requires.swapped is.run is.first is.past is.within
    c.index-run.ensures in
    omega (arith, at.within, c.requires.few)

pub overflow_sub-self : goal.overflow_sub-self
overflow_sub-self c =
    let is = c.run_of-r.ensures in
    let at = swapped_there c.args.self.now c.self.inside.runs.items c.args.pieces.now c.args.at c.run_of-r.result.0
    c.run_of-r.result.1 c.index-run.result.now c.args.swap c.self.view_is c.requires.swapped is.run is.first is.past is.within
    c.index-run.ensures in
    omega (arith, at.gone_le_all, c.self.invariant)

pub overflow_add-self : goal.overflow_add-self
overflow_add-self c =
    let is = c.run_of-r.ensures in
    let at = swapped_there c.args.self.now c.self.inside.runs.items c.args.pieces.now c.args.at c.run_of-r.result.0
    c.run_of-r.result.1 c.index-run.result.now c.args.swap c.self.view_is c.requires.swapped is.run is.first is.past is.within
    c.index-run.ensures in
    omega (arith, at.fits, c.requires.few, c.self.invariant)

-- the run goes with its last piece
pub invariant_of-self : goal.invariant_of-self
invariant_of-self c =
    let is = c.run_of-r.ensures in
    let at = swapped_there c.args.self.now c.self.inside.runs.items c.args.pieces.now c.args.at c.run_of-r.result.0
    c.run_of-r.result.1 c.index-run.result.now c.args.swap c.self.view_is c.requires.swapped is.run is.first is.past is.within
    c.index-run.ensures in
    omega (arith, ap pieces_in c.remove.ensures.items, at.count_none c.if-count-eq0.true, c.self.invariant)

pub returns-then-count-eq0 : goal.returns-then-count-eq0
returns-then-count-eq0 c =
    let is = c.run_of-r.ensures in
    let at = swapped_there c.args.self.now c.self.inside.runs.items c.args.pieces.now c.args.at c.run_of-r.result.0
    c.run_of-r.result.1 c.index-run.result.now c.args.swap c.self.view_is c.requires.swapped is.run is.first is.past is.within
    c.index-run.ensures in
    rw c.remove.ensures.items (at.none c.if-count-eq0.true)

pub overflow_add-first : goal.overflow_add-first
overflow_add-first c =
    let is = c.run_of-r.ensures in
    let at = swapped_there c.args.self.now c.self.inside.runs.items c.args.pieces.now c.args.at c.run_of-r.result.0
    c.run_of-r.result.1 c.index-run.result.now c.args.swap c.self.view_is c.requires.swapped is.run is.first is.past is.within
    c.index-run.ensures in
    omega (arith, at.within, c.requires.few)

pub slice_bounds-swap-end : goal.slice_bounds-swap-end
slice_bounds-swap-end c =
    let is = c.run_of-r.ensures in
    let at = swapped_there c.args.self.now c.self.inside.runs.items c.args.pieces.now c.args.at c.run_of-r.result.0
    c.run_of-r.result.1 c.index-run.result.now c.args.swap c.self.view_is c.requires.swapped is.run is.first is.past is.within
    c.index-run.ensures in
    let within = at.within in search (within, arith)

pub swap-requires-clause-swapped : goal.swap-requires-clause-swapped
swap-requires-clause-swapped c =
    let is = c.run_of-r.ensures in
    let at = swapped_there c.args.self.now c.self.inside.runs.items c.args.pieces.now c.args.at c.run_of-r.result.0
    c.run_of-r.result.1 c.index-run.result.now c.args.swap c.self.view_is c.requires.swapped is.run is.first is.past is.within
    c.index-run.ensures in
    let run = c.index-run.result.now in
    let first = c.run_of-r.result.1 in
    let count = run.pieces - c.args.swap.gone + c.args.swap.come in
    let part : first + count - first ≡ count = omega arith in
    rw part at.own

pub swap-requires-clause-short : goal.swap-requires-clause-short
swap-requires-clause-short c =
    let first = c.run_of-r.result.1 in
    omega (
      arith,
      joined_size-part c.args.pieces.now first (first + (c.index-run.result.now.pieces - c.args.swap.gone + c.args.swap.come) - first),
      c.requires.short,
    )

-- and else has the pieces that are there now
pub invariant_of-self-2 : goal.invariant_of-self-2
invariant_of-self-2 c =
    let is = c.run_of-r.ensures in
    let at = swapped_there c.args.self.now c.self.inside.runs.items c.args.pieces.now c.args.at c.run_of-r.result.0
    c.run_of-r.result.1 c.index-run.result.now c.args.swap c.self.view_is c.requires.swapped is.run is.first is.past is.within
    c.index-run.ensures in
    let run = c.index-run.result.now in
    let first = c.run_of-r.result.1 in
    let count = run.pieces - c.args.swap.gone + c.args.swap.come in
    let part : first + count - first ≡ count = omega arith in
    let rest = drop first c.args.pieces.now in
    let size : length (take (first + count - first) rest) ≡ first + count - first =
    length-take-le (first + count - first) rest (omega (arith, at.within, length-drop first c.args.pieces.now)) in
    omega (arith, at.count c.swap.result (sym c.swap.ensures.count ∙ size ∙ part), c.self.invariant)

pub returns : goal.returns
returns c =
    let is = c.run_of-r.ensures in
    let at = swapped_there c.args.self.now c.self.inside.runs.items c.args.pieces.now c.args.at c.run_of-r.result.0
    c.run_of-r.result.1 c.index-run.result.now c.args.swap c.self.view_is c.requires.swapped is.run is.first is.past is.within
    c.index-run.ensures in
    let run = c.index-run.result.now in
    let first = c.run_of-r.result.1 in
    let count = run.pieces - c.args.swap.gone + c.args.swap.come in
    let part : first + count - first ≡ count = omega arith in
    at.put c.swap.result (subst (λ k. IsRun c.swap.result (take k (drop first c.args.pieces.now))) part c.swap.ensures)
