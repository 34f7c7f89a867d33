use Rattle.piece_text.proofs.lemmas.{arith, halved_there}
use Rattle.piece_text.proofs.view.runs.Runs.halve.Goals as goal

pub overflow_add-first : goal.overflow_add-first
overflow_add-first c =
    let is = c.run_of-r.ensures in
    let at = halved_there c.args.self.now c.self.inside.runs.items c.args.pieces.now c.run_of-r.result.0 c.run_of-r.result.1 64
    c.index.result.now c.self.view_is c.requires.are is.run is.first c.index.ensures (omega (arith, c.if-count.false)) in
    omega (arith, at.within, c.requires.few, c.if-count.false)

pub of-right-requires-clause-within : goal.of-right-requires-clause-within
of-right-requires-clause-within c =
    let is = c.run_of-r.ensures in
    let at = halved_there c.args.self.now c.self.inside.runs.items c.args.pieces.now c.run_of-r.result.0 c.run_of-r.result.1 64
    c.index.result.now c.self.view_is c.requires.are is.run is.first c.index.ensures (omega (arith, c.if-count.false)) in
    omega (arith, at.within, c.if-count.false)

pub invariant_of-self-2 : goal.invariant_of-self-2
invariant_of-self-2 c =
    let is = c.run_of-r.ensures in
    let at = halved_there c.args.self.now c.self.inside.runs.items c.args.pieces.now c.run_of-r.result.0 c.run_of-r.result.1 64
    c.index.result.now c.self.view_is c.requires.are is.run is.first c.index.ensures (omega (arith, c.if-count.false)) in
    rw c.in-Ok.ensures.items
    (omega (arith, at.count c.of.result c.of-right.result c.of.ensures.count c.of-right.ensures.count, c.self.invariant))

pub returns : goal.returns
returns c =
    let is = c.run_of-r.ensures in
    let at = halved_there c.args.self.now c.self.inside.runs.items c.args.pieces.now c.run_of-r.result.0 c.run_of-r.result.1 64
    c.index.result.now c.self.view_is c.requires.are is.run is.first c.index.ensures (omega (arith, c.if-count.false)) in
    rw c.in-Ok.ensures.items (at.both c.of.result c.of-right.result c.of.ensures.run c.of-right.ensures.run)
