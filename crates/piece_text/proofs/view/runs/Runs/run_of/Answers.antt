use Rattle.piece_text.proofs.lemmas.{◌≡◌, ◌+◌, ◌-◌, ◌<◌, length, take, ap, arith, pieces_in, pieces_in-at}
use Rattle.piece_text.proofs.view.runs.Runs.run_of.Goals as goal

pub overflow_sub-first : goal.overflow_sub-first
overflow_sub-first c =
    let items = c.self.inside.runs.items in
    let r = c.len-all.result - 1 - c.loop-after.after in
    let inside : r < length items = omega (arith, c.self.inside.runs.ok.0, c.len-all.ensures, c.loop-after-test.true) in
    let upto : length items - c.loop-after.after ≡ r + 1 = omega (arith, c.self.inside.runs.ok.0, c.len-all.ensures, c.loop-after-test.true) in
    omega (
      arith,
      pieces_in-at items r c.index.result.now inside,
      ap (λ k. pieces_in (take k items)) upto,
      ap (λ v. v.pieces) c.index.ensures,
      c.loop-after.invariant.end,
    )

-- the run has the pieces from the first one on
pub returns-then-first-at-clause-first : goal.returns-then-first-at-clause-first
returns-then-first-at-clause-first c =
    let items = c.self.inside.runs.items in
    let r = c.len-all.result - 1 - c.loop-after.after in
    let inside : r < length items = omega (arith, c.self.inside.runs.ok.0, c.len-all.ensures, c.loop-after-test.true) in
    let upto : length items - c.loop-after.after ≡ r + 1 = omega (arith, c.self.inside.runs.ok.0, c.len-all.ensures, c.loop-after-test.true) in
    rw (← c.self.view_is) (omega (
      arith,
      pieces_in-at items r c.index.result.now inside,
      ap (λ k. pieces_in (take k items)) upto,
      ap (λ v. v.pieces) c.index.ensures,
      c.loop-after.invariant.end,
    ))

pub loop-after-preserved : goal.loop-after-preserved
loop-after-preserved c =
    let items = c.self.inside.runs.items in
    let r = c.len-all.result - 1 - c.loop-after.after in
    let inside : r < length items = omega (arith, c.self.inside.runs.ok.0, c.len-all.ensures, c.loop-after-test.true) in
    let upto : length items - c.loop-after.after ≡ r + 1 = omega (arith, c.self.inside.runs.ok.0, c.len-all.ensures, c.loop-after-test.true) in
    let before : length items - (c.loop-after.after + 1) ≡ r = omega (arith, c.self.inside.runs.ok.0, c.len-all.ensures, c.loop-after-test.true) in
    record {
      end = omega (
        arith,
        pieces_in-at items r c.index.result.now inside,
        ap (λ k. pieces_in (take k items)) upto,
        ap (λ k. pieces_in (take k items)) before,
        ap (λ v. v.pieces) c.index.ensures,
        c.loop-after.invariant.end,
      );
      inside = omega (arith, c.if-first-at.false);
    }
