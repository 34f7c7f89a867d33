use Rattle.str_indices.proofs.lemmas.{◌≡◌, ℕ, ◌+◌, ◌-◌, ◌<◌, List, get_or, arith, ap, inl, inr, sym, ◌∙◌, cases_lt, kept_zero, zero_kept, zero_lanes}
use Rattle.std.proofs.lemmas.Bool.{false≢true}
use Rattle.str_indices.proofs.utf8_faults.first_lane.Goals as goal

-- lanes that are 0 up to one, and that one
one_more : (lanes : List ℕ) {lane : ℕ} → ((j : ℕ) → j < lane → get_or lanes j 0 ≡ 0) → get_or lanes lane 0 ≡ 0
    → (j : ℕ) → j < lane + 1 → get_or lanes j 0 ≡ 0
one_more lanes {lane} each one j l =
    elim (cases_lt j lane) [ inl k ↦ each j k | inr g ↦ ap (λ k. get_or lanes k 0) (omega arith) ∙ one ]

pub returns-then-not-is_zero-clause-first : goal.returns-then-not-is_zero-clause-first
returns-then-not-is_zero-clause-first g c = λ zero.
    let lanes = g.T.ByteChunk.lanes c.args.lanes in
    let none = zero_kept c.requires.bytes (omega arith) c.first_kept.ensures c.bitand.ensures
    (one_more lanes c.loop-lane.invariant zero) in
    false≢true (sym c.if-not-is_zero.true ∙ c.is_zero.ensures.1 none)

pub loop-lane-preserved : goal.loop-lane-preserved
loop-lane-preserved g c =
    kept_zero c.requires.bytes (omega arith) c.first_kept.ensures c.bitand.ensures (c.is_zero.ensures.0 c.if-not-is_zero.false)

pub returns-clause-first : goal.returns-clause-first
returns-clause-first g c = λ zero.
    let lanes = g.T.ByteChunk.lanes c.args.lanes in
    let is : c.loop-lane.lane ≡ c.SIZE-last.result - 1 = omega arith in
    let all = one_more lanes c.loop-lane.invariant (ap (λ k. get_or lanes k 0) is ∙ zero) in
    c.requires.some (zero_lanes lanes c.requires.bytes.long (λ j l. all j (omega (arith, c.SIZE-last.ensures))))
