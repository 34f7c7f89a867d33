use Rattle.std.specs.Prelude.{◌⊎◌, IsTrue}
use Rattle.text_rope.proofs.lemmas.{◌≡◌, ◌≢◌, ◌-◌, ◌<◌, ◌≤◌, ◌∙◌, ℕ, inl, inr, cases_lt, [], Text, ap, arith, length, size, takes_further, chars, joined, replaced_all, replaced_ends}
use Rattle.text_rope.specs.Work.{TakesLog}
use Rattle.text_rope.proofs.rope.Rope.replace_range.Goals as goal

-- not all goes out, and something is asked for
left_of : (n from to : ℕ) (text : Text) → ¬ ((text ≡ []) × (to - from ≡ n)) → to ≤ n → (from < to) ⊎ (text ≢ [])
    → (text ≢ []) ⊎ ((from < to) × (to - from < n))
left_of n from to text all within (inr some) = inl some
left_of n from to text all within (inl order) =
    elim (cases_lt (to - from) n) [
      | inl less ↦ inr (order, less)
      | inr not_less ↦ inl (λ none. all (none, omega (arith, not_less, within)))
    ]

pub returns-then-takes_all-clause-ok : goal.returns-then-takes_all-clause-ok
returns-then-takes_all-clause-ok c =
    let both = c.takes_all.ensures.0 c.if-takes_all.true in
    let all = replaced_all c.args.self.now c.args.from c.args.to (chars c.args.text.now) both.0 c.requires.order
    (omega (arith, c.if-len-to.false, c.len-len.ensures.len)) (omega (arith, both.1, c.len-len.ensures.len)) in
    rw c.of.ensures all

pub returns-then-text-gt-MAX_CHUNK-clause-no_memory : goal.returns-then-text-gt-MAX_CHUNK-clause-no_memory
returns-then-text-gt-MAX_CHUNK-clause-no_memory c refused =
    let n = size c.args.self.now in
    let all : ¬ ((chars c.args.text.now ≡ []) × (c.args.to - c.args.from ≡ n)) =
    λ both.
    let said : IsTrue c.takes_all.result = c.takes_all.ensures.1 (both.0, omega (arith, both.1, c.len-len.ensures.len)) in
    absurd cc in
    left_of n c.args.from c.args.to (chars c.args.text.now) all (omega (arith, c.if-len-to.false, c.len-len.ensures.len))
    (c.replace_range_beside.ensures.no_memory refused)

pub returns-in-Err-NoRoom-clause-no_memory : goal.returns-in-Err-NoRoom-clause-no_memory
returns-in-Err-NoRoom-clause-no_memory c refused =
    let n = size c.args.self.now in
    let all : ¬ ((chars c.args.text.now ≡ []) × (c.args.to - c.args.from ≡ n)) =
    λ both.
    let said : IsTrue c.takes_all.result = c.takes_all.ensures.1 (both.0, omega (arith, both.1, c.len-len.ensures.len)) in
    absurd cc in
    left_of n c.args.from c.args.to (chars c.args.text.now) all (omega (arith, c.if-len-to.false, c.len-len.ensures.len))
    (c.replace_range_beside-in-Err-NoRoom.ensures.no_memory refused)

pub returns-in-Ok-clause-not_boundary : goal.returns-in-Ok-clause-not_boundary
returns-in-Ok-clause-not_boundary c =
    let ends = replaced_ends c.args.self.now (joined c.replace_in_place.new.self) c.args.from c.args.to (chars c.args.text.now) (rw c.self.view_is at c.in-Ok.ensures.ok) in
    (λ is. absurd cc, λ no. absurd (no ends))

pub returns-in-Err-NoRoom-clause-work : goal.returns-in-Err-NoRoom-clause-work
returns-in-Err-NoRoom-clause-work c =
    let more = length c.args.text.now in
    let n = size c.args.self.now in
    let middle = c.replace_in_place.new.work in
    let new = c.replace_range_beside-in-Err-NoRoom.new.work in
    let first : TakesLog 1 1 n 0 c.args.work.now middle = rw c.self.view_is at c.replace_in_place.ensures.work in
    let same = ap joined c.in-Err-NoRoom.ensures.err ∙ c.self.view_is in
    let then : TakesLog 53 240 n more middle new = rw same at c.replace_range_beside-in-Err-NoRoom.ensures.work in
    takes_further n more c.args.work.now middle new first then
