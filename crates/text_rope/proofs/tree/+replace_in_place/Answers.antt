use Rattle.text_rope.proofs.lemmas.{Seen, ◌≡◌, ◌++◌, refl, ◌∙◌, sym, ap, arith, chars, length-append, Text, joined_size, joined_size-append, right_if, boundaries_left, boundaries_right, changed_in, subtree_changed}
use Rattle.std.proofs.lemmas.List.Elements.{All-append}
use Rattle.text_rope.specs.Leaves.{HasBytes}
use Rattle.text_rope.specs.Shifts.{IsOneChanged}
use Rattle.text_rope.specs.Views.{IsSubtree, IsBranch, seen}
use Rattle.text_rope.proofs.tree.+replace_in_place.Goals as goal
use Rattle.text_rope.proofs.tree.+replace_in_place.Goals.{Subtree::replace_in_place-in-Leaf+in-Some+in_ok-replace_in_place-in-Some, Subtree::replace_in_place-in-Branch+in-Some-get_mut+in_ok-replace_in_place-in-Some-get_mut}

pub Branch::replace_in_place-replace_in_place-requires : goal.Branch::replace_in_place-replace_in_place-requires
Branch::replace_in_place-replace_in_place-requires t c =
    let left = c.args.self.now.left.texts in
    let right = c.args.self.now.right.texts in
    let sizes = joined_size-append left right in
    let len = ap (λ s. s.len) c.summary.ensures.summary in
    let r = c.requires.1.1.1.1 in (
      grind (arith, length-append {A = Text}),
      (c.requires.1.1.0, (r.0, (omega (arith, len, c.if-to-middle.true), omega (arith, sizes, r.1.1)))),
    )

pub Branch::replace_in_place-replace_in_place-requires-then-middle-from : goal.Branch::replace_in_place-replace_in_place-requires-then-middle-from
Branch::replace_in_place-replace_in_place-requires-then-middle-from t c =
    let left = c.args.self.now.left.texts in
    let right = c.args.self.now.right.texts in
    let sizes = joined_size-append left right in
    let len = ap (λ s. s.len) c.summary.ensures.summary in
    let r = c.requires.1.1.1.1 in (
      grind (arith, length-append {A = Text}),
      (
        c.requires.1.1.0,
        (
          omega (arith, r.0, c.if-middle-from.true),
          (omega (arith, len, sizes, r.1.0, r.0, c.if-middle-from.true), omega (arith, sizes, r.1.1, c.if-middle-from.true)),
        ),
      ),
    )

pub Branch::replace_in_place-returns-then-to-middle-clause-not_boundary : goal.Branch::replace_in_place-returns-then-to-middle-clause-not_boundary
Branch::replace_in_place-returns-then-to-middle-clause-not_boundary t c refused both =
    let left = c.args.self.now.left.texts in
    let right = c.args.self.now.right.texts in
    let len = ap (λ s. s.len) c.summary.ensures.summary in
    c.replace_in_place.ensures.not_boundary refused
    (boundaries_left left right c.args.from c.args.to (omega (arith, len, c.if-to-middle.true)) c.requires.1.1.1.1.0 both)

pub Branch::replace_in_place-returns-then-to-middle-clause-each : goal.Branch::replace_in_place-returns-then-to-middle-clause-each
Branch::replace_in_place-returns-then-to-middle-clause-each t c =
    let left = c.replace_in_place.new.self.texts in
    let right = c.args.self.now.right.texts in
    All-append HasBytes left right c.replace_in_place.ensures.each c.summary-right.ensures.each

pub Branch::replace_in_place-returns-then-middle-from-clause-each : goal.Branch::replace_in_place-returns-then-middle-from-clause-each
Branch::replace_in_place-returns-then-middle-from-clause-each t c =
    let left = c.args.self.now.left.texts in
    let right = c.replace_in_place-then-middle-from.new.self.texts in
    All-append HasBytes left right c.summary.ensures.each c.replace_in_place-then-middle-from.ensures.each

pub Branch::replace_in_place-returns-else-middle-from-clause-each : goal.Branch::replace_in_place-returns-else-middle-from-clause-each
Branch::replace_in_place-returns-else-middle-from-clause-each t c =
    let left = c.args.self.now.left.texts in
    let right = c.args.self.now.right.texts in
    All-append HasBytes left right c.summary.ensures.each c.summary-right.ensures.each

pub Branch::replace_in_place-returns-then-middle-from-clause-changed : goal.Branch::replace_in_place-returns-then-middle-from-clause-changed
Branch::replace_in_place-returns-then-middle-from-clause-changed t c =
    let left = c.args.self.now.left.texts in
    let right = c.args.self.now.right.texts in
    let new = c.replace_in_place-then-middle-from.new.self.texts in
    let len = ap (λ s. s.len) c.summary.ensures.summary in
    right_if left right new c.summary.result.now.len c.args.from c.args.to (chars c.args.more.now)
    c.replace_in_place-then-middle-from.new.shift c.replace_in_place-then-middle-from.result len c.if-middle-from.true c.replace_in_place-then-middle-from.ensures.changed

pub Branch::replace_in_place-returns-then-middle-from-clause-not_boundary : goal.Branch::replace_in_place-returns-then-middle-from-clause-not_boundary
Branch::replace_in_place-returns-then-middle-from-clause-not_boundary t c refused both =
    let left = c.args.self.now.left.texts in
    let right = c.args.self.now.right.texts in
    let len = ap (λ s. s.len) c.summary.ensures.summary in
    c.replace_in_place-then-middle-from.ensures.not_boundary refused
    (boundaries_right left right c.summary.result.now.len c.args.from c.args.to len c.if-middle-from.true c.requires.1.1.1.1.0 both)

pub Subtree::replace_in_place-update_summary-requires : goal.Subtree::replace_in_place-update_summary-requires
Subtree::replace_in_place-update_summary-requires t c =
    let r = c.requires.1.1.1 in
    elim c.match-self.branch [
      | Subtree::replace_in_place-in-Leaf+in-Some+in_ok-replace_in_place-in-Some w ↦
          let old = w.in-Leaf.leaf.value in
          let new = w.replace_in_place.new.self in
          let subtree : IsSubtree (record { texts = old; height = 0 }) c.self.inside.summary = rw w.in-Leaf.is at c.self.invariant in
          let is : old ≡ c.args.self.now.texts = ap (λ n. (seen n).texts) (sym w.in-Leaf.is) ∙ ap (λ d. d.texts) c.self.view_is in
          let changed : IsOneChanged old new c.args.from c.args.to (chars c.args.more.now) w.replace_in_place.new.shift =
          rw w.in-Some.ensures.value at w.in_ok-replace_in_place-in-Some.ensures.changed in
          rw (w.self-inside-is, w.shift-is) (changed_in old new c.args.from c.args.to (chars c.args.more.now) w.replace_in_place.new.shift
          c.self.inside.summary changed r.0 subtree.summary_is subtree.short (omega (arith, ap joined_size is, r.1.1)))
      | Subtree::replace_in_place-in-Branch+in-Some-get_mut+in_ok-replace_in_place-in-Some-get_mut w ↦
          let branch = w.in-Branch.branch.value in
          let after = w.replace_in_place-in-Some-get_mut.new.self in
          let old = branch.left.texts ++ branch.right.texts in
          let new = after.left.texts ++ after.right.texts in
          let shift = w.replace_in_place-in-Some-get_mut.new.shift in
          let sound : IsSubtree (record { texts = old; height = branch.height }) c.self.inside.summary
          × IsBranch branch.left branch.right branch.height = rw w.in-Branch.is at c.self.invariant in
          let is : old ≡ c.args.self.now.texts = ap (λ n. (seen n).texts) (sym w.in-Branch.is) ∙ ap (λ d. d.texts) c.self.view_is in
          let changed : IsOneChanged old new c.args.from c.args.to (chars c.args.more.now) shift =
          rw w.in-Some-get_mut.ensures.value at w.in_ok-replace_in_place-in-Some-get_mut.ensures.changed in
          rw (w.self-inside-is, w.shift-is) (changed_in old new c.args.from c.args.to (chars c.args.more.now) shift
          c.self.inside.summary changed r.0 sound.0.summary_is sound.0.short (omega (arith, ap joined_size is, r.1.1)))
    ]

pub Subtree::replace_in_place-invariant_of-self-2 : goal.Subtree::replace_in_place-invariant_of-self-2
Subtree::replace_in_place-invariant_of-self-2 t c =
    let r = c.requires.1.1.1 in
    let told = c.update_summary.ensures in
    elim c.match-self.branch [
      | Subtree::replace_in_place-in-Leaf+in-Some+in_ok-replace_in_place-in-Some w ↦
          let old : Seen = record { texts = w.in-Leaf.leaf.value; height = 0 } in
          let new : Seen = record { texts = w.replace_in_place.new.self; height = 0 } in
          let subtree : IsSubtree old c.self.inside.summary = rw w.in-Leaf.is at c.self.invariant in
          let is : old.texts ≡ c.args.self.now.texts =
          ap (λ n. (seen n).texts) (sym w.in-Leaf.is) ∙ ap (λ d. d.texts) c.self.view_is in
          let changed : IsOneChanged old.texts new.texts c.args.from c.args.to (chars c.args.more.now) w.replace_in_place.new.shift =
          rw w.in-Some.ensures.value at w.in_ok-replace_in_place-in-Some.ensures.changed in
          rw w.self-inside-is (subtree_changed old new c.args.from c.args.to (chars c.args.more.now) w.replace_in_place.new.shift
          c.self.inside.summary c.update_summary.new.whole subtree changed r.0 refl (rw w.self-inside-is at told) (omega (arith, ap joined_size is, r.1.1))
          w.in_ok-replace_in_place-in-Some.ensures.each)
      | Subtree::replace_in_place-in-Branch+in-Some-get_mut+in_ok-replace_in_place-in-Some-get_mut w ↦
          let branch = w.in-Branch.branch.value in
          let after = w.replace_in_place-in-Some-get_mut.new.self in
          let shift = w.replace_in_place-in-Some-get_mut.new.shift in
          let ensured = w.in_ok-replace_in_place-in-Some-get_mut.ensures in
          let here = w.in-Some-get_mut.ensures.value in
          let old : Seen = record { texts = branch.left.texts ++ branch.right.texts; height = branch.height } in
          let new : Seen = record { texts = after.left.texts ++ after.right.texts; height = after.height } in
          let sound : IsSubtree old c.self.inside.summary × IsBranch branch.left branch.right branch.height = rw w.in-Branch.is at c.self.invariant in
          let is : old.texts ≡ c.args.self.now.texts =
          ap (λ n. (seen n).texts) (sym w.in-Branch.is) ∙ ap (λ d. d.texts) c.self.view_is in
          let changed : IsOneChanged old.texts new.texts c.args.from c.args.to (chars c.args.more.now) shift = rw here at ensured.changed in
          rw w.self-inside-is (
            subtree_changed old new c.args.from c.args.to (chars c.args.more.now) shift c.self.inside.summary c.update_summary.new.whole
                sound.0 changed r.0 (rw here at ensured.height) (rw w.self-inside-is at told) (omega (arith, ap joined_size is, r.1.1)) ensured.each,
            ensured.sound,
          )
    ]
