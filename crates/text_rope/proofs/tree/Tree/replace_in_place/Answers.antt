use Rattle.text_rope.proofs.lemmas.{◌≡◌, ◌∙◌, length, arith, ap, sym, chars, size-chars, joined_size, replaced_if, takes_log, filled_if, min_chunk, IsFilled}
use Rattle.std.specs.Prelude.{◌⊎◌}
use Rattle.text_rope.specs.States.{texts_of}
use Rattle.text_rope.proofs.tree.Tree.replace_in_place.Goals as goal

pub replace_in_place-requires-clause-short : goal.replace_in_place-requires-clause-short
replace_in_place-requires-clause-short c =
    let is : c.in-Some.subtree.texts ≡ c.args.self.now = ap texts_of (sym c.in-Some.is) ∙ c.self.view_is in
    omega (arith, size-chars c.args.more.now c.utf8.more, ap joined_size is, c.requires.short)

pub returns-clause-ok : goal.returns-clause-ok
returns-clause-ok c =
    let old = c.in-Some.subtree.texts in
    let is : old ≡ c.args.self.now = ap texts_of (sym c.in-Some.is) ∙ c.self.view_is in
    let shift = c.replace_in_place.new.shift in
    rw (sym is) (replaced_if old c.replace_in_place.new.self.texts c.args.from c.args.to (chars c.args.more.now) shift
    c.replace_in_place.result c.replace_in_place.ensures.changed c.requires.order)

pub invariant_of-self-2 : goal.invariant_of-self-2
invariant_of-self-2 c =
    let old = c.in-Some.subtree.texts in
    let new = c.replace_in_place.new.self.texts in
    let is : old ≡ c.args.self.now = ap texts_of (sym c.in-Some.is) ∙ c.self.view_is in
    let filled : IsFilled old = rw c.in-Some.is at c.self.invariant in
    let least : (c.least-least.result ≡ min_chunk) ⊎ (length old ≡ 1) = rw is c.least-least.ensures.full in
    filled_if old new c.args.from c.args.to c.least-least.result (chars c.args.more.now) c.replace_in_place.new.shift
    c.replace_in_place.result filled c.replace_in_place.ensures.changed least c.replace_in_place.ensures.full c.replace_in_place.ensures.err

pub returns-clause-work : goal.returns-clause-work
returns-clause-work c =
    let subtree = c.in-Some.subtree in
    let is : subtree.texts ≡ c.args.self.now = ap texts_of (sym c.in-Some.is) ∙ c.self.view_is in
    takes_log subtree.height (length subtree.texts) (joined_size c.args.self.now) 1 1 0 c.args.work.now c.replace_in_place.new.work
    c.height-height.ensures.many (omega (arith, ap joined_size is, c.summary-short.ensures.few)) (record {
      nodes_at_most = omega (arith, c.replace_in_place.ensures.work.nodes_at_most);
      chunks_at_most = omega (arith, c.replace_in_place.ensures.work.chunks_at_most);
      nodes_kept = c.replace_in_place.ensures.work.nodes_kept;
      chunks_kept = c.replace_in_place.ensures.work.chunks_kept;
    })
