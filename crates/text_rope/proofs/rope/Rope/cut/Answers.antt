use Rattle.text_rope.proofs.lemmas.{size, chars-nil, takes_twice, ◌∙◌, refl, ap, joined, cut_of}
use Rattle.text_rope.proofs.rope.Rope.cut.Goals as goal

pub returns-clause-parts : goal.returns-clause-parts
returns-clause-parts c =
    let copy_is = ap joined c.in_ok-share.ensures.ok ∙ c.self.view_is in
    let parts = cut_of c.args.self.now (joined c.in_ok-share.field-0) c.take_end.new.self c.rewrite.new.self c.args.at
    (size c.args.self.now) copy_is refl c.in_ok-take_end.ensures.ok (rw chars-nil at c.in_ok-rewrite.ensures.replaced) in
    parts

pub returns-clause-work : goal.returns-clause-work
returns-clause-work c =
    let copy_is = ap joined c.in_ok-share.ensures.ok ∙ c.self.view_is in
    takes_twice (size c.args.self.now) c.args.work.now c.rewrite.new.work c.take_end.new.work
    (rw copy_is at c.rewrite.ensures.work) c.take_end.ensures.work

pub returns-in_err-take_end-clause-work : goal.returns-in_err-take_end-clause-work
returns-in_err-take_end-clause-work c =
    let copy_is = ap joined c.in_ok-share.ensures.ok ∙ c.self.view_is in
    takes_twice (size c.args.self.now) c.args.work.now c.rewrite.new.work c.take_end.new.work
    (rw copy_is at c.rewrite.ensures.work) c.take_end.ensures.work
