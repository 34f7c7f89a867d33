use Rattle.text_rope.proofs.lemmas.{◌∙◌, ap, chars-nil, joined, size, takes_further}
use Rattle.text_rope.specs.Work.{TakesLog}
use Rattle.text_rope.proofs.rope.Rope.take_end.Goals as goal

pub returns-in-Ok-clause-ok : goal.returns-in-Ok-clause-ok
returns-in-Ok-clause-ok c = rw (c.self.view_is, c.len-len.ensures.len, chars-nil) at c.in-Ok.ensures.ok

pub returns-in_ok-rewrite-in-Err-clause-ok : goal.returns-in_ok-rewrite-in-Err-clause-ok
returns-in_ok-rewrite-in-Err-clause-ok c =
    let same = ap joined c.in-Err.ensures.err ∙ c.self.view_is in
    rw (same, c.len-len.ensures.len, chars-nil) at c.in_ok-rewrite-in-Err.ensures.replaced

pub returns-in_ok-rewrite-in-Err-clause-work : goal.returns-in_ok-rewrite-in-Err-clause-work
returns-in_ok-rewrite-in-Err-clause-work c =
    let n = size c.args.self.now in
    let first : TakesLog 1 1 n 0 c.args.work.now c.replace_in_place.new.work = rw c.self.view_is at c.replace_in_place.ensures.work in
    let same = ap joined c.in-Err.ensures.err ∙ c.self.view_is in
    let then : TakesLog 53 240 n 0 c.replace_in_place.new.work c.rewrite.new.work = rw same at c.rewrite.ensures.work in
    takes_further n 0 c.args.work.now c.replace_in_place.new.work c.rewrite.new.work first then

pub returns-in_err-rewrite-in-Err-clause-work : goal.returns-in_err-rewrite-in-Err-clause-work
returns-in_err-rewrite-in-Err-clause-work c =
    let n = size c.args.self.now in
    let first : TakesLog 1 1 n 0 c.args.work.now c.replace_in_place.new.work = rw c.self.view_is at c.replace_in_place.ensures.work in
    let same = ap joined c.in-Err.ensures.err ∙ c.self.view_is in
    let then : TakesLog 53 240 n 0 c.replace_in_place.new.work c.rewrite.new.work = rw same at c.rewrite.ensures.work in
    takes_further n 0 c.args.work.now c.replace_in_place.new.work c.rewrite.new.work first then
