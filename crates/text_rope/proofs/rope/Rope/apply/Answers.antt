use Rattle.std.proofs.Common.{◌∙◌, sym, chars}
use Rattle.text_rope.proofs.lemmas.{on_ok, whole_changed}
use Rattle.text_rope.proofs.rope.Rope.apply.Goals as goal

pub returns-clause-whole : goal.returns-clause-whole
returns-clause-whole c =
    let change = c.args.change in
    on_ok c.replace.result c.replace.ensures.ok (whole_changed c.args.encoding c.args.self.now c.replace.new.self
    (chars change.text.now) change.range c.in-Some.part (sym c.in-Some.is ∙ c.byte_range_of.ensures.part))
