use Rattle.std.proofs.Common.{arith, chars}
use Rattle.str_indices.proofs.lemmas.Callers.{count-le-size}
use Rattle.str_indices.specs.declared.Scheme.TheVariants.{Lf}
use Rattle.text_rope.proofs.lemmas.Callers.{count-inserted}
use Rattle.rope_tests.proofs.ropes.counted_changes.insert_counted.Goals as goal

pub overflow_add-result : goal.overflow_add-result
overflow_add-result c =
    let law = count-inserted Lf c.args.rope.now c.insert.new.self c.args.at (chars c.args.text.now) c.in_ok-insert.ensures.ok in
    omega (arith, law, c.requires, c.count_breaks.ensures, count-le-size Lf c.insert.new.self, c.len-short.ensures.short)

pub returns : goal.returns
returns c =
    let law = count-inserted Lf c.args.rope.now c.insert.new.self c.args.at (chars c.args.text.now) c.in_ok-insert.ensures.ok in
    omega (arith, law, c.requires, c.count_breaks.ensures)
