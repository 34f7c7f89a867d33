use Rattle.text_index.proofs.lemmas.{chars, ◌∙◌, arith, count-le-size, from_byte_idx-le-count, past_end, adds_up, from_here}
use Rattle.text_index.proofs.queries.from_in.Goals as goal

pub returns-then-whole-b-clause-answer : goal.returns-then-whole-b-clause-answer
returns-then-whole-b-clause-answer c =
    let whole = c.whole-whole.ensures in
    let all = past_end c.args.s c.args.m.now.text c.args.b c.whole-whole.result.now whole.mark whole.end c.if-whole-b.true in
    c.count.ensures ∙ all

pub from_byte_idx-requires : goal.from_byte_idx-requires
from_byte_idx-requires c =
    let stretch = c.stretch_round-stretch in
    let part = rw stretch.ensures.text at c.read-text.ensures.part in
    adds_up c.args.m.now.text (chars c.read-text.result.now) stretch.result stretch.ensures.round.is part

pub overflow_add-result : goal.overflow_add-result
overflow_add-result c =
    let text = c.args.m.now.text in
    let stretch = c.stretch_round-stretch in
    let part = rw stretch.ensures.text at c.read-text.ensures.part in
    let is = from_here c.args.s text (chars c.read-text.result.now) c.args.b stretch.result stretch.ensures.round part in
    let few = from_byte_idx-le-count c.args.s text c.args.b in
    let short = c.whole-whole.ensures.short in
    omega (arith, is, c.count-2.ensures, c.from_byte_idx.ensures, few, count-le-size c.args.s text, short)

pub returns-clause-answer : goal.returns-clause-answer
returns-clause-answer c =
    let text = c.args.m.now.text in
    let stretch = c.stretch_round-stretch in
    let part = rw stretch.ensures.text at c.read-text.ensures.part in
    let is = from_here c.args.s text (chars c.read-text.result.now) c.args.b stretch.result stretch.ensures.round part in
    omega (arith, is, c.count-2.ensures, c.from_byte_idx.ensures)
