use Rattle.text_index.proofs.lemmas.{◌-◌, chars, sym, ap, arith, to_byte_idx, to_byte_idx-zero, to_byte_idx-le-size, adds_up, to_here}
use Rattle.text_index.proofs.queries.to_in.Goals as goal

pub returns-then-k-eq0-clause-answer : goal.returns-then-k-eq0-clause-answer
returns-then-k-eq0-clause-answer c = rw c.if-k-eq0.true (sym (to_byte_idx-zero c.args.s c.args.m.now.text))

pub to_byte_idx-requires : goal.to_byte_idx-requires
to_byte_idx-requires c =
    let stretch = c.stretch_for-stretch in
    let part = rw stretch.ensures.text at c.read-text.ensures.part in
    adds_up c.args.m.now.text (chars c.read-text.result.now) stretch.result stretch.ensures.answers.is part

pub overflow_add-result : goal.overflow_add-result
overflow_add-result c =
    let text = c.args.m.now.text in
    let stretch = c.stretch_for-stretch in
    let own = chars c.read-text.result.now in
    let part = rw stretch.ensures.text at c.read-text.ensures.part in
    let is = to_here c.args.s text own c.args.k stretch.result stretch.ensures.answers part in
    let index = ap (λ n. to_byte_idx c.args.s own (c.args.k - n)) c.count.ensures in
    omega (arith, is, index, c.to_byte_idx.ensures, to_byte_idx-le-size c.args.s text c.args.k, stretch.ensures.short)

pub returns-clause-answer : goal.returns-clause-answer
returns-clause-answer c =
    let text = c.args.m.now.text in
    let stretch = c.stretch_for-stretch in
    let own = chars c.read-text.result.now in
    let part = rw stretch.ensures.text at c.read-text.ensures.part in
    let is = to_here c.args.s text own c.args.k stretch.result stretch.ensures.answers part in
    let index = ap (λ n. to_byte_idx c.args.s own (c.args.k - n)) c.count.ensures in
    omega (arith, is, index, c.to_byte_idx.ensures)
