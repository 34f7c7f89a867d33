use Rattle.text_rope.proofs.lemmas.{arith, joined, count-le-size, from_byte_idx-all, from_byte_idx-le-count, short_of, answer_at, count_of-summary, ap, ◌∙◌, sym, count_of, from_nil}
use Rattle.text_rope.proofs.queries.from_in.Goals as goal

pub returns-in_default-clause-answer : goal.returns-in_default-clause-answer
returns-in_default-clause-answer c = rw (← c.in_default.ensures) (sym (from_nil c.args.s c.args.b))

pub returns-then-whole-b-clause-answer : goal.returns-then-whole-b-clause-answer
returns-then-whole-b-clause-answer c =
    let cs = joined c.in-Some.subtree.now.texts in
    let whole = c.summary-whole.ensures.summary in
    let past = from_byte_idx-all c.args.s cs c.args.b (omega (arith, c.if-whole-b.true, ap (λ w. w.len) whole)) in
    rw (← c.in-Some.ensures) (c.count.ensures ∙ ap (λ w. count_of w c.args.s) whole ∙ count_of-summary c.args.s cs ∙ sym past)

pub step-step-requires : goal.step-step-requires
step-step-requires c =
    let place = c.place_at-place.ensures.place in
    let chunk = c.place_at-place.result.chunk.now in
    record {
      a = joined place.front;
      b = chunk;
      front_is = place.before_is;
      piece_is = c.summary-own.ensures.summary;
      some = c.summary-own.ensures.some;
      short = short_of c.in-Some.subtree.now.texts place.front chunk place.back place.parts c.summary-whole.ensures.short;
    }

pub overflow_add-result : goal.overflow_add-result
overflow_add-result c =
    let s = c.args.s in
    let place = c.place_at-place.ensures.place in
    let chunk = c.place_at-place.result.chunk.now in
    let told = c.step-step.ensures (joined place.front) chunk place.before_is c.summary-own.ensures.summary c.summary-own.ensures.some in
    let here = answer_at c.step-step.result place c.summary-own.ensures.some told in
    let cs = joined c.in-Some.subtree.now.texts in
    omega (
      arith,
      here,
      (rw c.read-text.ensures.text at c.from_byte_idx.ensures),
      from_byte_idx-le-count s cs c.args.b,
      count-le-size s cs,
      c.summary-whole.ensures.short,
    )

pub returns-clause-answer : goal.returns-clause-answer
returns-clause-answer c =
    let place = c.place_at-place.ensures.place in
    let chunk = c.place_at-place.result.chunk.now in
    let told = c.step-step.ensures (joined place.front) chunk place.before_is c.summary-own.ensures.summary c.summary-own.ensures.some in
    let here = answer_at c.step-step.result place c.summary-own.ensures.some told in
    rw (← c.in-Some.ensures) (omega (arith, here, (rw c.read-text.ensures.text at c.from_byte_idx.ensures)))
