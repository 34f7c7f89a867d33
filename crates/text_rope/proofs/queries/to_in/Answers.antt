use Rattle.text_rope.proofs.lemmas.{◌≡◌, ◌+◌, ◌-◌, sym, arith, to_byte_idx, seam_loss, joined, to_byte_idx-le-size, to_byte_idx-zero, short_of, to_nil}
use Rattle.text_rope.proofs.queries.to_in.Goals as goal

pub returns-in_default-clause-answer : goal.returns-in_default-clause-answer
returns-in_default-clause-answer c = rw (← c.in_default.ensures) (sym (to_nil c.args.s c.args.k))

pub returns-then-k-eq0-clause-answer : goal.returns-then-k-eq0-clause-answer
returns-then-k-eq0-clause-answer c =
    rw c.if-k-eq0.true (sym (to_byte_idx-zero c.args.s (joined c.args.v.now.texts)))

pub step-step-requires : goal.step-step-requires
step-step-requires c =
    let place = c.place_of-place.ensures.place in
    let chunk = c.place_of-place.result.chunk.now in
    record {
      a = joined place.front;
      b = chunk;
      front_is = place.before_is;
      piece_is = c.summary-own.ensures.summary;
      some = c.summary-own.ensures.some;
      short = short_of c.in-Some.subtree.now.texts place.front chunk place.back place.parts c.summary-whole.ensures.short;
    }

pub overflow_add-result : goal.overflow_add-result
overflow_add-result c =
    let s = c.args.s in
    let place = c.place_of-place.ensures.place in
    let chunk = c.place_of-place.result.chunk.now in
    let before = c.place_of-place.result.before in
    let told = c.step-step.ensures (joined place.front) chunk place.before_is c.summary-own.ensures.summary c.summary-own.ensures.some in
    let reached : before.total - seam_loss s (joined place.front) chunk ≡ c.step-step.result.reached =
    omega (arith, place.before_is.total, told.reached) in
    let cs = joined c.in-Some.subtree.now.texts in
    let here : to_byte_idx s cs c.args.k ≡ before.len + to_byte_idx s chunk (c.args.k - c.step-step.result.reached) =
    rw reached at place.answer in
    omega (arith, here, (rw c.read-text.ensures.text at c.to_byte_idx.ensures), to_byte_idx-le-size s cs c.args.k, c.summary-whole.ensures.short)

pub returns-clause-answer : goal.returns-clause-answer
returns-clause-answer c =
    let s = c.args.s in
    let place = c.place_of-place.ensures.place in
    let chunk = c.place_of-place.result.chunk.now in
    let before = c.place_of-place.result.before in
    let told = c.step-step.ensures (joined place.front) chunk place.before_is c.summary-own.ensures.summary c.summary-own.ensures.some in
    let reached : before.total - seam_loss s (joined place.front) chunk ≡ c.step-step.result.reached =
    omega (arith, place.before_is.total, told.reached) in
    let here : to_byte_idx s (joined c.in-Some.subtree.now.texts) c.args.k ≡ before.len + to_byte_idx s chunk (c.args.k - c.step-step.result.reached) =
    rw reached at place.answer in
    rw (← c.in-Some.ensures) (omega (arith, here, (rw c.read-text.ensures.text at c.to_byte_idx.ensures)))
