use Rattle.text_rope.proofs.lemmas.{◌≡◌, ◌∷◌, length-append, ◌++◌, ◌∙◌, [], rules, arith, append_assoc, joined-append, sym, ap, append-nil, eqb-true, length, chars, chars-none, joined, inl, inr, cases_lt, ◌<◌, ◌≤◌, min_chunk, IsLongEnough}
use Rattle.std.proofs.lemmas.List.Elements.{All-push}
use Rattle.text_rope.proofs.loads.chunks_of.Goals as goal

pub loop-rest-preserved : goal.loop-rest-preserved
loop-rest-preserved c =
    let chunks = c.loop-rest.chunks.items in
    let own = chars c.first_chunk.result.0.now in
    let after = chars c.first_chunk.result.1.now in
    let chunk = c.in_ok-of.field-0 in
    let more : joined c.push.new.self.items ≡ joined chunks ++ own =
    ap joined c.in_ok-push.ensures.items ∙ joined-append chunks (chunk ∷ [])
    ∙ ap (λ r. joined chunks ++ r) (append-nil chunk ∙ c.in_ok-of.ensures) in
    let len = ap length c.in_ok-push.ensures.items ∙ length-append c.loop-rest.chunks.items (chunk ∷ []) in
    let some : 0 < length c.loop-rest.rest.now = omega (arith, c.first_chunk.ensures.less) in
    let before = c.loop-rest.invariant.before_last some in
    let sizes = c.first_chunk.ensures.len in
    let own_full : min_chunk ≤ length c.args.text.now → IsLongEnough chunk =
    λ long. elim (cases_lt 0 (length c.first_chunk.result.1.now)) [
      | inl left ↦ rw c.in_ok-of.ensures (c.first_chunk.ensures.enough left)
      | inr last ↦ rw c.in_ok-of.ensures (omega (arith, sizes, last, c.loop-rest.invariant.enough some long))
    ] in
    record {
      utf8 = search rules;
      parts = c.loop-rest.invariant.parts ∙ ap (λ r. joined chunks ++ r) c.first_chunk.ensures.parts
          ∙ sym (append_assoc (joined chunks) own after) ∙ ap (λ r. r ++ after) (sym more);
      short = omega (arith, c.first_chunk.ensures.less, c.loop-rest.invariant.short);
      few = omega (arith, len, before, c.first_chunk.ensures.less);
      before_last = λ some. omega (arith, len, before, c.first_chunk.ensures.enough some, sizes);
      full = λ long. rw c.in_ok-push.ensures.items (All-push IsLongEnough c.loop-rest.chunks.items chunk (c.loop-rest.invariant.full long)
          (own_full long));
      enough = λ some long. c.first_chunk.ensures.rest some;
      one = λ short. omega (arith, len, c.loop-rest.invariant.none short some);
      none = λ short left. absurd (omega (arith, left, c.first_chunk.ensures.whole (omega (arith, short, c.loop-rest.invariant.less))));
      less = omega (arith, c.first_chunk.ensures.less, c.loop-rest.invariant.less);
      empty = λ nothing. absurd (omega (arith, nothing, some, c.loop-rest.invariant.less));
    }

pub returns-clause-text : goal.returns-clause-text
returns-clause-text c =
    let none = eqb-true (length c.loop-rest.rest.now) 0 (sym c.is_empty.ensures ∙ c.loop-rest-test.false) in
    let chunks = joined c.loop-rest.chunks.items in
    sym (c.loop-rest.invariant.parts ∙ ap (λ t. chunks ++ t) (chars-none c.loop-rest.rest.now none) ∙ append-nil chunks)
