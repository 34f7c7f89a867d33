use Rattle.std.proofs.lemmas.Bool.{eqb-false}
use Rattle.std.proofs.lemmas.List.Elements.{All-nil, All-push}
use Rattle.text_rope.proofs.lemmas.{◌∙◌, [], arith, ap, sym, length, chars, string_bytes, size-chars, some_of, IsLongEnough}
use Rattle.text_rope.proofs.loads.chunks_in.Goals as goal

pub from_string-requires-clause-some : goal.from_string-requires-clause-some
from_string-requires-clause-some c =
    let bytes = string_bytes c.args.text in
    let utf8 = rw c.as_str-whole.ensures.value at c.as_str-whole.utf8 in
    some_of (chars bytes) (λ none.
    eqb-false (length c.as_str-whole.result.now) 0 (sym c.is_empty.ensures ∙ c.if-is_empty.false)
    (omega (arith, none, size-chars bytes utf8, ap length c.as_str-whole.ensures.value)))

pub from_string-requires-clause-short : goal.from_string-requires-clause-short
from_string-requires-clause-short c =
    let bytes = string_bytes c.args.text in
    let utf8 = rw c.as_str-whole.ensures.value at c.as_str-whole.utf8 in
    omega (arith, size-chars bytes utf8, ap length c.as_str-whole.ensures.value, c.if-whole-gt-MAX_CHUNK.false)

pub returns-clause-full : goal.returns-clause-full
returns-clause-full c long =
    let bytes = string_bytes c.args.text in
    let utf8 = rw c.as_str-whole.ensures.value at c.as_str-whole.utf8 in
    let chunk = c.in_ok-from_string.field-0 in
    let full : IsLongEnough chunk = rw c.in_ok-from_string.ensures (omega (arith, long, size-chars bytes utf8)) in
    rw (c.in_ok-push.ensures.items, c.in_ok-only.ensures.items) (All-push IsLongEnough [] chunk (All-nil IsLongEnough) full)
