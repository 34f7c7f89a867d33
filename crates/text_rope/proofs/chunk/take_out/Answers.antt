use Rattle.text_rope.proofs.lemmas.{◌≡◌, ◌++◌, take, drop, ◌∙◌, append_assoc, string_bytes, IsUtf8, IsReplaced, chars, chars-nil, IsUtf8-nil, arith, [], IsCharBoundary-from_boundary, replaced_bytes}
use Rattle.text_rope.proofs.chunk.take_out.Goals as goal

pub replace_range-requires-clause-in_bounds : goal.replace_range-requires-clause-in_bounds
replace_range-requires-clause-in_bounds c =
    let bytes = string_bytes c.args.text.now in
    let utf8 : IsUtf8 bytes = rw c.as_str-before.ensures.value at c.as_str-before.utf8 in
    let place = IsCharBoundary-from_boundary bytes utf8 c.args.to c.requires.end in
    omega (arith, place.0, c.args.text.now.bytes.ok)

pub replace_range-requires-clause-start_boundary : goal.replace_range-requires-clause-start_boundary
replace_range-requires-clause-start_boundary c =
    let utf8 : IsUtf8 (string_bytes c.args.text.now) = rw c.as_str-before.ensures.value at c.as_str-before.utf8 in
    let place = IsCharBoundary-from_boundary (string_bytes c.args.text.now) utf8 c.args.from c.requires.start in
    (place.0, λ above inside wide. place.1 inside wide)

pub replace_range-requires-clause-end_boundary : goal.replace_range-requires-clause-end_boundary
replace_range-requires-clause-end_boundary c =
    let utf8 : IsUtf8 (string_bytes c.args.text.now) = rw c.as_str-before.ensures.value at c.as_str-before.utf8 in
    let place = IsCharBoundary-from_boundary (string_bytes c.args.text.now) utf8 c.args.to c.requires.end in
    (place.0, λ above inside wide. place.1 inside wide)

pub returns-clause-text : goal.returns-clause-text
returns-clause-text c =
    let bytes = string_bytes c.args.text.now in
    let new = string_bytes c.replace_range.new.self in
    let utf8 : IsUtf8 bytes = rw c.as_str-before.ensures.value at c.as_str-before.utf8 in
    let front = take c.args.from bytes in
    let back = drop c.args.to bytes in
    let is : new ≡ front ++ ([] ++ back) = c.in-Ok.ensures.bytes ∙ append_assoc front [] back in
    let out : IsReplaced (chars bytes) (chars new) c.args.from c.args.to (chars []) =
    replaced_bytes bytes [] new utf8 IsUtf8-nil c.args.from c.args.to c.requires.order c.requires.start c.requires.end is in
    rw chars-nil at out
