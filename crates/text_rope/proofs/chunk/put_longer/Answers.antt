use Rattle.text_rope.proofs.lemmas.{◌≡◌, ◌++◌, take, drop, ◌∙◌, arith, append_assoc, string_bytes, IsUtf8, IsCharBoundary-from_boundary, replaced_bytes}
use Rattle.text_rope.proofs.chunk.put_longer.Goals as goal

pub insert_str-requires : goal.insert_str-requires
insert_str-requires c =
    let utf8 : IsUtf8 (string_bytes c.args.text.now) = rw c.as_str-before.ensures.value at c.as_str-before.utf8 in
    let place = IsCharBoundary-from_boundary (string_bytes c.args.text.now) utf8 c.args.at c.requires.boundary in
    (place.0, λ above inside wide. place.1 inside wide)

pub returns-clause-text : goal.returns-clause-text
returns-clause-text c =
    let bytes = string_bytes c.args.text.now in
    let more = c.args.more.now in
    let at = c.args.at in
    let utf8 : IsUtf8 bytes = rw c.as_str-before.ensures.value at c.as_str-before.utf8 in
    let is : string_bytes c.insert_str.new.self ≡ take at bytes ++ (more ++ drop at bytes) =
    c.in-Ok.ensures.bytes ∙ append_assoc (take at bytes) more (drop at bytes) in
    replaced_bytes bytes more (string_bytes c.insert_str.new.self) utf8 c.utf8.more at at (omega arith)
    c.requires.boundary c.requires.boundary is
