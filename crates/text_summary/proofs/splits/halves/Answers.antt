use Rattle.text_summary.proofs.lemmas.{◌∙◌, sym, ap, take, drop, chars, take-append-drop, chars-append, length-take-le, size-chars, IsUtf8-take, IsCharBoundary-from_boundary}
use Rattle.text_summary.proofs.splits.halves.Goals as goal

pub split_at-requires : goal.split_at-requires
split_at-requires c = IsCharBoundary-from_boundary c.args.text.now c.utf8.text c.args.at c.requires

pub returns-clause-parts : goal.returns-clause-parts
returns-clause-parts c =
    let bytes = c.args.text.now in
    let at = c.args.at in
    let char = IsCharBoundary-from_boundary bytes c.utf8.text at c.requires in
    rw (c.split_at.ensures.front, c.split_at.ensures.back) (ap chars (sym (take-append-drop at bytes))
    ∙ chars-append (take at bytes) (drop at bytes) (IsUtf8-take bytes at c.utf8.text char))

pub returns-clause-place : goal.returns-clause-place
returns-clause-place c =
    let bytes = c.args.text.now in
    let at = c.args.at in
    let char = IsCharBoundary-from_boundary bytes c.utf8.text at c.requires in
    rw c.split_at.ensures.front (size-chars (take at bytes) (IsUtf8-take bytes at c.utf8.text char) ∙ length-take-le at bytes char.0)
