use Rattle.std.specs.Prelude.{All}
use Rattle.std.proofs.lemmas.Str.{chars-IsAscii}
use Rattle.std.proofs.lemmas.Str.Ascii.{IsAscii-from_all}
use Rattle.positions.specs.Plain.{IsPlain}
use Rattle.positions.proofs.lemmas.{◌≡◌, ◌∙◌, ◌++◌, ap, sym, chars, chars-append, size, size-chars, take, drop, take-append-drop, length-take-le, IsUtf8-take, IsCharBoundary}
use Rattle.positions.proofs.plain.begins_plain.Goals as goal

pub returns-then-is_char_boundary : goal.returns-then-is_char_boundary
returns-then-is_char_boundary c = λ is.
    let bytes = c.args.text.now in
    let n = c.args.bytes in
    let front = take n bytes in
    let edge : IsCharBoundary bytes n = c.is_char_boundary.ensures.test.0 c.if-is_char_boundary.true in
    let first = IsUtf8-take bytes n c.utf8.text edge in
    let parts : chars bytes ≡ chars front ++ chars (drop n bytes) =
    rw take-append-drop at (chars-append front (drop n bytes) first) in
    let plain : All IsPlain front = rw c.as_bytes.ensures.value at (c.is_plain.ensures.0 is) in
    let same = chars-IsAscii front (IsAscii-from_all front (λ k d within. (plain k d within).0)) in
    record {
      front = front;
      back = chars (drop n bytes);
      split = parts ∙ ap (λ f. f ++ chars (drop n bytes)) same;
      place = ap size (sym same) ∙ size-chars front first ∙ length-take-le n bytes edge.0;
      plain = plain;
    }
