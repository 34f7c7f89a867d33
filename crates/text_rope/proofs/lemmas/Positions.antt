-- What positions ask of a rope.
use Rattle.std.specs.declared.ops.Range as bytes
use Rattle.std.specs.Prelude.{min, OnOk, IfNone, IsTrue, Option, Result}
use Rattle.std.proofs.Common.{pow-add, Ok, Err, Some, None, append-nil, subst, sym}
use Rattle.std.proofs.Math.Nat.{pow-zero}
use Rattle.positions.specs.declared.encodings.Encoding.{Encoding}
use Rattle.positions.proofs.lemmas.Callers.{lines_before, reached_by, none_taken, taken_within, byte_range_in_order, IsBoundary-byte_at}
use Rattle.positions.specs.Lines.{scheme_of}
use Rattle.positions.specs.Parts.{HasByte, HasLine, IsPart, Searched}
use Rattle.positions.specs.declared.line_type.LineType.{LineType}
use Rattle.positions.specs.declared.parts.Part.{Part}
use Rattle.text_rope.proofs.lemmas.Common.{◌≡◌, ◌≢◌, ℕ, ◌+◌, ◌-◌, ◌*◌, ◌^◌, ◌<◌, ◌≤◌, List, [], ◌++◌, length, refl, ap, ◌∙◌, inl, inr, arith, cases_lt, chars, Text, size, size-append, from_byte_idx, to_byte_idx-le-size, seam_loss, joined, Front, Scheme}
use Rattle.text_rope.proofs.lemmas.Costs.{power_one}
use Rattle.text_rope.proofs.lemmas.Places.{text_of_place}
use Rattle.text_rope.specs.Looks.{Asks}
use Rattle.text_rope.specs.Parts.{parts_of}
use Rattle.text_rope.specs.Places.{IsPlaceAt, IsPlaceOf}
use Rattle.text_rope.specs.States.{RopeState}
use Rattle.str_indices.specs.Relations.{IsBoundary}
use Rattle.text_summary.proofs.lemmas.Callers.{none_of}
use Rattle.positions.specs.Positions.{byte_at, exact_byte_at, is_at_or_before, is_exact}
use Rattle.positions.specs.declared.Position.{Position}
use Rattle.std.proofs.lemmas.Bool.{cases_Bool}
use Rattle.positions.specs.declared.Range.{Range}
use Rattle.text_summary.specs.Changes.{IsReplaced}
use Rattle.text_rope.specs.Ranges.{exact_part_at, part_at}
use Rattle.positions.specs.declared.line_type.LineType.TheVariants.{Crlf}

-- ---- a chunk as the part in which they are searched, and what the searches cost

-- a byte is in its chunk, and one past the end in the last
pub chunk_has_byte : {s : Scheme} {texts : List Text} {chunk : Text} {before : Front} {at : ℕ} (byte : ℕ) (part : Part)
    (place : IsPlaceAt s [] texts chunk before at) → at ≡ min byte (size (joined texts) - 1) → chars part.text.now ≡ chunk
    → part.start ≡ before.len → HasByte (joined texts) byte part
chunk_has_byte {texts = texts} {chunk = chunk} byte part place at_is text start =
    let a = joined place.front in
    let back = joined place.back in
    let sizes = ap size (text_of_place texts place.front chunk place.back place.parts) ∙ size-append a (chunk ++ back) in
    record {
      after = omega (arith, place.after, at_is, start);
      before = elim (cases_lt byte (size (joined texts))) [
        | inl within ↦ inl (omega (arith, within, at_is, place.inside, start, ap size text))
        | inr past ↦ inr (omega (
          arith,
          past,
          at_is,
          place.inside,
          place.before_is.len,
          start,
          ap size text,
          sizes,
          size-append chunk back,
        ))
      ];
    }

-- the chunk of a line has the place where it begins
pub chunk_has_line : (l : LineType) (e : Encoding) (texts : List Text) (chunk : Text) (before : Front) (line : ℕ) (part : Part)
    → IsPart (joined texts) l e part → IsPlaceOf (scheme_of l) [] texts chunk before line → chunk ≢ [] → chars part.text.now ≡ chunk
    → part.start ≡ before.len → HasLine (joined texts) l line part
chunk_has_line l e texts chunk before line part is place some text start =
    let a = joined place.front in
    let back = joined place.back in
    let s = scheme_of l in
    let reached = before.total - seam_loss s a chunk in
    let sizes = ap size (text_of_place texts place.front chunk place.back place.parts) ∙ size-append a (chunk ++ back) in
    let counted : reached ≡ from_byte_idx s (joined texts) before.len =
    lines_before l (joined texts) a chunk back before (text_of_place texts place.front chunk place.back place.parts) place.before_is some in
    let past : reached < line = place.past in
    record {
      after = inl (omega (arith, is.lines, ap (from_byte_idx s (joined texts)) start, counted, past));
      before = reached_by l (joined texts) line (part.start + size (chars part.text.now)) (omega (
        arith,
        place.answer,
        to_byte_idx-le-size s chunk (line - reached),
        start,
        ap size text,
      )) (omega (arith, sizes, size-append chunk back, place.before_is.len, start, ap size text));
    }

-- the first chunk has line 0
pub first_has_line : (l : LineType) (texts : List Text) (part : Part) → part.start ≡ 0 → HasLine (joined texts) l 0 part
first_has_line l texts part start = record { after = inr start; before = inl (omega arith) }

-- what a search by a count took
pub took_count : {old new : RopeState} → new.texts ≡ old.texts
    → 2 ^ (new.looks - old.looks) ≤ (length old.texts + 1) * (length old.texts + 1) → old.looks ≤ new.looks
    → new.reads ≤ old.reads + 1 → old.reads ≤ new.reads → Searched 0 1 (parts_of old) (parts_of new)
took_count {old} {new} texts looks kept reads reads_kept =
    let m = (length old.texts + 1) * (length old.texts + 1) in
    record {
      text = ap joined texts;
      pieces = texts;
      latest_start = refl;
      byte_choices = ap (λ t. (length t + 1) * (length t + 1)) texts;
      count_choices = ap (λ t. (length t + 1) * (length t + 1)) texts;
      unit_searches = refl;
      looks = omega (arith, looks, power_one m, ap (λ n. n * (m ^ 1)) (pow-zero m));
      looks_kept = kept;
      reads = omega (arith, reads);
      reads_kept = reads_kept;
    }

-- no search is one at most
pub took_none : (state : RopeState) {b c : ℕ} → Searched b c (parts_of state) (parts_of state)
took_none state = taken_within (record { byte_choices = omega arith; count_choices = omega arith }) (omega arith) (omega arith)
    (none_taken (parts_of state))

-- what searches took, as questions
pub asks : {b c : ℕ} {old new : RopeState} → Searched b c (parts_of old) (parts_of new) → Asks (b + c) old new
asks {b} {c} {old} {new} took =
    let m = (length old.texts + 1) * (length old.texts + 1) in
    record {
      texts = took.pieces;
      looks = rw (pow-add m b c) took.looks;
      looks_kept = took.looks_kept;
      reads = omega (arith, took.reads);
      reads_kept = took.reads_kept;
    }

-- ---- a change of the whole text, and of a range whose positions name places

-- where all of a text is exchanged for another, that is all
all_replaced : (old new text : Text) → IsReplaced old new 0 (size old) text → new ≡ text
all_replaced old new text is =
    let sizes = ap size is.was ∙ size-append is.front (is.middle ++ is.back) in
    let front = none_of is.front is.start in
    let back = none_of is.back (omega (arith, sizes, size-append is.middle is.back, is.end)) in
    is.is ∙ ap (λ f. f ++ (text ++ is.back)) front ∙ ap (λ b. text ++ b) back ∙ append-nil text

-- so it is after a change without a range
pub whole_changed : (e : Encoding) (old new text : Text) (range : Option Range) (part : bytes.Range ℕ)
    → Some part ≡ part_at e old range → IsReplaced old new part.start part.end text → IfNone range (new ≡ text)
whole_changed e old new text (Some range) part is replaced = tt
whole_changed e old new text None part is replaced =
    let whole : part ≡ record { start = 0; end = size old } = cc in
    all_replaced old new text (rw whole at replaced)

pub whole_exactly_changed : (e : Encoding) (old new text : Text) (range : Option Range) (part : bytes.Range ℕ)
    → Some part ≡ exact_part_at e old range → IsReplaced old new part.start part.end text → IfNone range (new ≡ text)
whole_exactly_changed e old new text (Some range) part is replaced = tt
whole_exactly_changed e old new text None part is replaced = whole_changed e old new text None part is replaced

-- the byte of a position that names a place is that of the position
pub exact_byte : (e : Encoding) (cs : Text) (p : Position) (byte : ℕ) → Some byte ≡ exact_byte_at Crlf e cs p → byte ≡ byte_at Crlf e cs p
exact_byte e cs p byte is = elim (cases_Bool (is_exact Crlf e cs p)) [
  | inl exact ↦ let same = rw exact at is in cc
  | inr not_exact ↦ let none = rw not_exact at is in cc
]

-- so the bytes of a range that is in order are in order
pub exact_in_order : (e : Encoding) (cs : Text) (range : Range) (from to : ℕ)
    → IsTrue (is_at_or_before range.start range.end) → Some from ≡ exact_byte_at Crlf e cs range.start
    → Some to ≡ exact_byte_at Crlf e cs range.end → from ≤ to
exact_in_order e cs range from to ordered start end =
    let le : byte_at Crlf e cs range.start ≤ byte_at Crlf e cs range.end = rw ordered at (byte_range_in_order Crlf e cs range) in
    omega (arith, le, exact_byte e cs range.start from start, exact_byte e cs range.end to end)

-- what follows from what is so where there was no refusal
pub on_ok : {A E P Q : Type 0} (result : Result A E) → OnOk result P → (P → Q) → OnOk result Q
on_ok (Ok a) is so = so is
on_ok (Err e) is so = tt

-- and it is a boundary
pub exact_is_boundary : (e : Encoding) (cs : Text) (p : Position) (byte : ℕ) → Some byte ≡ exact_byte_at Crlf e cs p
    → IsBoundary cs byte
exact_is_boundary e cs p byte is = subst (IsBoundary cs) (sym (exact_byte e cs p byte is)) (IsBoundary-byte_at Crlf e cs p)
