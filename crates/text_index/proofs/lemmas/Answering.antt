-- The answers of a text by two of its marks and by the text between them, which is the part in which positions are searched.
use Rattle.text_index.proofs.lemmas.Common.{◌≡◌, ℕ, ◌+◌, ◌-◌, ◌<◌, ◌≤◌, inl, inr, ◌++◌, sym, ap, ◌∙◌, append-nil, arith, Text, size, size-append, Scheme, count, from_byte_idx, to_byte_idx, is_joined, seam_loss, IsMark, IsPart, IsStretch, AddsUp, StandsRound, Answers, Stretch, count_at, none_of, from_byte_idx-all, Mark, Bool, List, [], ◌∷◌, length, refl, cases_Bool, IsBoundary, same_cut, ◌*◌, ◌^◌, true, false, subst, chars, stretches_of, HasPlace, Reaches, MarksState, parts_of}
use Rattle.text_index.proofs.lemmas.Marking.{no_loss, whole_before, AreParted, are_parted, counts_at_end}
use Rattle.std.proofs.Common.{not, drop, Some, None, sum_by, true≢false}
use Rattle.std.proofs.Math.Seq.{drop-append_seam}
use Rattle.std.proofs.lemmas.List.Sums.{take_while-cons, sum_by-append}
use Rattle.std.specs.List.{before_first}
use Rattle.str_indices.proofs.lemmas.Callers.{cut_front, weighed_at, count-units, count_characters}
use Rattle.positions.specs.Lines.{text_after, scheme_of, is_break, line_content, line_end}
use Rattle.positions.specs.declared.line_type.LineType.{LineType}
use Rattle.std.specs.Prelude.{IfSome}
use Rattle.std.proofs.Math.Nat.{pow-zero, pow-suc, pow-le-pow_right}
use Rattle.std.specs.Char.{len_utf8}
use Rattle.str_indices.specs.Text.{weight}
use Rattle.str_indices.specs.Schemes.{weighed}
use Rattle.str_indices.specs.declared.Scheme.TheVariants.{Chars, Utf16}
use Rattle.positions.specs.Encodings.{units_of}
use Rattle.positions.specs.declared.encodings.Encoding.{Encoding}
use Rattle.positions.specs.declared.encodings.Encoding.TheVariants.{Utf8, Utf16, Utf32}
use Rattle.positions.proofs.lemmas.Callers.{none_before, join_of_middle}
use Rattle.positions.specs.Parts.{HasPartCounts, Searched, HasByte, HasLine}
use Rattle.positions.specs.Parts as parts
use Rattle.positions.specs.Units.{unit_scheme}
use Rattle.positions.specs.declared.parts.PartCounts.{PartCounts}
use Rattle.positions.specs.declared.parts.Part.{Part}

-- the stretch between two marks
pub between : (text part : Text) (stretch : Stretch) (is : IsStretch text stretch)
    → IsPart text stretch.start.now.byte stretch.end.now.byte part
    → AreParted is.start.front is.start.back is.end.front is.end.back part
between text part stretch is own =
    let own' = rw (is.start.byte, is.end.byte) at own in
    are_parted text is.start.front is.start.back is.end.front is.end.back part is.start.split is.end.split own'

-- its first mark takes nothing off
first_loss : (s : Scheme) (text part : Text) (stretch : Stretch) (is : IsStretch text stretch)
    → IsPart text stretch.start.now.byte stretch.end.now.byte part → seam_loss s is.start.front part ≡ 0
first_loss s text part stretch is own =
    let parted = between text part stretch is own in
    no_loss s is.start.front part (whole_before is.start.front part is.end.back (rw parted.back at is.start.whole))

-- its marks differ by what it has
pub adds_up : (text part : Text) (stretch : Stretch) → IsStretch text stretch
    → IsPart text stretch.start.now.byte stretch.end.now.byte part → AddsUp stretch part
adds_up text part stretch is own =
    let parted = between text part stretch is own in
    record {
      len = omega (arith, own.start, own.end);
      counts = λ s.
          let seam = (is_joined s is.start.front part).counts in
          let front = ap (count s) parted.front in
          omega (arith, is.start.counts s, is.end.counts s, first_loss s text part stretch is own, seam, front);
    }

-- up to a byte in it the text has what is before the stretch, and what that has up to there
pub from_here : (s : Scheme) (text part : Text) (b : ℕ) (stretch : Stretch) → StandsRound text b stretch
    → IsPart text stretch.start.now.byte stretch.end.now.byte part
    → count_at stretch.start.now s + from_byte_idx s part (b - stretch.start.now.byte) ≡ from_byte_idx s text b
from_here s text part b stretch round own =
    let is = round.is in
    let parted = between text part stretch is own in
    let j = b - stretch.start.now.byte in
    let inside : j < size part = omega (arith, own.start, own.end, round.after, round.before) in
    let place : size is.start.front + j ≡ b = omega (arith, is.start.byte, round.after) in
    let whole = (is_joined s is.start.front is.start.back).from_behind j in
    let behind = (is_joined s part is.end.back).from_before j inside in
    let text_is = ap (λ t. from_byte_idx s t b) is.start.split in
    let back_is = ap (λ t. from_byte_idx s t j) parted.back in
    let there = ap (from_byte_idx s (is.start.front ++ is.start.back)) place in
    omega (
      arith,
      is.start.counts s,
      no_loss s is.start.front is.start.back is.start.whole,
      whole,
      behind,
      text_is,
      back_is,
      there,
    )

-- past the end it has all
pub past_end : (s : Scheme) (text : Text) (b : ℕ) (mark : Mark) → IsMark text mark → mark.byte ≡ size text
    → mark.byte ≤ b → count_at mark s ≡ from_byte_idx s text b
past_end s text b mark is at_end past =
    counts_at_end text mark is at_end s ∙ sym (from_byte_idx-all s text b (omega (arith, at_end, past)))

-- the text up to the end of the stretch answers for the whole text
up_to_end : (s : Scheme) (text : Text) (k : ℕ) (stretch : Stretch) (answers : Answers s text k stretch)
    → to_byte_idx s text k ≡ to_byte_idx s answers.is.end.front k
up_to_end s text k stretch answers =
    let end = answers.is.end in
    let text_is = ap (λ t. to_byte_idx s t k) end.split in
    elim answers.reached [
      | inl reached ↦
          let loss = no_loss s end.front end.back end.whole in
          text_is ∙ (is_joined s end.front end.back).to_before k (omega (arith, reached, end.counts s, loss))
      | inr last ↦
          let none = none_of end.back
          (omega (arith, ap size end.split, size-append end.front end.back, end.byte, last)) in
          text_is ∙ ap (λ r. to_byte_idx s (end.front ++ r) k) none ∙ ap (λ t. to_byte_idx s t k) (append-nil end.front)
    ]

-- a count is reached in the stretch that answers for it
pub to_here : (s : Scheme) (text part : Text) (k : ℕ) (stretch : Stretch) → Answers s text k stretch
    → IsPart text stretch.start.now.byte stretch.end.now.byte part
    → stretch.start.now.byte + to_byte_idx s part (k - count_at stretch.start.now s) ≡ to_byte_idx s text k
to_here s text part k stretch answers own =
    let is = answers.is in
    let parted = between text part stretch is own in
    let index = k - count_at stretch.start.now s in
    let loss = first_loss s text part stretch is own in
    let past : count s is.start.front < k + seam_loss s is.start.front part =
    omega (arith, loss, answers.past, is.start.counts s) in
    let sum : count s is.start.front + index ≡ k + seam_loss s is.start.front part =
    omega (arith, loss, answers.past, is.start.counts s) in
    let own_is = (is_joined s is.start.front part).to_behind k index past sum in
    let front_is = ap (λ t. to_byte_idx s t k) parted.front in
    omega (arith, up_to_end s text k stretch answers, own_is, front_is, is.start.byte)

-- The text of a line, by where it begins and ends.

-- a list begins with the elements before the first that passes
first_part : (p : ℕ → Bool) (xs : List ℕ) → (rest : List ℕ) × (xs ≡ before_first p xs ++ rest)
first_part p [] = ([], refl)
first_part p (c ∷ cs) = elim (cases_Bool (p c)) [
  | inl passes ↦
      let none : before_first p (c ∷ cs) ≡ [] = take_while-cons (λ d. not (p d)) c cs ∙ rw passes refl in
      (c ∷ cs, ap (λ r. r ++ c ∷ cs) (sym none))
  | inr fails ↦
      let more : before_first p (c ∷ cs) ≡ c ∷ before_first p cs =
      take_while-cons (λ d. not (p d)) c cs ∙ rw fails refl in
      let (rest, split) = first_part p cs in
      (rest, ap (λ r. c ∷ r) split ∙ ap (λ r. r ++ rest) (sym more))
]

-- the text from a line's beginning to its end is its content
pub content_of_part : (l : LineType) (cs part : Text) (line start end : ℕ) → start ≡ to_byte_idx (scheme_of l) cs line
    → end ≡ line_end l cs line → IsPart cs start end part → part ≡ line_content l cs line
content_of_part l cs part line start end start_is end_is is =
    let first : IsBoundary cs start = record { front = is.front; back = part ++ is.back; split = is.parts; place = is.start } in
    let front = cut_front cs start first in
    let there : text_after cs start ≡ part ++ is.back =
    ap (λ r. drop (length r) cs) front ∙ ap (drop (length is.front)) is.parts ∙ drop-append_seam is.front (part ++ is.back) in
    let content_is : text_after cs (to_byte_idx (scheme_of l) cs line) ≡ part ++ is.back = rw start_is at there in
    let (rest, split) = first_part (is_break l) (text_after cs (to_byte_idx (scheme_of l) cs line)) in
    let sizes : size part ≡ size (line_content l cs line) = omega (arith, is.start, is.end, start_is, end_is) in
    (same_cut part is.back (line_content l cs line) rest (sym content_is ∙ split) sizes).front

-- A stretch as the part in which positions are searched, and what the searches cost.

-- a mark counts what ends at or before its place
pub count_at_mark : (l : LineType) (text : Text) (mark : Mark) → IsMark text mark
    → count_at mark (scheme_of l) ≡ from_byte_idx (scheme_of l) text mark.byte
count_at_mark l text mark is =
    let s = scheme_of l in
    let here : size is.front + 0 ≡ mark.byte = omega (arith, is.byte) in
    omega (
      arith,
      is.counts s,
      no_loss s is.front is.back is.whole,
      (is_joined s is.front is.back).from_behind 0,
      none_before l is.back,
      ap (from_byte_idx s (is.front ++ is.back)) here,
      ap (λ t. from_byte_idx s t mark.byte) is.split,
    )

-- and the units before it
module _ (text : Text) (mark : Mark) (is : IsMark text mark) where
  abbrev at_mark : IsBoundary text mark.byte
  at_mark = record { front = is.front; back = is.back; split = is.split; place = sym is.byte }

  pub units_by_bytes : (e : Encoding) → unit_scheme e ≡ None → mark.byte ≡ weighed (units_of e) text mark.byte
  units_by_bytes Utf8 none = is.byte ∙ sym (weighed_at len_utf8 text mark.byte at_mark)
  units_by_bytes Utf16 none = cc
  units_by_bytes Utf32 none = cc

  pub units_by_scheme : (e : Encoding) (s : Scheme) → unit_scheme e ≡ Some s
      → count_at mark s ≡ weighed (units_of e) text mark.byte
  units_by_scheme Utf8 s some = cc
  units_by_scheme Utf16 s some =
      let same : s ≡ Utf16 = cc in
      rw same (is.counts Utf16 ∙ count-units is.front ∙ sym (weighed_at weight text mark.byte at_mark))
  units_by_scheme Utf32 s some =
      let same : s ≡ Chars = cc in
      rw same (is.counts Chars ∙ count_characters is.front ∙ sym (weighed_at (λ _. 1) text mark.byte at_mark))

-- the units of its own are those that its marks differ by
pub units_between : (e : Encoding) (text own : Text) (stretch : Stretch) → IsStretch text stretch
    → IsPart text stretch.start.now.byte stretch.end.now.byte own
    → weighed (units_of e) text stretch.start.now.byte + sum_by (units_of e) own ≡ weighed (units_of e) text stretch.end.now.byte
units_between e text own stretch is part =
    let w = units_of e in
    let first = is.start in
    let last = is.end in
    omega (
      arith,
      weighed_at w text stretch.start.now.byte (at_mark text stretch.start.now first),
      weighed_at w text stretch.end.now.byte (at_mark text stretch.end.now last),
      ap (sum_by w) (between text own stretch is part).front,
      sum_by-append w first.front own,
    )

-- a stretch is a part of the text, by the counts of its marks
pub part_of_stretch : (l : LineType) (e : Encoding) (text : Text) (stretch : Stretch) (part : Part) → IsStretch text stretch
    → IsPart text stretch.start.now.byte stretch.end.now.byte (chars part.text.now)
    → part.start ≡ stretch.start.now.byte → part.lines ≡ count_at stretch.start.now (scheme_of l)
    → (units : ℕ) → part.units ≡ Some units → units ≡ weighed (units_of e) text stretch.start.now.byte → part.in_crlf ≡ false
    → (own : PartCounts) → part.counts ≡ Some own → HasPartCounts l e (chars part.text.now) own → parts.IsPart text l e part
part_of_stretch l e text stretch part is own start lines units has units_is in_crlf has_own told are =
    let first = is.start in
    record {
      front = own.front;
      back = own.back;
      split = own.parts;
      start = own.start ∙ sym start;
      lines = lines ∙ count_at_mark l text stretch.start.now first ∙ ap (from_byte_idx (scheme_of l) text) (sym start);
      units = subst (λ may. IfSome may (λ n. n ≡ weighed (units_of e) text part.start)) (sym has)
          (units_is ∙ ap (weighed (units_of e) text) (sym start));
      in_crlf = (
        λ middle. let clash : true ≡ false = sym middle ∙ in_crlf in cc,
        λ middle. absurd (true≢false (sym (join_of_middle text first.front first.back part.start first.split
            (sym first.byte ∙ sym start) middle) ∙ first.whole)),
      );
      counts = subst (λ may. IfSome may (HasPartCounts l e (chars part.text.now))) (sym told) are;
    }

-- the part has what is asked for
pub has_byte : (text : Text) (byte : ℕ) (stretch : Stretch) (part : Part) → HasPlace text byte stretch
    → part.start ≡ stretch.start.now.byte → part.start + size (chars part.text.now) ≡ stretch.end.now.byte
    → HasByte text byte part
has_byte text byte stretch part place start end = record {
  after = omega (arith, place.after, start);
  before = elim place.before [
    | inl inside ↦ inl (omega (arith, inside, end))
    | inr last ↦ inr (end ∙ last)
  ];
}

pub has_line : (l : LineType) (text : Text) (line : ℕ) (stretch : Stretch) (part : Part)
    → Reaches (scheme_of l) text line stretch → part.lines ≡ from_byte_idx (scheme_of l) text part.start
    → part.start ≡ stretch.start.now.byte → part.start + size (chars part.text.now) ≡ stretch.end.now.byte
    → HasLine text l line part
has_line l text line stretch part reaches lines start end =
    let s = scheme_of l in
    record {
      after = elim reaches.past [
        | inl past ↦ inl (omega (
          arith,
          past,
          lines,
          count_at_mark l text stretch.start.now reaches.is.start,
          ap (from_byte_idx s text) start,
        ))
        | inr first ↦ inr (start ∙ first)
      ];
      before = elim reaches.reached [
        | inl reached ↦ inl (omega (
          arith,
          reached,
          count_at_mark l text stretch.end.now reaches.is.end,
          ap (from_byte_idx s text) end,
        ))
        | inr last ↦ inr (end ∙ last)
      ];
    }

-- the cost of a search
module _ (old new : MarksState) (text : new.text ≡ old.text) (kept : old.looks ≤ new.looks) (reads : new.reads ≤ old.reads + 1)
    (reads_kept : old.reads ≤ new.reads) where
  abbrev most : ℕ
  most = 2 * stretches_of old.text

  pub took_byte : new.looks ≤ old.looks + 2 → Searched 1 0 (parts_of old) (parts_of new)
  took_byte few =
      let two : new.looks - old.looks ≤ 2 = omega (arith, few) in
      let four : 2 ^ (new.looks - old.looks) ≤ 2 ^ 2 = pow-le-pow_right (omega arith) two in
      record {
        text = text;
        pieces = ap (λ t. t ∷ []) text;
        latest_start = refl;
        byte_choices = refl;
        count_choices = ap (λ t. 2 * stretches_of t) text;
        unit_searches = refl;
        looks = omega (arith, four, ap (λ n. 4 * n) (pow-zero most));
        looks_kept = kept;
        reads = omega (arith, reads);
        reads_kept = reads_kept;
      }

  pub took_count : 2 ^ (new.looks - old.looks) ≤ most → Searched 0 1 (parts_of old) (parts_of new)
  took_count few = record {
    text = text;
    pieces = ap (λ t. t ∷ []) text;
    latest_start = refl;
    byte_choices = refl;
    count_choices = ap (λ t. 2 * stretches_of t) text;
    unit_searches = refl;
    looks = omega (arith, few, pow-suc most 0, ap (λ n. n * most) (pow-zero most));
    looks_kept = kept;
    reads = omega (arith, reads);
    reads_kept = reads_kept;
  }
