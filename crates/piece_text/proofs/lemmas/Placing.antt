-- What a look at a piece tells of the joined text, and the piece as the part that a byte or a line is in.
use Rattle.piece_text.proofs.lemmas.Common.{◌≡◌, ◌≢◌, ℕ, ◌+◌, ◌<◌, [], List, length, take, Text, arith, ap, ◌∙◌, size, size-append, IsFront, joined, joined_size, piece_at, ◌≤◌, Bool, true, false, inl, inr, ◌∷◌, ◌++◌, drop, refl, eqb-true, count, to_byte_idx, seam_loss-same, starts_with_feed-append, ends_in_return-append, is_joined, ◌-◌, take_all, sym, chars, from_byte_idx, to_byte_idx-le-size, IsSettled, cases_lt}
use Rattle.std.specs.Prelude.{◌^◌, ◌⊎◌, nat_eq}
use Rattle.str_indices.specs.declared.Scheme.{Scheme}
use Rattle.text_summary.specs.Fronts.{IsFollowed}
use Rattle.text_summary.specs.declared.fronts.Front.{Front}
use Rattle.text_summary.specs.declared.summaries.Summary.{Summary}
use Rattle.text_summary.specs.Summaries.{summary_of}
use Rattle.piece_text.proofs.lemmas.Joining.{joined-take, joined_size-take, joined-split, joined-drop}
use Rattle.std.proofs.lemmas.Bool.Decides.{nat_tests}
use Rattle.str_indices.specs.declared.Scheme.TheVariants.{Crlf, Lines}
use Rattle.str_indices.specs.Joins.{ends_in_return, starts_with_feed, seam_loss}
use Rattle.positions.proofs.lemmas.Callers.{lines_before, reached_by}
use Rattle.positions.specs.Lines.{scheme_of}
use Rattle.positions.specs.Parts.{HasByte, HasLine, IsPart}
use Rattle.positions.specs.declared.encodings.Encoding.{Encoding}
use Rattle.positions.specs.declared.line_type.LineType.{LineType}
use Rattle.positions.specs.declared.parts.Part.{Part}
use Rattle.piece_text.specs.Parts.{Comes, HasPlace, IsPlaced}
use Rattle.piece_text.specs.declared.places.Placed.{Placed}

-- a look at the next piece is within the text
pub next_piece : (s : Scheme) (texts : List Text) (i : ℕ) (front : Front) (piece : Summary) → i < length texts
    → IsFront s (joined (take i texts)) front → piece ≡ summary_of (piece_at texts i) → piece_at texts i ≢ []
    → joined_size texts < 2 ^ 63 → IsFollowed s front piece
next_piece s texts i front piece inside front_is piece_is some short =
    let more = ap size (joined-take texts i inside) ∙ size-append (joined (take i texts)) (piece_at texts i) in
    record {
      a = joined (take i texts);
      b = piece_at texts i;
      front_is = front_is;
      piece_is = piece_is;
      some = some;
      short = omega (arith, more, joined_size-take texts (i + 1));
    }

-- What a text counts it still counts with one piece more, whatever comes then.

either : (b : Bool) → (b ≡ true) ⊎ (b ≡ false)
either true = inl refl
either false = inr refl

-- a seam takes at most one, and none where no LF comes
crlf_at_most_one : (a b : Text) → seam_loss Crlf a b ≤ 1
crlf_at_most_one a b = elim (either (ends_in_return a)) [
  | inl ends ↦ elim (either (starts_with_feed b)) [
    | inl starts ↦ rw (ends, starts) (omega arith)
    | inr starts ↦ rw (ends, starts) (omega arith)
  ]
  | inr ends ↦ rw ends (omega arith)
]

crlf_none : (a b : Text) → starts_with_feed b ≡ false → seam_loss Crlf a b ≡ 0
crlf_none a b starts = elim (either (ends_in_return a)) [
  | inl ends ↦ rw (ends, starts) refl
  | inr ends ↦ rw ends refl
]

none_taken : (s : Scheme) (a b : Text) → starts_with_feed b ≡ false → seam_loss s a b ≡ 0
none_taken Crlf a b starts = crlf_none a b starts
none_taken Lines a b starts = crlf_none a b starts
none_taken s a b starts = refl

-- two seams take no more of one char between them than it counts
of_feed : (s : Scheme) (a d : Text) → seam_loss s a (10 ∷ []) + seam_loss s (10 ∷ []) d ≤ count s (10 ∷ [])
of_feed Crlf a d = omega (arith, crlf_at_most_one a (10 ∷ []))
of_feed Lines a d = omega (arith, crlf_at_most_one a (10 ∷ []))
of_feed s a d = omega arith

feed_one : (x : ℕ) → starts_with_feed (x ∷ []) ≡ nat_eq x 10
feed_one x = grind (arith, nat_tests)

of_character : (s : Scheme) (a d : Text) (x : ℕ) → seam_loss s a (x ∷ []) + seam_loss s (x ∷ []) d ≤ count s (x ∷ [])
of_character s a d x = elim (either (nat_eq x 10)) [
  | inl is ↦ let feed : x ≡ 10 = eqb-true x 10 is in rw feed (of_feed s a d)
  | inr other ↦
      let starts : starts_with_feed (x ∷ []) ≡ false = feed_one x ∙ other in
      omega (arith, none_taken s a (x ∷ []) starts, (is_joined s (x ∷ []) d).loss_within)
]

-- nor of a text
two_seams : (s : Scheme) (a b c : Text) → b ≢ [] → seam_loss s a b + seam_loss s b c ≤ count s b
two_seams s a [] c some = absurd (some refl)
two_seams s a (x ∷ []) c some = of_character s a c x
two_seams s a (x ∷ y ∷ ys) c some =
    let f : Text = x ∷ [] in
    let b : Text = y ∷ ys in
    let front = seam_loss-same s a (x ∷ y ∷ ys) a f refl (starts_with_feed-append f b (λ e. absurd cc)) in
    let back = seam_loss-same s (x ∷ y ∷ ys) c b c (ends_in_return-append f b (λ e. absurd cc)) refl in
    let both = (is_joined s f b).counts in
    omega (arith, front, back, both, of_character s a b x, (is_joined s b c).loss_within)

-- so what a counts is there before whatever comes after b
pub settled : (s : Scheme) (a b c : Text) → b ≢ [] → count s a + seam_loss s (a ++ b) c ≤ count s (a ++ b)
settled s a b c some =
    let same = seam_loss-same s (a ++ b) c b c (ends_in_return-append a b some) refl in
    omega (arith, (is_joined s a b).counts, same, two_seams s a b c some)

-- the same of a list of pieces, at one of them
pub settled_at : (s : Scheme) (texts : List Text) (i k : ℕ) → i < length texts → piece_at texts i ≢ []
    → k ≤ count s (joined (take i texts))
    → to_byte_idx s (joined texts) k ≡ to_byte_idx s (joined (take (i + 1) texts)) k
settled_at s texts i k inside some counted =
    let a = joined (take i texts) in
    let b = piece_at texts i in
    let c = joined (drop (i + 1) texts) in
    let more = joined-take texts i inside in
    let parts = joined-split texts (i + 1) ∙ ap (λ x. x ++ c) more in
    rw (parts, more) ((is_joined s (a ++ b) c).to_before k (omega (arith, settled s a b c some, counted)))

-- A piece with what is known of the text before it, as the part that a byte or a line is in.

module _ (s : Scheme) (texts : List Text) (placed : Placed) (is : IsPlaced s texts placed) where
  abbrev i : ℕ
  i = placed.piece

  abbrev a : Text
  a = joined (take i texts)

  abbrev b : Text
  b = piece_at texts i

  -- the text before it, its own and the text after it
  pub split_at_place : joined texts ≡ a ++ (b ++ joined (drop (i + 1) texts))
  split_at_place = joined-split texts i ∙ ap (λ r. a ++ r) (joined-drop texts i is.inside)

  -- how many bytes are before its end
  pub place_end : joined_size (take (i + 1) texts) ≡ placed.before.len + placed.own.len
  place_end =
      omega (arith, ap size (joined-take texts i is.inside), size-append a b, is.before_is.len, ap (λ o. o.len) is.own_is)

  pub place_end-le : placed.before.len + placed.own.len ≤ size (joined texts)
  place_end-le = omega (arith, place_end, joined_size-take texts (i + 1))

  -- a look at it is within the text
  pub place_followed : joined_size texts < 2 ^ 63 → IsFollowed s placed.before placed.own
  place_followed short = next_piece s texts i placed.before placed.own is.inside is.before_is is.own_is is.some short

  -- the text up to its end answers for a count that the text before it does not come to
  answer_at_place : (k : ℕ) → placed.before.total - seam_loss s a b < k
      → to_byte_idx s (joined (take (i + 1) texts)) k
      ≡ placed.before.len + to_byte_idx s b (k - (placed.before.total - seam_loss s a b))
  answer_at_place k past =
      let seam = is_joined s a b in
      let reached = count s a - seam_loss s a b in
      let below : reached < k = rw is.before_is.total at past in
      rw (joined-take texts i is.inside, is.before_is.total, is.before_is.len)
      (seam.to_behind k (k - reached) (omega (arith, below, seam.loss_within)) (omega (arith, below, seam.loss_within)))

  -- so the text does, where what is after the piece changes nothing
  pub comes_at : (k : ℕ) → placed.before.total - seam_loss s a b < k
      → to_byte_idx s (joined texts) k ≡ to_byte_idx s (joined (take (i + 1) texts)) k → Comes s texts placed k
  comes_at k past there = record { is = is; past = past; answer = there ∙ answer_at_place k past }

-- nothing changes where the text comes to the count before the piece after it
pub come_before : (s : Scheme) (texts : List Text) (i k : ℕ) → i < length texts → piece_at texts i ≢ []
    → k ≤ count s (joined (take i texts)) - seam_loss s (joined (take i texts)) (piece_at texts i)
    → to_byte_idx s (joined texts) k ≡ to_byte_idx s (joined (take i texts)) k
come_before s texts i k inside some within =
    let a = joined (take i texts) in
    let b = piece_at texts i in
    let c = joined (drop (i + 1) texts) in
    let whole : joined texts ≡ a ++ (b ++ c) = joined-split texts i ∙ ap (λ r. a ++ r) (joined-drop texts i inside) in
    let seam = is_joined s a (b ++ c) in
    let same = seam_loss-same s a (b ++ c) a b refl (starts_with_feed-append b c some) in
    rw whole (seam.to_before k (omega (arith, same, within, seam.loss_within)))

-- nor at the end of a range
pub come_to_end : (s : Scheme) (texts : List Text) (end k last : ℕ) → end ≡ last + 1 → piece_at texts last ≢ []
    → (end < length texts → IsSettled s texts end k)
    → to_byte_idx s (joined texts) k ≡ to_byte_idx s (joined (take (last + 1) texts)) k
come_to_end s texts end k last last_is some settled = elim (cases_lt end (length texts)) [
  | inl before ↦
      let is = settled before in
      let same : is.before ≡ last = omega (arith, is.one_more, last_is) in
      settled_at s texts last k (omega (arith, before, last_is)) some (rw same at is.counted)
  | inr end_le ↦ ap (λ t. to_byte_idx s (joined t) k) (sym (take_all (last + 1) texts (omega (arith, end_le, last_is))))
]

-- a byte is before the end of its piece, or this is that of the text
pub place_round : (s : Scheme) (texts : List Text) (placed : Placed) (byte : ℕ) → HasPlace s texts placed byte
    → (byte < placed.before.len + size (piece_at texts placed.piece))
    ⊎ (placed.before.len + size (piece_at texts placed.piece) ≡ size (joined texts))
place_round s texts placed byte place =
    let own = ap (λ o. o.len) place.is.own_is in
    elim place.before [
      | inl inside ↦ inl (omega (arith, inside, own))
      | inr last ↦ inr (omega (
        arith,
        own,
        place_end s texts placed place.is,
        ap joined_size (take_all (placed.piece + 1) texts (omega (arith, last))),
      ))
    ]

-- so it is in its part
pub place_has_byte : (s : Scheme) (texts : List Text) (placed : Placed) (byte : ℕ) (part : Part) → HasPlace s texts placed byte
    → chars part.text.now ≡ piece_at texts placed.piece → part.start ≡ placed.before.len → HasByte (joined texts) byte part
place_has_byte s texts placed byte part place text start = record {
  after = omega (arith, place.after, start);
  before = rw (text, start) (place_round s texts placed byte place);
}

-- the piece in which the text comes to a line has the place where it begins
pub place_has_line : (l : LineType) (e : Encoding) (texts : List Text) (placed : Placed) (line : ℕ) (part : Part)
    → IsPart (joined texts) l e part → Comes (scheme_of l) texts placed line → chars part.text.now ≡ piece_at texts placed.piece
    → part.start ≡ placed.before.len → HasLine (joined texts) l line part
place_has_line l e texts placed line part is place text start =
    let s = scheme_of l in
    let a = joined (take placed.piece texts) in
    let b = piece_at texts placed.piece in
    let before = placed.before in
    let reached = before.total - seam_loss s a b in
    let split = split_at_place s texts placed place.is in
    let counted : reached ≡ from_byte_idx s (joined texts) before.len =
    lines_before l (joined texts) a b (joined (drop (placed.piece + 1) texts)) before split place.is.before_is place.is.some in
    let past : reached < line = place.past in
    let own : placed.own.len ≡ size b = ap (λ o. o.len) place.is.own_is in
    record {
      after = inl (omega (arith, is.lines, ap (from_byte_idx s (joined texts)) start, counted, past));
      before = reached_by l (joined texts) line (part.start + size (chars part.text.now)) (omega (
        arith,
        place.answer,
        to_byte_idx-le-size s b (line - reached),
        start,
        ap size text,
      )) (omega (arith, place_end-le s texts placed place.is, own, start, ap size text));
    }

-- the first part has line 0
pub first_has_line : (l : LineType) (texts : List Text) (part : Part) → part.start ≡ 0 → HasLine (joined texts) l 0 part
first_has_line l texts part start = record { after = inr start; before = inl (omega arith) }
