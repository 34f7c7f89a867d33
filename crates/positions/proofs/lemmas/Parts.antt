-- Parts of a text: their counts, chars and bytes, by what stands before them.
use Rattle.positions.proofs.lemmas.Lines.{behind_boundary, boundary_within, none_before, join_of_middle, middle_of_join}
use Rattle.positions.proofs.lemmas.Common.{◌≡◌, ℕ, ◌+◌, ◌<◌, ◌≤◌, [], ◌++◌, sym, refl, ap, ◌∙◌, inl, inr, arith, append_assoc, append-nil, append_cancel_left, cut_all, cut_goes_on, cut_is_longest, IsBoundary-before, IsBoundary-behind, IsBoundary-either, weighed_at, weighed-le-weighed, boundary_weighed_is_greatest, boundary_weighed_iff, sum_by, sum_by-append, size-append, Text, size, cut, weighed, boundary_weighed, to_byte_idx, to_byte_idx-zero, IsBoundary, before_first, scheme_of, is_break, line_content, LineType, ◌-◌, ◌⊎◌, ◌∷◌, size-cons, len_utf8_bounds, is_joined, seam_loss, cases_lt, IsGreatestBoundary, count, from_byte_idx, ◌↔◌, List, length, take, drop, IsUtf8, chars, IsCharBoundary, take-append-drop, length-take-le, chars-append, IsUtf8-take, IsUtf8-drop, size-chars, cut_front, line_feed, carriage_return, IsCrlfMiddle, IsCharBoundary-from_boundary, ◌≢◌, Option, Some, None, IsTrue, true, ends_in_return, starts_with_feed, units_of, unit_scheme, Scheme, Encoding, IsPart, Part, take_while-cons, sum_by-cons, weighed_is_greatest_boundary, byte_at}
use Rattle.std.proofs.Math.Utf8.{encode, encodes}
use Rattle.std.proofs.Common.{get_or, get_or-append-add, length-append}
use Rattle.std.proofs.lemmas.List.{drop_more}
use Rattle.std.proofs.lemmas.Str.{chars_past_char, length-encode, encode_ascii, encodes-append, encodes-chars}
use Rattle.positions.specs.Characters.{IsCharacterAt, IsBackOf}
use Rattle.std.specs.Prelude.{IfSome, IsSome, false, not, All}
use Rattle.std.proofs.lemmas.Bool.{and_from, and_parts}
use Rattle.str_indices.proofs.lemmas.Callers.{seam_loss-same, starts_with_feed-append}
use Rattle.text_summary.specs.Fronts.{IsFront, IsStep}
use Rattle.text_summary.specs.Summaries.{summary_of}
use Rattle.text_summary.specs.declared.fronts.Front.{Front}
use Rattle.text_summary.specs.declared.fronts.Step.{Step}
use Rattle.text_summary.specs.declared.summaries.Summary.{Summary}
use Rattle.positions.specs.Parts.{HasPartCounts}
use Rattle.positions.specs.declared.parts.PartCounts.{PartCounts}
use Rattle.positions.proofs.lemmas.Encodings.{weighed_by_bytes, units_of-some}
use Rattle.std.proofs.lemmas.Bool.Decides.{nat_tests}
use Rattle.std.proofs.lemmas.List.Elements.{All-head, All-tail}
use Rattle.positions.specs.declared.encodings.Encoding.TheVariants.{Utf8, Utf16, Utf32}
use Rattle.positions.specs.Plain.{IsPlain, BeginsPlain}
use Rattle.positions.specs.declared.line_type.LineType.TheVariants.{Lf, Crlf, Lines}

-- The weight of two joined texts at the places of the first and at those of the second; and the first line of a text.

module _ (w : ℕ → ℕ) (a b : Text) where
  -- up to the seam of two texts the first is weighed
  pub weighed_before : (n : ℕ) → n ≤ size a → weighed w (a ++ b) n ≡ weighed w a n
  weighed_before n within =
      let own = cut_is_longest a n in
      let all = cut_is_longest (a ++ b) n in
      let p = size (cut a n) in
      let q = size (cut (a ++ b) n) in
      let here : IsBoundary a p = record { front = cut a n; back = own.back; split = own.split; place = refl } in
      let there : IsBoundary (a ++ b) q =
      record { front = cut (a ++ b) n; back = all.back; split = all.split; place = refl } in
      let least = weighed-le-weighed w (a ++ b) p n own.fits in
      let at_least = weighed_at w (a ++ b) p (IsBoundary-before a b p here) in
      let at_most = weighed_at w (a ++ b) q there in
      elim (IsBoundary-either a b q there) [
        | inl at ↦
            let same = weighed_at w (a ++ b) q (IsBoundary-before a b q at) in
            let most = weighed-le-weighed w a q n all.fits in
            omega (arith, at_least, least, at_most, same, most, weighed_at w a q at)
        | inr (more, is, at) ↦
            let seam : IsBoundary (a ++ b) (size a) = record { front = a; back = b; split = refl; place = refl } in
            let here : q ≡ size a = omega (arith, all.fits) in
            let same = ap (weighed w (a ++ b)) here ∙ weighed_at w (a ++ b) (size a) seam in
            let whole = ap (sum_by w) (cut_all a n (omega (arith, all.fits))) in
            omega (arith, at_least, least, at_most, same, whole)
      ]

  -- after it all of the first, and the second
  pub weighed_behind : (n : ℕ) → weighed w (a ++ b) (size a + n) ≡ sum_by w a + weighed w b n
  weighed_behind n =
      let own = cut_is_longest b n in
      let all = cut_is_longest (a ++ b) (size a + n) in
      let p = size (cut b n) in
      let here : IsBoundary b p = record { front = cut b n; back = own.back; split = own.split; place = refl } in
      let at_least = weighed_at w (a ++ b) (size a + p) (IsBoundary-behind a b p here) in
      let least = weighed-le-weighed w (a ++ b) (size a + p) (size a + n) (omega (arith, own.fits)) in
      let (more, is) = cut_goes_on (a ++ b) a b (size a + n) refl (omega arith) in
      let rest = append_cancel_left a b (more ++ all.back)
      (all.split ∙ ap (λ f. f ++ all.back) is ∙ append_assoc a more all.back) in
      let there : IsBoundary b (size more) = record { front = more; back = all.back; split = rest; place = refl } in
      let fits : size more ≤ n = omega (arith, all.fits, ap size is, size-append a more) in
      let most = weighed-le-weighed w b (size more) n fits in
      omega (
        arith,
        at_least,
        least,
        sum_by-append w a (cut b n),
        ap (sum_by w) is,
        sum_by-append w a more,
        weighed_at w b (size more) there,
        most,
      )

  -- a place before the end of the first is that of both
  pub place_before : (k : ℕ) → boundary_weighed w a k < size a → boundary_weighed w (a ++ b) k ≡ boundary_weighed w a k
  place_before k inside =
      let g = boundary_weighed w a k in
      let h = boundary_weighed w (a ++ b) k in
      let own = (boundary_weighed_is_greatest w a k).boundary in
      let all = (boundary_weighed_is_greatest w (a ++ b) k).boundary in
      let fits = (boundary_weighed_iff w a g k own).0 (omega arith) in
      let least = (boundary_weighed_iff w (a ++ b) g k (IsBoundary-before a b g own)).1
      (omega (arith, weighed_before g (omega arith), fits)) in
      let most_fits = (boundary_weighed_iff w (a ++ b) h k all).0 (omega arith) in
      let ends : IsBoundary a (size a) =
      record { front = a; back = []; split = sym (append-nil a); place = refl } in
      elim (IsBoundary-either a b h all) [
        | inl at ↦
            let within : h ≤ size a = omega (arith, ap size at.split, size-append at.front at.back, at.place) in
            let most = (boundary_weighed_iff w a h k at).1 (omega (arith, weighed_before h within, most_fits)) in
            omega (arith, least, most)
        | inr (more, is, at) ↦
            let up_to = weighed-le-weighed w (a ++ b) (size a) h (omega arith) in
            let reached = (boundary_weighed_iff w a (size a) k ends).1
            (omega (arith, weighed_before (size a) (omega arith), up_to, most_fits)) in
            absurd (omega (arith, reached, inside))
      ]

-- all of a text, and none
pub weighed_all : (w : ℕ → ℕ) (cs : Text) → weighed w cs (size cs) ≡ sum_by w cs
weighed_all w cs = ap (sum_by w) (cut_all cs (size cs) (omega arith))

pub weighed_none : (w : ℕ → ℕ) (cs : Text) → weighed w cs 0 ≡ 0
weighed_none w cs = weighed_at w cs 0 (record { front = []; back = cs; split = refl; place = refl })

-- the content of a line, by the text from its beginning on
pub content_from : (l : LineType) (cs : Text) (line : ℕ) (front rest : Text) → cs ≡ front ++ rest
    → size front ≡ to_byte_idx (scheme_of l) cs line → line_content l cs line ≡ before_first (is_break l) rest
content_from l cs line front rest split place = ap (before_first (is_break l))
    (behind_boundary cs (to_byte_idx (scheme_of l) cs line) (record { front = front; back = rest; split = split; place = place }))

-- that of the first line
pub first_content : (l : LineType) (cs : Text) → line_content l cs 0 ≡ before_first (is_break l) cs
first_content l cs = content_from l cs 0 [] cs refl (sym (to_byte_idx-zero (scheme_of l) cs))

-- Counts of a text by a part of it: the count in the part adds to the count before it.

-- a text of no bytes has no chars
pub none_of : (cs : Text) → size cs ≡ 0 → cs ≡ []
none_of [] none = refl
none_of (c ∷ cs) none = absurd (omega (arith, none, size-cons c cs, len_utf8_bounds c))

module _ (cs front part back : Text) (start : ℕ) (split : cs ≡ front ++ (part ++ back)) (place : size front ≡ start) where
  -- where the part ends, the text does not, or nothing is after it
  pub ends_within : start + size part ≤ size cs
  ends_within = omega (arith, ap size split, size-append front (part ++ back), size-append part back, place)

  pub none_behind : start + size part ≡ size cs → back ≡ []
  none_behind last = none_of back
      (omega (arith, ap size split, size-append front (part ++ back), size-append part back, place, last))

  pub rest_is : start + size part ≡ size cs → part ++ back ≡ part
  rest_is last = ap (λ b. part ++ b) (none_behind last) ∙ append-nil part

  -- the place where the part ends is a boundary, as is each of its own
  pub boundary_in : (i : ℕ) → IsBoundary part i → IsBoundary cs (start + i)
  boundary_in i at = rw (split, sym place) (IsBoundary-behind front (part ++ back) i (IsBoundary-before part back i at))

  pub boundary_at_end : IsBoundary cs (start + size part)
  boundary_at_end = boundary_in (size part) (record { front = part; back = []; split = sym (append-nil part); place = refl })

  -- a boundary of the text from the part's start to its end is one of the part
  pub boundary_of : (q : ℕ) → IsBoundary cs q → start ≤ q → q ≤ start + size part → IsBoundary part (q - start)
  boundary_of q at from to =
      let whole : IsBoundary (front ++ (part ++ back)) q = rw split at at in
      elim (IsBoundary-either front (part ++ back) q whole) [
        | inl in_front ↦
            let sizes = ap size in_front.split ∙ size-append in_front.front in_front.back in
            record { front = []; back = part; split = refl; place = omega (arith, sizes, in_front.place, place, from) }
        | inr (own, is, in_rest) ↦
            let same : own ≡ q - start = omega (arith, is, place) in
            elim (IsBoundary-either part back own in_rest) [
              | inl here ↦ rw same at here
              | inr (more, past, in_back) ↦ record {
                front = part;
                back = [];
                split = sym (append-nil part);
                place = omega (arith, is, place, past, to);
              }
            ]
      ]

  -- the greatest boundary of the part up to a byte in it is that of the text
  pub greatest_in_part : (byte p : ℕ) → start ≤ byte → (byte < start + size part) ⊎ (start + size part ≡ size cs)
      → IsGreatestBoundary part (byte - start) p → IsGreatestBoundary cs byte (start + p)
  greatest_in_part byte p after round own = record {
    boundary = boundary_in p own.boundary;
    at_or_before = omega (arith, own.at_or_before, after);
    greatest = λ q there before. elim (cases_lt q start) [
      | inl early ↦ omega (arith, early)
      | inr from ↦
          let within : q ≤ start + size part = elim round [
            | inl inside ↦ omega (arith, before, inside)
            | inr last ↦ omega (arith, last, boundary_within cs q there)
          ] in
          omega (arith, own.greatest (q - start) (boundary_of q there from within) (omega (arith, before)), from)
    ];
  }

  module _ (l : LineType) (lines : ℕ) (lines_is : lines ≡ from_byte_idx (scheme_of l) cs start) where
    -- of the breaks that end before the part and in it, those before it are told
    abbrev rest : Text
    rest = part ++ back

    lines_at_start : lines + seam_loss (scheme_of l) front rest ≡ count (scheme_of l) front
    lines_at_start =
        let none : size front + 0 ≡ start = omega (arith, place) in
        omega (
          arith,
          (is_joined (scheme_of l) front rest).from_behind 0,
          none_before l rest,
          ap (from_byte_idx (scheme_of l) (front ++ rest)) none,
          ap (λ t. from_byte_idx (scheme_of l) t start) split,
          lines_is,
        )

    lines_in_rest : (j : ℕ) → from_byte_idx (scheme_of l) cs (start + j) ≡ lines + from_byte_idx (scheme_of l) rest j
    lines_in_rest j =
        let there : size front + j ≡ start + j = omega (arith, place) in
        omega (
          arith,
          (is_joined (scheme_of l) front rest).from_behind j,
          lines_at_start,
          ap (from_byte_idx (scheme_of l) (front ++ rest)) there,
          ap (λ t. from_byte_idx (scheme_of l) t (start + j)) split,
        )

    -- the line of a byte in the part
    pub line_in_part : (byte : ℕ) → start ≤ byte → (byte < start + size part) ⊎ (start + size part ≡ size cs)
        → from_byte_idx (scheme_of l) cs byte ≡ lines + from_byte_idx (scheme_of l) part (byte - start)
    line_in_part byte after round =
        let j = byte - start in
        let there : start + j ≡ byte = omega (arith, after) in
        let whole = ap (from_byte_idx (scheme_of l) cs) there in
        elim round [
          | inl inside ↦ omega (
            arith,
            lines_in_rest j,
            whole,
            (is_joined (scheme_of l) part back).from_before j (omega (arith, inside, after)),
          )
          | inr last ↦ omega (arith, lines_in_rest j, whole, ap (λ t. from_byte_idx (scheme_of l) t j) (rest_is last))
        ]

    -- where a line begins that begins in the part
    pub start_in_part : (k : ℕ) → (lines < k) ⊎ (start ≡ 0)
        → (k ≤ from_byte_idx (scheme_of l) cs (start + size part)) ⊎ (start + size part ≡ size cs)
        → to_byte_idx (scheme_of l) cs k ≡ start + to_byte_idx (scheme_of l) part (k - lines)
    start_in_part k after before =
        let s = scheme_of l in
        let in_rest : to_byte_idx s cs k ≡ start + to_byte_idx s rest (k - lines) = elim after [
          | inl past ↦ omega (
            arith,
            ap (λ t. to_byte_idx s t k) split,
            (is_joined s front rest).to_behind k (k - lines) (omega (arith, lines_at_start, past))
                (omega (arith, lines_at_start, past)),
            place,
          )
          | inr first ↦
              let none : front ≡ [] = none_of front (omega (arith, place, first)) in
              let same : k - lines ≡ k =
              omega (arith, lines_is, ap (from_byte_idx s cs) first, none_before l cs) in
              omega (arith, ap (λ t. to_byte_idx s t k) (split ∙ ap (λ f. f ++ rest) none), first, ap (to_byte_idx s rest) same)
        ] in
        let in_part : to_byte_idx s rest (k - lines) ≡ to_byte_idx s part (k - lines) = elim before [
          | inr last ↦ ap (λ t. to_byte_idx s t (k - lines)) (rest_is last)
          | inl reached ↦
              let joined = is_joined s part back in
              let zero : size part + 0 ≡ size part = omega arith in
              joined.to_before (k - lines) (omega (
                arith,
                reached,
                lines_in_rest (size part),
                joined.from_behind 0,
                none_before l back,
                ap (from_byte_idx s rest) zero,
                joined.loss_within,
              ))
        ] in
        omega (arith, in_rest, in_part)

  module _ (w : ℕ → ℕ) (units : ℕ) (units_is : units ≡ weighed w cs start) where
    -- the units before a place in the part
    pub units_in_part : (j : ℕ) → (j ≤ size part) ⊎ (start + size part ≡ size cs)
        → weighed w cs (start + j) ≡ units + weighed w part j
    units_in_part j within =
        let rest = part ++ back in
        let none : size front + 0 ≡ start = omega (arith, place) in
        let there : size front + j ≡ start + j = omega (arith, place) in
        let in_rest : weighed w rest j ≡ weighed w part j = elim within [
          | inl inside ↦ weighed_before w part back j inside
          | inr last ↦ ap (λ t. weighed w t j) (rest_is last)
        ] in
        omega (
          arith,
          weighed_behind w front rest j,
          weighed_behind w front rest 0,
          weighed_none w rest,
          ap (weighed w (front ++ rest)) none,
          ap (weighed w (front ++ rest)) there,
          ap (λ t. weighed w t start) split,
          ap (λ t. weighed w t (start + j)) split,
          units_is,
          in_rest,
        )

-- A char of one byte, and a place between CR and LF, by the bytes of the text.

-- how many bytes a text takes
length-encodes : (cs : List ℕ) → length (encodes cs) ≡ size cs
length-encodes [] = refl
length-encodes (c ∷ cs) =
    omega (arith, length-append (encode c) (encodes cs), length-encode c, length-encodes cs, size-cons c cs)

-- the byte after the bytes of a text's beginning
byte_behind : (cs front back : Text) (at i : ℕ) → cs ≡ front ++ back → size front + i ≡ at
    → get_or (encodes cs) at 0 ≡ get_or (encodes back) i 0
byte_behind cs front back at i split place =
    let bytes = ap encodes split ∙ encodes-append front back in
    let there : at ≡ length (encodes front) + i = omega (arith, place, length-encodes front) in
    rw (bytes, there) (get_or-append-add (encodes front) (encodes back) i 0)

-- an ASCII char is its byte
byte_of_character : (cs : Text) (c at : ℕ) → c < 128 → IsCharacterAt cs c at → get_or (encodes cs) at 0 ≡ c
byte_of_character cs c at ascii is =
    byte_behind cs is.front (c ∷ is.back) at 0 is.split (omega (arith, is.place))
    ∙ ap (λ bs. get_or (bs ++ encodes is.back) 0 0) (encode_ascii c ascii)

module _ (bytes : List ℕ) (utf8 : IsUtf8 bytes) where
  -- and an ASCII byte is its char
  pub character_of_byte : (c i : ℕ) → c < 128 → i < length bytes → get_or bytes i 0 ≡ c → IsCharacterAt (chars bytes) c i
  character_of_byte c i ascii inside is =
      let at : IsCharBoundary bytes i = (omega arith, λ _ wide. absurd (omega (arith, is))) in
      let last = drop_more bytes i 0 inside ∙ ap (λ b. b ∷ drop (i + 1) bytes) is
      ∙ ap (λ bs. bs ++ drop (i + 1) bytes) (sym (encode_ascii c ascii)) in
      let after = chars_past_char (drop i bytes) (drop (i + 1) bytes) c (IsUtf8-drop bytes i utf8 at) last in
      let parts = rw take-append-drop at (chars-append (take i bytes) (drop i bytes) (IsUtf8-take bytes i utf8 at)) in
      record {
        front = chars (take i bytes);
        back = chars (drop (i + 1) bytes);
        split = parts ∙ ap (λ r. chars (take i bytes) ++ r) after;
        place = size-chars (take i bytes) (IsUtf8-take bytes i utf8 at) ∙ length-take-le i bytes (omega arith);
      }

-- no char begins at the end of the text or past it
pub character_inside : (cs : Text) (c at : ℕ) → IsCharacterAt cs c at → at < size cs
character_inside cs c at is = omega (
  arith,
  ap size is.split,
  size-append is.front (c ∷ is.back),
  size-cons c is.back,
  len_utf8_bounds c,
  is.place,
)

-- CR and then LF
pub middle_of_characters : (cs : Text) (at : ℕ) → 0 < at → IsCharacterAt cs line_feed at
    → IsCharacterAt cs carriage_return (at - 1) → IsCrlfMiddle cs at
middle_of_characters cs at above feed return =
    let one = size-append return.front (carriage_return ∷ []) in
    let front = return.front ++ carriage_return ∷ [] in
    let place : size front ≡ at = omega (arith, one, return.place) in
    let return_splits = return.split ∙ sym (append_assoc return.front (carriage_return ∷ []) return.back) in
    let same = sym (cut_front cs at (record { front = front; back = return.back; split = return_splits; place = place }))
    ∙ cut_front cs at
    (record { front = feed.front; back = line_feed ∷ feed.back; split = feed.split; place = feed.place }) in
    record {
      front = return.front;
      back = feed.back;
      split = feed.split ∙ ap (λ f. f ++ line_feed ∷ feed.back) (sym same);
      place = place;
    }

pub characters_of_middle : (cs : Text) (at : ℕ) → IsCrlfMiddle cs at
    → (0 < at) × (IsCharacterAt cs line_feed at × IsCharacterAt cs carriage_return (at - 1))
characters_of_middle cs at middle =
    let one = size-append middle.front (carriage_return ∷ []) in (
      omega (arith, one, middle.place),
      (
        record {
          front = middle.front ++ carriage_return ∷ [];
          back = middle.back;
          split = middle.split;
          place = middle.place;
        },
        record {
          front = middle.front;
          back = line_feed ∷ middle.back;
          split = middle.split ∙ append_assoc middle.front (carriage_return ∷ []) (line_feed ∷ middle.back);
          place = omega (arith, one, middle.place);
        },
      ),
    )

module _ (bytes : List ℕ) (utf8 : IsUtf8 bytes) where
  -- a byte of the text, where a char of one byte is
  pub byte_of_ascii : (c at : ℕ) → c < 128 → IsCharacterAt (chars bytes) c at → get_or bytes at 0 ≡ c
  byte_of_ascii c at ascii is =
      ap (λ bs. get_or bs at 0) (sym (encodes-chars bytes utf8)) ∙ byte_of_character (chars bytes) c at ascii is

  pub middle_bytes : (at : ℕ) → 0 < at → at < length bytes → IsCrlfMiddle (chars bytes) at
      ↔ ((get_or bytes at 0 ≡ line_feed) × (get_or bytes (at - 1) 0 ≡ carriage_return))
  middle_bytes at above inside = (
    λ middle. let (_, (feed, return)) = characters_of_middle (chars bytes) at middle in (
      byte_of_ascii line_feed at (omega arith) feed,
      byte_of_ascii carriage_return (at - 1) (omega arith) return,
    ),
    λ is. middle_of_characters (chars bytes) at above (character_of_byte bytes utf8 line_feed at (omega arith) inside is.0)
        (character_of_byte bytes utf8 carriage_return (at - 1) (omega arith) (omega (arith, inside)) is.1),
  )

  -- it is in the text
  pub middle_inside : (at : ℕ) → IsCrlfMiddle (chars bytes) at → (0 < at) × (at < length bytes)
  middle_inside at middle =
      let (above, (feed, _)) = characters_of_middle (chars bytes) at middle in
      (above, omega (arith, character_inside (chars bytes) line_feed at feed, size-chars bytes utf8))

-- the rests of a text after equal fronts are equal
rests_same : (cs a b x y : Text) → cs ≡ a ++ x → cs ≡ b ++ y → a ≡ b → y ≡ x
rests_same cs a b x y here there same =
    append_cancel_left b y x (sym there ∙ here ∙ ap (λ f. f ++ x) same)

module _ (cs front part back : Text) (start : ℕ) (split : cs ≡ front ++ (part ++ back)) (place : size front ≡ start) where
  -- a place between CR and LF in a part is one in the text
  pub middle_from_part : (at : ℕ) → IsCrlfMiddle part at → IsCrlfMiddle cs (start + at)
  middle_from_part at middle =
      let return = middle.front ++ carriage_return ∷ [] in
      let parts : front ++ ((return ++ line_feed ∷ middle.back) ++ back)
      ≡ ((front ++ middle.front) ++ carriage_return ∷ []) ++ line_feed ∷ (middle.back ++ back) = simp append_assoc in
      record {
        front = front ++ middle.front;
        back = middle.back ++ back;
        split = split ∙ ap (λ p. front ++ (p ++ back)) middle.split ∙ parts;
        place = omega (
          arith,
          ap size (append_assoc front middle.front (carriage_return ∷ [])),
          size-append front return,
          middle.place,
          place,
        );
      }

  -- and the other way round, unless the part starts there
  pub middle_in_part : (at : ℕ) → 0 < at → (at < size part) ⊎ (start + size part ≡ size cs) → IsCrlfMiddle cs (start + at)
      → IsCrlfMiddle part at
  middle_in_part at above within middle =
      let q = size middle.front in
      let one = size-append middle.front (carriage_return ∷ []) in
      let behind : cs ≡ middle.front ++ carriage_return ∷ line_feed ∷ middle.back =
      middle.split ∙ append_assoc middle.front (carriage_return ∷ []) (line_feed ∷ middle.back) in
      let sizes = ap size middle.split ∙ size-append (middle.front ++ carriage_return ∷ []) (line_feed ∷ middle.back) in
      let inside : at < size part = elim within [
        | inl is ↦ is
        | inr last ↦ omega (arith, last, sizes, middle.place, size-cons line_feed middle.back, len_utf8_bounds line_feed)
      ] in
      let at_q : IsBoundary cs q =
      record { front = middle.front; back = carriage_return ∷ line_feed ∷ middle.back; split = behind; place = refl } in
      let own = boundary_of cs front part back start split place q at_q (omega (arith, middle.place, one, above))
      (omega (arith, middle.place, one, inside)) in
      let there : IsBoundary cs q = record {
        front = front ++ own.front;
        back = own.back ++ back;
        split = split ∙ ap (λ p. front ++ (p ++ back)) own.split ∙ ap (λ r. front ++ r) (append_assoc own.front own.back back)
            ∙ sym (append_assoc front own.front (own.back ++ back));
        place = omega (arith, size-append front own.front, own.place, place, middle.place, one, above);
      } in
      let same : middle.front ≡ front ++ own.front = sym (cut_front cs q at_q) ∙ cut_front cs q there in
      let rests = rests_same cs middle.front (front ++ own.front) (carriage_return ∷ line_feed ∷ middle.back) (own.back ++ back)
      behind there.split same in
      let left : 1 < size own.back =
      omega (arith, ap size own.split, size-append own.front own.back, own.place, inside, middle.place, one, above) in
      let (more, is) = two own.back left rests in
      record {
        front = own.front;
        back = more;
        split = own.split ∙ ap (λ r. own.front ++ r) is ∙ sym (append_assoc own.front (carriage_return ∷ []) (line_feed ∷ more));
        place = omega (arith, size-append own.front (carriage_return ∷ []), own.place, middle.place, one, above);
      }
    where
      two : (b : Text) → 1 < size b → b ++ back ≡ carriage_return ∷ line_feed ∷ middle.back
          → (more : Text) × (b ≡ carriage_return ∷ line_feed ∷ more)
      two [] some is = absurd (omega (arith, some))
      two (c ∷ []) some is =
          let same : c ≡ carriage_return = cc in
          absurd (omega (arith, some, ap (λ d. size (d ∷ [])) same))
      two (c ∷ d ∷ more) some is =
          let first : c ≡ carriage_return = cc in
          let second : d ≡ line_feed = cc in
          (more, rw (first, second) refl)

-- The bytes of a text up to one of its boundaries, and from there on.

pub back_of_bytes : (bytes : List ℕ) → IsUtf8 bytes → (at : ℕ) → IsBoundary (chars bytes) at
    → IsBackOf (chars bytes) (chars (drop at bytes)) at
back_of_bytes bytes utf8 at boundary =
    let edge = IsCharBoundary-from_boundary bytes utf8 at boundary in
    let first = IsUtf8-take bytes at utf8 edge in
    record {
      front = chars (take at bytes);
      parts = rw take-append-drop at (chars-append (take at bytes) (drop at bytes) first);
      place = size-chars (take at bytes) first ∙ length-take-le at bytes edge.0;
    }

-- up to a boundary the chars are those that are cut off there
pub chars-take : (bytes : List ℕ) → IsUtf8 bytes → (p : ℕ) → IsCharBoundary bytes p → chars (take p bytes) ≡ cut (chars bytes) p
chars-take bytes utf8 p at =
    let first = IsUtf8-take bytes p utf8 at in
    sym (cut_front (chars bytes) p (record {
      front = chars (take p bytes);
      back = chars (drop p bytes);
      split = rw take-append-drop at (chars-append (take p bytes) (drop p bytes) first);
      place = size-chars (take p bytes) first ∙ length-take-le p bytes at.0;
    }))

-- A piece of a text as the part that it is, by its summary and what is known of the text before it.

module _ (l : LineType) (cs front piece back : Text) (before : Front) (split : cs ≡ front ++ (piece ++ back))
    (is : IsFront (scheme_of l) front before) (some : piece ≢ []) where
  abbrev s : Scheme
  s = scheme_of l

  abbrev piece_on : Text
  piece_on = piece ++ back

  -- the breaks of the text before the piece
  pub lines_before : before.total - seam_loss s front piece ≡ from_byte_idx s cs before.len
  lines_before =
      let seam = is_joined s front piece_on in
      let same : seam_loss s front piece_on ≡ seam_loss s front piece =
      seam_loss-same s front piece_on front piece refl (starts_with_feed-append piece back some) in
      let here : size front + 0 ≡ before.len = omega (arith, is.len) in
      omega (
        arith,
        is.total,
        same,
        seam.from_behind 0,
        seam.loss_within,
        none_before l piece_on,
        ap (from_byte_idx s (front ++ piece_on)) here,
        ap (λ t. from_byte_idx s t before.len) split,
      )

  -- whether it stands between CR and LF
  middle_before : (own : Summary) → own ≡ summary_of piece
      → ((before.ends_cr ≡ true) × (own.starts_lf ≡ true)) ↔ IsCrlfMiddle cs before.len
  middle_before own own_is =
      let starts : starts_with_feed piece_on ≡ own.starts_lf =
      starts_with_feed-append piece back some ∙ sym (ap (λ o. o.starts_lf) own_is) in
      let ends = sym is.ends_cr in
      let place = sym is.len in (
        λ both. middle_of_join cs front piece_on before.len split place
            (and_from (ends_in_return front) (starts_with_feed piece_on) (ends ∙ both.0) (starts ∙ both.1)),
        λ middle. let both = and_parts (ends_in_return front) (starts_with_feed piece_on)
            (join_of_middle cs front piece_on before.len split place middle) in
            (sym ends ∙ both.0, sym starts ∙ both.1),
      )

  -- the bytes before it are units of the encoding that counts bytes
  units_before : (e : Encoding) (may : Option ℕ) → IfSome may (λ n. n ≡ before.len)
      → (IsSome may → (unit_scheme e ≡ None) ⊎ (before.len ≡ 0))
      → IfSome may (λ n. n ≡ weighed (units_of e) cs before.len)
  units_before e None told bytes = tt
  units_before e (Some n) told bytes = elim (bytes refl) [
    | inl none ↦ told ∙ weighed_by_bytes e cs before.len before.len none (record {
      boundary = record { front = front; back = piece_on; split = split; place = sym is.len };
      at_or_before = omega arith;
      greatest = λ q there le. le;
    })
    | inr first ↦ told ∙ first ∙ sym (ap (weighed (units_of e) cs) first ∙ weighed_none (units_of e) cs)
  ]

  -- so it is a part of the text
  pub piece_is_part : (e : Encoding) (part : Part) (own : Summary) → chars part.text.now ≡ piece → part.start ≡ before.len
      → (step : Step) → IsStep s front piece step → part.lines ≡ step.reached → IfSome part.units (λ n. n ≡ before.len)
      → (IsSome part.units → (unit_scheme e ≡ None) ⊎ (before.len ≡ 0))
      → IsTrue part.in_crlf ↔ ((before.ends_cr ≡ true) × (own.starts_lf ≡ true)) → own ≡ summary_of piece → (its : PartCounts)
      → part.counts ≡ Some its → HasPartCounts l e piece its
      → IsPart cs l e part
  piece_is_part e part own text start step told lines units bytes in_crlf own_is its told_own has =
      let middle = middle_before own own_is in
      record {
        front = front;
        back = back;
        split = rw text split;
        start = sym is.len ∙ sym start;
        lines = rw start (omega (arith, lines, told.reached, is.total, lines_before));
        units = rw start (units_before e part.units units bytes);
        in_crlf = rw start (λ yes. middle.0 (in_crlf.0 yes), λ there. in_crlf.1 (middle.1 there));
        counts = rw (told_own, text) has;
      }

-- A place after plain characters of the first line.

-- such a character takes one byte, one unit, and is no break
one_unit : (e : Encoding) (c : ℕ) → IsPlain c → units_of e c ≡ 1
one_unit Utf8 c is = grind (arith, nat_tests, is.0)
one_unit Utf16 c is = grind (arith, nat_tests, is.0)
one_unit Utf32 c is = refl

no_break : (l : LineType) (c : ℕ) → IsPlain c → is_break l c ≡ false
no_break Lf c is = grind (arith, nat_tests, is)
no_break Crlf c is = grind (arith, nat_tests, is)
no_break Lines c is = grind (arith, nat_tests, is)

units_of_plain : (e : Encoding) (f : Text) → All IsPlain f → sum_by (units_of e) f ≡ size f
units_of_plain e [] plain = refl
units_of_plain e (c ∷ cs) plain =
    let here = All-head IsPlain c cs plain in
    omega (
      arith,
      sum_by-cons (units_of e) c cs,
      size-cons c cs,
      one_unit e c here,
      one_unit Utf8 c here,
      units_of_plain e cs (All-tail IsPlain c cs plain),
    )

content_of_plain : (l : LineType) (f b : Text) → All IsPlain f
    → before_first (is_break l) (f ++ b) ≡ f ++ before_first (is_break l) b
content_of_plain l [] b plain = refl
content_of_plain l (c ∷ cs) b plain =
    let p = is_break l in
    let other = no_break l c (All-head IsPlain c cs plain) in
    let whole : before_first p (c ∷ cs ++ b) ≡ c ∷ before_first p (cs ++ b) =
    take_while-cons (λ d. not (p d)) c (cs ++ b) ∙ rw other refl in
    whole ∙ ap (λ r. c ∷ r) (content_of_plain l cs b (All-tail IsPlain c cs plain))

-- so it begins at its byte
pub byte_of_plain : (l : LineType) (e : Encoding) (text : Text) (n : ℕ) → BeginsPlain text n
    → n ≡ byte_at l e text (record { line = 0; character = n })
byte_of_plain l e text n begins =
    let w = units_of e in
    let rest = before_first (is_break l) begins.back in
    let content = begins.front ++ rest in
    let content_is : line_content l text 0 ≡ content = first_content l text ∙ ap (before_first (is_break l)) begins.split
    ∙ content_of_plain l begins.front begins.back begins.plain in
    let edge : IsBoundary content n = record { front = begins.front; back = rest; split = refl; place = begins.place } in
    let units = weighed_at w content n edge ∙ units_of_plain e begins.front begins.plain ∙ begins.place in
    let least = (boundary_weighed_iff w content n n edge).1 (omega (arith, units)) in
    let most = (weighed_is_greatest_boundary w (units_of-some e) content n).at_or_before in
    omega (
      arith,
      ap (λ t. boundary_weighed w t n) content_is,
      least,
      most,
      ap (boundary_weighed w content) units,
      to_byte_idx-zero (scheme_of l) text,
    )
