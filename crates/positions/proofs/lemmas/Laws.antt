-- Laws of lines and positions.
use Rattle.std.proofs.lemmas.Bool.{and_from, and_parts, eqb-true, false_from_ne_true, le-leb, leb-true}
use Rattle.std.proofs.lemmas.Bool.Decides.{nat_tests}
use Rattle.positions.proofs.lemmas.Lines.{boundary_within, not_utf16, line_end_le, IsBoundary-from_content, weighed-from_content, IsBoundary-line_end, IsBoundary-in_content, past_last, line_parts, break_from_line_end, not_middle_at_end, line_of_place, end_before}
use Rattle.positions.proofs.lemmas.Encodings.{units_of-some, units_of-le}
use Rattle.positions.proofs.lemmas.Common.{[], append-nil, sum_by, true, false, ◌==◌, nat_le, Some, None, ◌≡◌, ◌≢◌, ℕ, ◌+◌, ◌-◌, ◌<◌, ◌≤◌, ◌⊎◌, inl, inr, sym, ◌∙◌, ap, arith, refl, min, cases_lt, Text, size, cut, from_byte_idx, to_byte_idx, count, weighed, boundary_weighed, IsBoundary, IsGreatestBoundary, cut_is_longest, weighed_at, weighed-le-weighed, boundary_weighed_is_greatest, boundary_weighed_iff, boundary_weighed-le, weighed_is_greatest_boundary, to-from_is_greatest, units_of, Position, Encoding, IsAtOrBefore, scheme_of, line_content, line_end, units_on_line, position_at, byte_at, is_exact, exact_byte_at, LineType, sum_by-le-sum_by, len_utf8, is_at_or_before, ◌↔◌, ◌∷◌, ◌++◌, ap₂, subst, append_assoc, size-append, len_utf8_bounds, cases_Bool, line_feed, carriage_return, IsCrlfMiddle, cut_all, from_byte_idx-le, from_byte_idx-le-count, is_break, byte_range_at, IsBreakStart, IsLineEnd, IsGreatestPlace}
use Rattle.std.specs.Prelude.{IfSome, IsSome}
use Rattle.str_indices.specs.Starts.{IsInside}
use Rattle.str_indices.proofs.lemmas.Callers.{weighed_or_inside, weighed_inside}
use Rattle.positions.specs.declared.Range.{Range}

-- Positions by the units of the whole text, where a position's own are those of its line's content.

-- the byte index of a position is a boundary, from the line's beginning to its end
pub on_content : (l : LineType) (w : ℕ → ℕ) (cs : Text) (line k : ℕ)
    → IsBoundary cs (to_byte_idx (scheme_of l) cs line + boundary_weighed w (line_content l cs line) k)
on_content l w cs line k =
    IsBoundary-from_content l cs line _ (boundary_weighed_is_greatest w (line_content l cs line) k).boundary

pub IsBoundary-byte_at : (l : LineType) (e : Encoding) (cs : Text) (p : Position) → IsBoundary cs (byte_at l e cs p)
IsBoundary-byte_at l e cs p = on_content l (units_of e) cs p.line p.character

pub within_content : (l : LineType) (w : ℕ → ℕ) (cs : Text) (line k : ℕ)
    → boundary_weighed w (line_content l cs line) k ≤ size (line_content l cs line)
within_content l w cs line k =
    boundary_within (line_content l cs line) _ (boundary_weighed_is_greatest w (line_content l cs line) k).boundary

-- a later position has no lesser byte index
pub byte_at-le : (l : LineType) (e : Encoding) (cs : Text) (p q : Position) → IsAtOrBefore p q → byte_at l e cs p ≤ byte_at l e cs q
byte_at-le l e cs p q (inl earlier) =
    omega (arith, line_end_le l cs p.line q.line earlier, within_content l (units_of e) cs p.line p.character)
byte_at-le l e cs p q (inr (same, le)) =
    let w = units_of e in
    let moved = ap (λ line. to_byte_idx (scheme_of l) cs line + boundary_weighed w (line_content l cs line) p.character) same in
    omega (arith, boundary_weighed-le w (line_content l cs q.line) p.character q.character le)

pub eqb-same : (n : ℕ) → (n == n) ≡ true
eqb-same n = grind (arith, nat_tests)

-- an offset that comes back stands for a place of the text, where that has the line; and another does not
module _ (l : LineType) (e : Encoding) (cs : Text) (p : Position) (offset : ℕ)
    (place : offset ≡ boundary_weighed (units_of e) (line_content l cs p.line) p.character) where
  pub exact_some : nat_le p.line (count (scheme_of l) cs) ≡ true
      → weighed (units_of e) (line_content l cs p.line) offset ≡ p.character
      → Some (to_byte_idx (scheme_of l) cs p.line + offset) ≡ exact_byte_at l e cs p
  exact_some has same =
      let back = rw place at same in
      let is : is_exact l e cs p ≡ true = and_from _ _ has (rw back (eqb-same p.character)) in
      rw is (ap (λ n. Some (to_byte_idx (scheme_of l) cs p.line + n)) place)

  pub exact_none : (nat_le p.line (count (scheme_of l) cs) ≡ false)
      ⊎ (weighed (units_of e) (line_content l cs p.line) offset ≢ p.character) → None ≡ exact_byte_at l e cs p
  exact_none differs =
      let back = λ (same : is_exact l e cs p ≡ true). and_parts _ _ same in
      let is : is_exact l e cs p ≡ false = false_from_ne_true _ (λ same. elim differs [
        | inl past ↦ let clash : true ≡ false = sym (back same).0 ∙ past in cc
        | inr other ↦ other (rw place (eqb-true _ _ (back same).1))
      ]) in
      rw is refl

-- before the greatest boundary at or before a byte index stand as many units as before the byte index
pub weighed_at_greatest : (w : ℕ → ℕ) (cs : Text) (byte p : ℕ) → IsGreatestBoundary cs byte p
    → weighed w cs byte ≡ weighed w cs p
weighed_at_greatest w cs byte p place =
    let longest = cut_is_longest cs byte in
    let here : IsBoundary cs (size (cut cs byte)) =
    record { front = cut cs byte; back = longest.back; split = longest.split; place = refl } in
    let most = place.greatest (size (cut cs byte)) here longest.fits in
    omega (
      arith,
      weighed_at w cs (size (cut cs byte)) here,
      weighed-le-weighed w cs (size (cut cs byte)) p most,
      weighed-le-weighed w cs p byte place.at_or_before,
    )

-- the units on a line up to a byte index after its beginning, and those before the line
units_before : (l : LineType) (e : Encoding) (cs : Text) (line byte : ℕ) → to_byte_idx (scheme_of l) cs line ≤ byte
    → units_on_line l e cs line byte + weighed (units_of e) cs (to_byte_idx (scheme_of l) cs line)
    ≡ weighed (units_of e) cs (min byte (line_end l cs line))
units_before l e cs line byte from =
    let w = units_of e in
    let start = to_byte_idx (scheme_of l) cs line in
    let content = line_content l cs line in
    let g = boundary_weighed w content (weighed w content (byte - start)) in
    let on_line = weighed_is_greatest_boundary w (units_of-some e) content (byte - start) in
    let within = boundary_within content g on_line.boundary in
    let in_text : IsGreatestBoundary cs (min byte (line_end l cs line)) (start + g) = record {
      boundary = IsBoundary-from_content l cs line g on_line.boundary;
      at_or_before = omega (arith, on_line.at_or_before);
      greatest = λ q at le. elim (cases_lt q start) [
        | inl before ↦ omega arith
        | inr behind ↦
            let here = IsBoundary-in_content l cs line q at behind (omega arith) in
            omega (arith, on_line.greatest (q - start) here (omega arith))
      ];
    } in
    omega (
      arith,
      weighed_at_greatest w content (byte - start) g on_line,
      weighed-from_content l cs line w g on_line.boundary,
      weighed_at_greatest w cs (min byte (line_end l cs line)) (start + g) in_text,
    )

-- a position's offset and the units before its line are the units before its byte index, or before its line's end
pub units_of_position : (l : LineType) (e : Encoding) (cs : Text) (byte : ℕ) → let p = position_at l e cs byte in
    p.character + weighed (units_of e) cs (to_byte_idx (scheme_of l) cs p.line)
    ≡ weighed (units_of e) cs (min byte (line_end l cs p.line))
units_of_position l e cs byte = units_before l e cs (from_byte_idx (scheme_of l) cs byte) byte
    ((to-from_is_greatest (scheme_of l) (not_utf16 l) cs byte).at_or_before)

-- a boundary on a line before which the text has no more units than before a position on it is at or before that
at_or_before_position : (l : LineType) (w : ℕ → ℕ) (cs : Text) (line k q : ℕ) → IsBoundary cs q → to_byte_idx (scheme_of l) cs line ≤ q
    → q ≤ line_end l cs line
    → weighed w cs q ≤ weighed w cs (to_byte_idx (scheme_of l) cs line) + k
    → q ≤ to_byte_idx (scheme_of l) cs line + boundary_weighed w (line_content l cs line) k
at_or_before_position l w cs line k q at from to few =
    let start = to_byte_idx (scheme_of l) cs line in
    let on_line = IsBoundary-in_content l cs line q at from to in
    let whole : start + (q - start) ≡ q = omega arith in
    let units = rw whole at (weighed-from_content l cs line w (q - start) on_line) in
    omega (arith, (boundary_weighed_iff w (line_content l cs line) (q - start) k on_line).1 (omega arith))

-- a position's byte index is that of the units before its line and its offset, or its line's end where that is less
pub byte_of_units : (l : LineType) (e : Encoding) (cs : Text) (p : Position) → byte_at l e cs p ≡ min (line_end l cs p.line)
    (boundary_weighed (units_of e) cs (weighed (units_of e) cs (to_byte_idx (scheme_of l) cs p.line) + p.character))
byte_of_units l e cs p =
    let w = units_of e in
    let start = to_byte_idx (scheme_of l) cs p.line in
    let content = line_content l cs p.line in
    let units = weighed w cs start + p.character in
    let place = boundary_weighed w content p.character in
    let at = (boundary_weighed_is_greatest w content p.character).boundary in
    let fits = (boundary_weighed_iff w content place p.character at).0 (omega arith) in
    let reached = (boundary_weighed_iff w cs (start + place) units (IsBoundary-from_content l cs p.line place at)).1
    (omega (arith, weighed-from_content l cs p.line w place at)) in
    let within = boundary_within content place at in
    let in_text = (boundary_weighed_is_greatest w cs units).boundary in
    let few = (boundary_weighed_iff w cs (boundary_weighed w cs units) units in_text).0 (omega arith) in
    let most = at_or_before_position l w cs p.line p.character in
    elim (cases_lt (boundary_weighed w cs units) (line_end l cs p.line)) [
      | inl inside ↦
          omega (arith, most (boundary_weighed w cs units) in_text (omega arith) (omega arith) (omega arith))
      | inr past ↦
          let fewer = weighed-le-weighed w cs (line_end l cs p.line) (boundary_weighed w cs units) past in
          let ends = IsBoundary-line_end l cs p.line in
          omega (arith, most (line_end l cs p.line) ends (omega arith) (omega arith) (omega arith))
    ]

-- whether a position names a place, by the units of the whole text
module _ (l : LineType) (e : Encoding) (cs : Text) (p : Position) where
  pub units_at_place : weighed (units_of e) cs (byte_at l e cs p) ≡ weighed (units_of e) cs (to_byte_idx (scheme_of l) cs p.line)
      + weighed (units_of e) (line_content l cs p.line) (boundary_weighed (units_of e) (line_content l cs p.line) p.character)
  units_at_place =
      let place = boundary_weighed_is_greatest (units_of e) (line_content l cs p.line) p.character in
      weighed-from_content l cs p.line (units_of e) _ place.boundary

  pub exact_by_units : p.line ≤ count (scheme_of l) cs → weighed (units_of e) cs (byte_at l e cs p)
      ≡ weighed (units_of e) cs (to_byte_idx (scheme_of l) cs p.line) + p.character
      → Some (byte_at l e cs p) ≡ exact_byte_at l e cs p
  exact_by_units within reached =
      exact_some l e cs p _ refl (le-leb _ _ within) (omega (arith, units_at_place, reached))

  pub not_exact_by_units : (count (scheme_of l) cs < p.line) ⊎ (weighed (units_of e) cs (byte_at l e cs p)
      ≢ weighed (units_of e) cs (to_byte_idx (scheme_of l) cs p.line) + p.character)
      → None ≡ exact_byte_at l e cs p
  not_exact_by_units (inl past) =
      exact_none l e cs p _ refl (inl (false_from_ne_true _ (λ within. absurd (omega (arith, leb-true _ _ within, past)))))
  not_exact_by_units (inr not_reached) =
      exact_none l e cs p _ refl (inr (λ same. not_reached (omega (arith, units_at_place, same))))

-- a text has no more units than bytes
pub units_le_bytes : (e : Encoding) (cs : Text) → sum_by (units_of e) cs ≤ size cs
units_le_bytes e cs = sum_by-le-sum_by (units_of e) len_utf8 cs (units_of-le e)

-- past them all is the text's end
place_past : (e : Encoding) (cs : Text) (k : ℕ) → size cs ≤ k → boundary_weighed (units_of e) cs k ≡ size cs
place_past e cs k past =
    let w = units_of e in
    let whole : IsBoundary cs (size cs) =
    record { front = cs; back = []; split = sym (append-nil cs); place = refl } in
    let all = weighed_at w cs (size cs) whole in
    let reached = (boundary_weighed_iff w cs (size cs) k whole).1 (omega (arith, all, units_le_bytes e cs)) in
    omega (arith, reached, boundary_within cs _ (boundary_weighed_is_greatest w cs k).boundary)

-- so no number above that is another place
pub place_of_least : (e : Encoding) (cs : Text) (k most : ℕ) → size cs ≤ most
    → boundary_weighed (units_of e) cs (min k most) ≡ boundary_weighed (units_of e) cs k
place_of_least e cs k most long = elim (cases_lt most k) [
  | inl past ↦
      let is : min k most ≡ most = omega arith in
      ap (boundary_weighed (units_of e) cs) is ∙ place_past e cs most long ∙ sym (place_past e cs k (omega arith))
  | inr within ↦ let is : min k most ≡ k = omega arith in ap (boundary_weighed (units_of e) cs) is
]

-- The test of two positions is the relation.

pub IsAtOrBefore-true : (p q : Position) → is_at_or_before p q ≡ true → IsAtOrBefore p q
IsAtOrBefore-true p q is = grind (arith, nat_tests)

pub is_at_or_before-true : (p q : Position) → IsAtOrBefore p q → is_at_or_before p q ≡ true
is_at_or_before-true p q is = grind (arith, nat_tests)

-- Laws of lines and positions.

module _ (l : LineType) (cs : Text) (line : ℕ) where
  -- no place from the line's beginning to its end stands inside a CRLF, where its beginning doesn't
  not_middle_on_line : (p : ℕ) → ¬ (IsCrlfMiddle cs (to_byte_idx (scheme_of l) cs line)) → to_byte_idx (scheme_of l) cs line ≤ p
      → p ≤ line_end l cs line → is_break l carriage_return ≡ true → ¬ (IsCrlfMiddle cs p)
  not_middle_on_line p none from to breaks = λ middle.
      let start = to_byte_idx (scheme_of l) cs line in
      let size_of = size-append middle.front (carriage_return ∷ []) in
      let split = middle.split ∙ append_assoc middle.front (carriage_return ∷ []) (line_feed ∷ middle.back) in
      elim (cases_lt start p) [
        | inl above ↦
            absurd (omega (
              arith,
              middle.place,
              size_of,
              break_from_line_end l cs line middle.front carriage_return
                  (line_feed ∷ middle.back) split breaks (omega (arith, middle.place, size_of)),
            ))
        | inr le ↦ let same : p ≡ start = omega arith in none (rw same at middle)
      ]

  -- the line's content ends at the least place from its beginning on where a break begins, or else where the text ends
  pub line_end_is_least : IsLineEnd l cs line (line_end l cs line)
  line_end_is_least =
      let parts = line_parts l cs line in
      let content = line_content l cs line in
      let sizes = ap size parts.split_behind ∙ size-append (parts.before ++ content) parts.after in
      record {
        boundary = IsBoundary-line_end l cs line;
        from_start = omega arith;
        break_or_end = (elim parts.after as (λ after. parts.after ≡ after
            → IsBreakStart l cs (line_end l cs line) ⊎ (line_end l cs line ≡ size cs)) [
              | [] ↦ λ none. inr (omega (arith, ap size none, size-append parts.before content, parts.place))
              | c ∷ rest ↦ λ is. inl (record {
                front = parts.before ++ content;
                character = c;
                back = rest;
                split = parts.split_behind ∙ ap (λ r. (parts.before ++ content) ++ r) is;
                place = omega (arith, size-append parts.before content, parts.place);
                is_break = parts.next c rest is;
              })
            ]) refl;
        least = λ q begins from. omega (
          arith,
          begins.place,
          break_from_line_end l cs line begins.front begins.character begins.back
              begins.split begins.is_break (omega (arith, begins.place, len_utf8_bounds begins.character)),
        );
      }

-- from a byte index to its position and back is the greatest place at or before it that a position may have
pub byte_at-position_at_is_greatest : (l : LineType) (e : Encoding) (cs : Text) (byte : ℕ)
    → IsGreatestPlace l cs byte (byte_at l e cs (position_at l e cs byte))
byte_at-position_at_is_greatest l e cs byte =
    let w = units_of e in
    let line = from_byte_idx (scheme_of l) cs byte in
    let start = to_byte_idx (scheme_of l) cs line in
    let content = line_content l cs line in
    let units = weighed w content (byte - start) in
    let begins = to-from_is_greatest (scheme_of l) (not_utf16 l) cs byte in
    let on_line = weighed_is_greatest_boundary w (units_of-some e) content (byte - start) in
    let within = within_content l w cs line units in
    record {
      place = (
        on_content l w cs line units,
        λ both. not_middle_on_line l cs line _ (not_middle_at_end l cs start begins.end_or_zero) (omega arith) (omega arith)
            both.0 both.1,
      );
      at_or_before = omega (arith, begins.at_or_before, on_line.at_or_before);
      greatest = λ q place le.
          elim (cases_lt q start) [
            | inl before ↦ omega arith
            | inr from ↦
                elim (cases_lt (line_end l cs line) q) [
                  | inl past ↦
                      let (e, end, above, at_or_before) =
                      end_before l cs line q place.0 (λ breaks middle. place.1 (breaks, middle)) past in
                      absurd (omega (arith, begins.greatest e end (omega arith)))
                  | inr to ↦
                      let here = IsBoundary-in_content l cs line q place.0 from to in
                      omega (arith, on_line.greatest (q - start) here (omega arith))
                ]
          ];
    }

-- a greater byte index has no earlier position
pub position_at-le : (l : LineType) (e : Encoding) (cs : Text) (i j : ℕ) → i ≤ j
    → IsAtOrBefore (position_at l e cs i) (position_at l e cs j)
position_at-le l e cs i j le =
    let s = scheme_of l in
    let lines = from_byte_idx-le s cs i j le in
    elim (cases_lt (from_byte_idx s cs i) (from_byte_idx s cs j)) [
      | inl earlier ↦ inl earlier
      | inr not_earlier ↦
          let same : from_byte_idx s cs j ≡ from_byte_idx s cs i = omega arith in
          let line = from_byte_idx s cs i in
          let start = to_byte_idx s cs line in
          let more = weighed-le-weighed (units_of e) (line_content l cs line) (i - start) (j - start) (omega arith) in
          inr (sym same, rw same more)
    ]

-- from a position to its byte index and back: the line
pub line-position_at-byte_at : (l : LineType) (e : Encoding) (cs : Text) (p : Position)
    → (position_at l e cs (byte_at l e cs p)).line ≡ min p.line (count (scheme_of l) cs)
line-position_at-byte_at l e cs p =
    line_of_place l cs p.line _ (omega arith) (omega (arith, within_content l (units_of e) cs p.line p.character))

-- and the offset on a line that the text has
module _ (l : LineType) (e : Encoding) (cs : Text) (p : Position) (has : p.line ≤ count (scheme_of l) cs) where
  character-position_at-byte_at : (position_at l e cs (byte_at l e cs p)).character
      ≡ weighed (units_of e) (line_content l cs p.line) (boundary_weighed (units_of e) (line_content l cs p.line) p.character)
  character-position_at-byte_at =
      let w = units_of e in
      let same : from_byte_idx (scheme_of l) cs (byte_at l e cs p) ≡ p.line = omega (arith, line-position_at-byte_at l e cs p) in
      let start = to_byte_idx (scheme_of l) cs p.line in
      let place = boundary_weighed w (line_content l cs p.line) p.character in
      let back : start + place - start ≡ place = omega arith in
      ap (λ line. units_on_line l e cs line (byte_at l e cs p)) same ∙ ap (weighed w (line_content l cs p.line)) back

  pub cut_to_line : ((position_at l e cs (byte_at l e cs p)).character
      ≡ min p.character (sum_by (units_of e) (line_content l cs p.line)))
      ⊎ IsInside (units_of e) (line_content l cs p.line) p.character
  cut_to_line = elim (weighed_or_inside (units_of e) (line_content l cs p.line) p.character) [
    | inl cut ↦ inl (character-position_at-byte_at ∙ cut)
    | inr inside ↦ inr inside
  ]

  pub inside_to_first : (inside : IsInside (units_of e) (line_content l cs p.line) p.character)
      → (position_at l e cs (byte_at l e cs p)).character ≡ sum_by (units_of e) inside.front
  inside_to_first inside =
      character-position_at-byte_at ∙ weighed_inside (units_of e) (line_content l cs p.line) p.character inside

-- past the last line it is the length of that
pub last_line_end : (l : LineType) (e : Encoding) (cs : Text) (p : Position) → count (scheme_of l) cs < p.line
    → (position_at l e cs (byte_at l e cs p)).character ≡ sum_by (units_of e) (line_content l cs (count (scheme_of l) cs))
last_line_end l e cs p past =
    let last = count (scheme_of l) cs in
    let content = line_content l cs last in
    let same : from_byte_idx (scheme_of l) cs (byte_at l e cs p) ≡ last = omega (arith, line-position_at-byte_at l e cs p) in
    let within = boundary_within cs (line_end l cs last) (IsBoundary-line_end l cs last) in
    let behind : size content ≤ byte_at l e cs p - to_byte_idx (scheme_of l) cs last =
    omega (arith, past_last l cs p.line past) in
    ap (λ line. units_on_line l e cs line (byte_at l e cs p)) same
    ∙ ap (sum_by (units_of e)) (cut_all content (byte_at l e cs p - to_byte_idx (scheme_of l) cs last) behind)

-- a position that names a place is that of its byte index
pub exact_goes_back : (l : LineType) (e : Encoding) (cs : Text) (p : Position)
    → IfSome (exact_byte_at l e cs p) (λ place. position_at l e cs place ≡ p)
exact_goes_back l e cs p = elim (cases_Bool (is_exact l e cs p)) [
  | inl exact ↦
      let (has, same) = and_parts _ _ exact in
      let within : p.line ≤ count (scheme_of l) cs = leb-true _ _ has in
      let line : (position_at l e cs (byte_at l e cs p)).line ≡ p.line = omega (arith, line-position_at-byte_at l e cs p) in
      let character = character-position_at-byte_at l e cs p within ∙ eqb-true _ _ same in
      rw exact (ap₂ (λ n k. record { line = n; character = k }) line character)
  | inr not_exact ↦ rw not_exact tt
]

-- and the position of a byte index names a place
pub exact_of_byte : (l : LineType) (e : Encoding) (cs : Text) (p : Position) (byte : ℕ) → position_at l e cs byte ≡ p
    → IsSome (exact_byte_at l e cs p)
exact_of_byte l e cs p byte is =
    let w = units_of e in
    let line = from_byte_idx (scheme_of l) cs byte in
    let content = line_content l cs line in
    let on_line = byte - to_byte_idx (scheme_of l) cs line in
    let place = weighed_is_greatest_boundary w (units_of-some e) content on_line in
    let same = weighed_at_greatest w content on_line (boundary_weighed w content (weighed w content on_line)) place in
    let has = le-leb line (count (scheme_of l) cs) (from_byte_idx-le-count (scheme_of l) cs byte) in
    let units : (weighed w content (boundary_weighed w content (weighed w content on_line)) == weighed w content on_line)
    ≡ true = rw (sym same) (eqb-same (weighed w content on_line)) in
    let exact : is_exact l e cs (position_at l e cs byte) ≡ true = and_from _ _ has units in
    subst (λ q. IsSome (exact_byte_at l e cs q)) is (rw exact refl)

-- the byte indices of a range are there where its end is not before its start, and are boundaries in order
module _ (l : LineType) (e : Encoding) (cs : Text) (r : Range) where
  pub some_byte_range : IsSome (byte_range_at l e cs r) ↔ IsAtOrBefore r.start r.end
  some_byte_range = (
    λ some. elim (cases_Bool (is_at_or_before r.start r.end)) [
      | inl ordered ↦ IsAtOrBefore-true r.start r.end ordered
      | inr not_ordered ↦ let none = rw not_ordered at some in cc
    ],
    λ ordered. rw (is_at_or_before-true r.start r.end ordered) refl,
  )

  pub byte_range_in_order : IfSome (byte_range_at l e cs r) (λ bytes. bytes.start ≤ bytes.end)
  byte_range_in_order = elim (cases_Bool (is_at_or_before r.start r.end)) [
    | inl ordered ↦ rw ordered (byte_at-le l e cs r.start r.end (IsAtOrBefore-true r.start r.end ordered))
    | inr not_ordered ↦ rw not_ordered tt
  ]

  pub byte_range_at_boundaries : IfSome (byte_range_at l e cs r)
      (λ bytes. IsBoundary cs bytes.start × IsBoundary cs bytes.end)
  byte_range_at_boundaries = elim (cases_Bool (is_at_or_before r.start r.end)) [
    | inl ordered ↦ rw ordered (IsBoundary-byte_at l e cs r.start, IsBoundary-byte_at l e cs r.end)
    | inr not_ordered ↦ rw not_ordered tt
  ]
