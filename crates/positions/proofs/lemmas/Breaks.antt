-- The break of a line, and the byte of a position by the rest of the part that its line begins in.
use Rattle.positions.specs.Characters.{IsBackOf}
use Rattle.positions.proofs.lemmas.Common.{◌≢◌, true, [], ◌∷◌, ◌++◌, refl, append-nil, append_cancel_left, count_by, size-append, size-cons, len_utf8_bounds, cut_front, to_byte_idx-le-size, line_feed, IsBoundary, ◌≡◌, ℕ, ◌+◌, ◌-◌, ◌<◌, ◌≤◌, inl, inr, sym, ap, ◌∙◌, arith, cases_lt, to_le_iff, from-to, to-from_is_greatest, from_byte_idx-le, IsBoundary-to_byte_idx, IsGreatestBoundary, IsCrlfMiddle, Text, size, count, from_byte_idx, to_byte_idx, to_byte_idx-zero, before_first, carriage_return, scheme_of, is_break, line_end, LineType, cut_goes_on, boundary_weighed_iff, weighed_at, Bool, Some, None, ◌⊎◌, min, cut, weighed, boundary_weighed, boundary_weighed_is_greatest, units_of, byte_at, exact_byte_at, line_content, Position, Encoding}
use Rattle.positions.proofs.lemmas.Lines.{before_first-passes, before_first-goes_on, first_of, split_at_first, not_utf16, none_before, feed_breaks, past_last, IsBoundary-line_end, line_of_place, line_end_le, end_before, line_end_past, behind_line}
use Rattle.positions.proofs.lemmas.Parts.{first_content, weighed_none, weighed_before, place_before, content_from, rest_is}
use Rattle.positions.proofs.lemmas.Laws.{units_le_bytes, byte_of_units, units_at_place, exact_by_units, not_exact_by_units}

-- The break of a line, by where the next line begins.

-- the first line ends where its content does
pub first_line_end : (l : LineType) (cs : Text) → line_end l cs 0 ≡ size (before_first (is_break l) cs)
first_line_end l cs = omega (arith, ap size (first_content l cs), to_byte_idx-zero (scheme_of l) cs)

-- which is the end of a text that has no break
pub all_content : (l : LineType) (cs : Text) → count (scheme_of l) cs ≡ 0 → size cs ≡ size (before_first (is_break l) cs)
all_content l cs none = sym (line_end_past l cs 0 (omega (arith, none))) ∙ first_line_end l cs

-- none of its chars begins a break
pub none_before_end : (l : LineType) (cs : Text) → size (before_first (is_break l) cs) ≡ size cs → count_by (is_break l) cs ≡ 0
none_before_end l cs all =
    let parts = split_at_first (is_break l) cs in
    let sizes = ap size parts.split ∙ size-append (before_first (is_break l) cs) parts.after in
    (elim parts.after as (λ after. parts.after ≡ after → count_by (is_break l) cs ≡ 0) [
      | [] ↦ λ is.
          let same : cs ≡ before_first (is_break l) cs =
          parts.split ∙ ap (λ r. before_first (is_break l) cs ++ r) is ∙ append-nil (before_first (is_break l) cs) in
          ap (count_by (is_break l)) same ∙ parts.none
      | c ∷ rest ↦ λ is. absurd (omega (arith, all, sizes, ap size is, size-cons c rest, len_utf8_bounds c))
    ]) refl

-- and a text that is all content has none
pub none_in_content : (l : LineType) (cs : Text) → size (before_first (is_break l) cs) ≡ size cs → count (scheme_of l) cs ≡ 0
none_in_content l cs all =
    let s = scheme_of l in
    let end = first_line_end l cs in
    let on_end = line_of_place l cs 0 (line_end l cs 0) (omega arith) (omega arith) in
    elim (cases_lt 0 (count s cs)) [
      | inr none ↦ omega arith
      | inl more ↦
          let next = line_end_le l cs 0 1 (omega arith) in
          let same : to_byte_idx s cs 1 ≡ line_end l cs 0 = omega (arith, end, next, to_byte_idx-le-size s cs 1) in
          absurd (omega (arith, on_end, from-to s (not_utf16 l) cs 1, ap (from_byte_idx s cs) same))
    ]

-- so a text has a break where its back has one
some_behind : (l : LineType) (a b : Text) → 0 < count (scheme_of l) b → 0 < count (scheme_of l) (a ++ b)
some_behind l a b some = elim (cases_lt 0 (count (scheme_of l) (a ++ b))) [
  | inl more ↦ more
  | inr le ↦
      let all = all_content l (a ++ b) (omega arith) in
      let sizes = size-append a b in
      let few = split_at_first (is_break l) a in
      let within = ap size few.split ∙ size-append (before_first (is_break l) a) few.after in
      let whole : size (before_first (is_break l) b) ≡ size b = elim (first_of (is_break l) a b) [
        | inl (none, goes_on) ↦ omega (arith, all, ap size goes_on, size-append a (before_first (is_break l) b), sizes)
        | inr same ↦
            let parts = split_at_first (is_break l) b in
            omega (arith, all, ap size same, sizes, within, ap size parts.split ∙ size-append (before_first (is_break l) b) parts.after)
      ] in
      absurd (omega (arith, some, none_in_content l b whole))
]

module _ (l : LineType) (cs : Text) (line : ℕ) (more : line < count (scheme_of l) cs) where
  abbrev start : ℕ
  start = to_byte_idx (scheme_of l) cs line

  abbrev next : ℕ
  next = to_byte_idx (scheme_of l) cs (line + 1)

  on_next : from_byte_idx (scheme_of l) cs next ≡ line + 1
  on_next = omega (arith, from-to (scheme_of l) (not_utf16 l) cs (line + 1), more)

  -- the next line begins after the text's beginning
  pub next_above : 1 ≤ next
  next_above = elim (cases_lt 0 next) [
    | inl above ↦ above
    | inr le ↦
        let zero : next ≡ 0 = omega (arith, le) in
        absurd (omega (arith, on_next, ap (from_byte_idx (scheme_of l) cs) zero, none_before l cs))
  ]

  -- a place before it is not on it
  before_next : (p : ℕ) → from_byte_idx (scheme_of l) cs p ≤ line → p < next
  before_next p few = elim (cases_lt p next) [
    | inl is ↦ is
    | inr le ↦ absurd (omega (
      arith,
      (to_le_iff (scheme_of l) (not_utf16 l) cs p (line + 1) (omega (arith, more))).0 le,
      few,
    ))
  ]

  module _ (last : ℕ) (is : IsGreatestBoundary cs (next - 1) last) where
    start_le : start ≤ last
    start_le =
        let on_start = from-to (scheme_of l) (not_utf16 l) cs line in
        is.greatest start (IsBoundary-to_byte_idx (scheme_of l) cs line)
        (omega (arith, before_next start (omega (arith, on_start))))

    -- the last char before it begins on the line
    on_last : from_byte_idx (scheme_of l) cs last ≡ line
    on_last =
        let few = to_le_iff (scheme_of l) (not_utf16 l) cs last (line + 1) (omega (arith, more)) in
        let on_start = from-to (scheme_of l) (not_utf16 l) cs line in
        elim (cases_lt line (from_byte_idx (scheme_of l) cs last)) [
          | inl past ↦ absurd (omega (arith, few.1 (omega (arith, past)), is.at_or_before, next_above))
          | inr le ↦
              omega (arith, le, on_start, from_byte_idx-le (scheme_of l) cs start last start_le, more)
        ]

    -- it is LF, and a CR before it is of the break
    pub ends_before_return : is_break l carriage_return ≡ true → IsCrlfMiddle cs last → line_end l cs line + 1 ≡ last
    ends_before_return breaks middle =
        omega (arith, ap (line_end l cs) on_last, behind_line l cs last breaks middle)

    -- or it is the break
    pub ends_before_last : (is_break l carriage_return ≡ true → ¬ (IsCrlfMiddle cs last)) → line_end l cs line ≡ last
    ends_before_last other =
        let end = line_end l cs line in
        let on_end = line_of_place l cs line end (omega arith) (omega arith) in
        let most = is.greatest end (IsBoundary-line_end l cs line)
        (omega (arith, before_next end (omega (arith, on_end)))) in
        elim (cases_lt end last) [
          | inr le ↦ omega (arith, most, le)
          | inl past ↦
              let (e, is_end, above, at_or_before) = end_before l cs line last is.boundary other past in
              let none = (to-from_is_greatest (scheme_of l) (not_utf16 l) cs last).greatest e is_end at_or_before in
              absurd (omega (arith, none, ap (to_byte_idx (scheme_of l) cs) on_last, above))
        ]

-- a text in which no second line begins before the end, and whose last char begins no break, is all content
none_joined : (l : LineType) (a b : Text) → to_byte_idx (scheme_of l) (a ++ b) 1 ≡ size (a ++ b)
    → IsGreatestBoundary (a ++ b) (size (a ++ b) - 1) (size a) → count (scheme_of l) b ≡ 0
    → size (a ++ b) ≡ size (before_first (is_break l) (a ++ b))
none_joined l a b last greatest none = elim (cases_lt 0 (count (scheme_of l) (a ++ b))) [
  | inr le ↦ all_content l (a ++ b) (omega arith)
  | inl more ↦
      let cs = a ++ b in
      let own = all_content l b none in
      let place : IsGreatestBoundary cs (to_byte_idx (scheme_of l) cs (0 + 1) - 1) (size a) = rw last greatest in
      let short = split_at_first (is_break l) a in
      let within = ap size short.split ∙ size-append (before_first (is_break l) a) short.after in
      elim (first_of (is_break l) a b) [
        | inl (all, goes_on) ↦ omega (arith, ap size goes_on, size-append a (before_first (is_break l) b), size-append a b, own)
        | inr same ↦
            let end = first_line_end l cs in
            let other : is_break l carriage_return ≡ true → IsCrlfMiddle cs (size a) → ⊥ = λ breaks middle.
            let here : IsBoundary cs (size a) = record { front = a; back = b; split = refl; place = refl } in
            let there : IsBoundary cs (size a) = record {
              front = middle.front ++ carriage_return ∷ [];
              back = line_feed ∷ middle.back;
              split = middle.split;
              place = middle.place;
            } in
            let front : a ≡ middle.front ++ carriage_return ∷ [] = sym (cut_front cs (size a) here) ∙ cut_front cs (size a) there in
            let back : b ≡ line_feed ∷ middle.back = append_cancel_left a b (line_feed ∷ middle.back)
            (middle.split ∙ ap (λ f. f ++ line_feed ∷ middle.back) (sym front)) in
            let first : before_first (is_break l) b ≡ [] =
            ap (before_first (is_break l)) back ∙ before_first-passes (is_break l) line_feed middle.back (feed_breaks l) in
            omega (arith, own, ap size first, ap size back, size-cons line_feed middle.back, len_utf8_bounds line_feed) in
            let ends = ends_before_last l cs 0 more (size a) place other in
            let goes_on = before_first-goes_on (is_break l) a b (none_before_end l a (omega (arith, ends, end, ap size same))) in
            omega (arith, own, ap size goes_on, size-append a (before_first (is_break l) b), size-append a b)
      ]
]

-- a text with a part of it after
module _ (l : LineType) (cs b : Text) (at : ℕ) (is : IsBackOf cs b at) where
  pub none_at_end : to_byte_idx (scheme_of l) cs 1 ≡ size cs → IsGreatestBoundary cs (size cs - 1) at
      → count (scheme_of l) b ≡ 0 → size cs ≡ size (before_first (is_break l) cs)
  none_at_end last greatest none =
      let joined = is.parts in
      let whole = rw (sym is.place) at (rw joined at greatest) in
      ap size joined ∙ none_joined l is.front b (rw joined at last) whole none
      ∙ ap (λ t. size (before_first (is_break l) t)) (sym joined)

  pub some_in_back : 0 < count (scheme_of l) b → 0 < count (scheme_of l) cs
  some_in_back some = omega (arith, some_behind l is.front b some, ap (count (scheme_of l)) is.parts)

-- where the second line begins before the end, a text has a break
pub some_before_end : (l : LineType) (cs : Text) → to_byte_idx (scheme_of l) cs 1 ≢ size cs → 0 < count (scheme_of l) cs
some_before_end l cs other = elim (cases_lt 0 (count (scheme_of l) cs)) [
  | inl more ↦ more
  | inr le ↦ absurd (other (past_last l cs 1 (omega arith)))
]

-- The byte of a position, by the rest of the part that its line begins in.

-- the content of a text's beginning is that of the text, up to where it ends
pub content_of_front : (p : ℕ → Bool) (a b : Text) → size (before_first p a) ≡ min (size a) (size (before_first p (a ++ b)))
content_of_front p a b = elim (first_of p a b) [
  | inl (none, more) ↦
      omega (arith, ap size none, ap size more, size-append a (before_first p b))
  | inr same ↦ omega (arith, ap size same, within)
]
  where
    within : size (before_first p a) ≤ size a
    within = let parts = split_at_first p a in omega (arith, ap size parts.split, size-append (before_first p a) parts.after)

-- on the first line, the place of an offset is that in the text, or the end of the content before that
pub byte_on_first : (l : LineType) (e : Encoding) (cs : Text) (k : ℕ)
    → size (before_first (is_break l) (cut cs (boundary_weighed (units_of e) cs k)))
    ≡ byte_at l e cs (record { line = 0; character = k })
byte_on_first l e cs k =
    let w = units_of e in
    let place = boundary_weighed w cs k in
    let at = (boundary_weighed_is_greatest w cs k).boundary in
    let front = cut_front cs place at in
    let zero = to_byte_idx-zero (scheme_of l) cs in
    let none : weighed w cs (to_byte_idx (scheme_of l) cs 0) + k ≡ k = omega (arith, ap (weighed w cs) zero, weighed_none w cs) in
    omega (
      arith,
      byte_of_units l e cs (record { line = 0; character = k }),
      ap (boundary_weighed w cs) none,
      zero,
      ap size (first_content l cs),
      ap (λ f. size (before_first (is_break l) f)) front,
      content_of_front (is_break l) at.front at.back,
      ap (λ t. size (before_first (is_break l) t)) at.split,
      at.place,
    )

-- the same, by the bytes that are no more than the units, and what comes after them
module _ (l : LineType) (e : Encoding) (cs : Text) (k near : ℕ) (greatest : IsGreatestBoundary cs k near) where
  abbrev first_place : ℕ
  first_place = boundary_weighed (units_of e) cs k

  abbrev begin : Text
  begin = greatest.boundary.front

  within_place : near ≤ first_place
  within_place = (boundary_weighed_iff (units_of e) cs near k greatest.boundary).1 (omega (
    arith,
    weighed_at (units_of e) cs near greatest.boundary,
    units_le_bytes e begin,
    greatest.boundary.place,
    greatest.at_or_before,
  ))

  goes_on_to_place : (more : Text) × (cut cs first_place ≡ begin ++ more)
  goes_on_to_place = cut_goes_on cs begin greatest.boundary.back first_place greatest.boundary.split
      (omega (arith, within_place, greatest.boundary.place))

  pub near_in_cut : IsBoundary (cut cs first_place) near
  near_in_cut = let (more, is) = goes_on_to_place in
      record { front = begin; back = more; split = is; place = greatest.boundary.place }

  end_of_begin : (end : ℕ) → end ≡ size (before_first (is_break l) (cut cs near)) → end ≡ size (before_first (is_break l) begin)
  end_of_begin end is = is ∙ ap (λ t. size (before_first (is_break l) t)) (cut_front cs near greatest.boundary)

  pub end_near : (end : ℕ) → end ≡ size (before_first (is_break l) (cut cs near)) → end < near
      → end ≡ byte_at l e cs (record { line = 0; character = k })
  end_near end end_is before =
      let (more, is) = goes_on_to_place in
      let own = end_of_begin end end_is in
      elim (first_of (is_break l) begin more) [
        | inl (all, _) ↦ absurd (omega (arith, own, ap size all, greatest.boundary.place, before))
        | inr same ↦
            own ∙ ap size (sym same) ∙ ap (λ t. size (before_first (is_break l) t)) (sym is) ∙ byte_on_first l e cs k
      ]

  pub end_behind : (end own : ℕ) (rest : Text) → end ≡ size (before_first (is_break l) (cut cs near)) → near ≤ end
      → IsBackOf (cut cs first_place) rest near → own ≡ size (before_first (is_break l) rest)
      → near + own ≡ byte_at l e cs (record { line = 0; character = k })
  end_behind end own rest end_is past behind own_is =
      let (more, is) = goes_on_to_place in
      let there : IsBoundary (cut cs first_place) near =
      record { front = begin; back = more; split = is; place = greatest.boundary.place } in
      let here : IsBoundary (cut cs first_place) near =
      record { front = behind.front; back = rest; split = behind.parts; place = behind.place } in
      let same : begin ≡ behind.front =
      sym (cut_front (cut cs first_place) near there) ∙ cut_front (cut cs first_place) near here in
      let split = split_at_first (is_break l) begin in
      let sizes = ap size split.split ∙ size-append (before_first (is_break l) begin) split.after in
      let none = none_before_end l begin (omega (arith, end_of_begin end end_is, past, greatest.boundary.place, sizes)) in
      let goes_on = before_first-goes_on (is_break l) behind.front rest (rw same at none) in
      let all = ap (λ t. size (before_first (is_break l) t)) behind.parts ∙ ap size goes_on
      ∙ size-append behind.front (before_first (is_break l) rest) in
      omega (arith, all, own_is, behind.place, byte_on_first l e cs k)

module _ (l : LineType) (e : Encoding) (cs : Text) (p : Position) (front rest back : Text) (start : ℕ)
    (split : cs ≡ front ++ (rest ++ back)) (place : size front ≡ start) (start_is : start ≡ to_byte_idx (scheme_of l) cs p.line) where
  -- the content of the line, and what of it is in the rest
  abbrev content : Text
  content = line_content l cs p.line

  abbrev part : Text
  part = before_first (is_break l) rest

  abbrev own_position : Position
  own_position = record { line = 0; character = p.character }

  abbrev w : ℕ → ℕ
  w = units_of e

  goes_on : content ≡ before_first (is_break l) (rest ++ back)
  goes_on = content_from l cs p.line front (rest ++ back) split (place ∙ start_is)

  -- the content is that part, or all of the rest and more
  part_or_more : ((part ≡ rest) × (content ≡ rest ++ before_first (is_break l) back)) ⊎ (content ≡ part)
  part_or_more = elim (first_of (is_break l) rest back) [
    | inl (none, more) ↦ inl (none, goes_on ∙ more)
    | inr same ↦ inr (goes_on ∙ same)
  ]

  -- where the text ends with the rest, it is that part
  part_at_end : start + size rest ≡ size cs → content ≡ part
  part_at_end ends =
      goes_on ∙ ap (before_first (is_break l)) (rest_is cs front rest back start split place ends)

  -- so the line ends where that does, where the rest tells it
  pub end_told : (k : ℕ) → k ≡ size part → (k < size rest) ⊎ (start + size rest ≡ size cs) → start + k ≡ line_end l cs p.line
  end_told k is (inr ends) = omega (arith, is, start_is, ap size (part_at_end ends))
  end_told k is (inl inside) = elim part_or_more [
    | inl (none, more) ↦ absurd (omega (arith, is, inside, ap size none))
    | inr same ↦ omega (arith, is, start_is, ap size same)
  ]

  -- the byte of the position in the rest
  place_is : (own : ℕ) → own ≡ byte_at l e rest own_position → own ≡ boundary_weighed w part p.character
  place_is own is = omega (
    arith,
    is,
    ap (λ t. boundary_weighed w t p.character) (first_content l rest),
    to_byte_idx-zero (scheme_of l) rest,
  )

  byte_in_rest : (own : ℕ) → own ≡ byte_at l e rest own_position → own < size rest → start + own ≡ byte_at l e cs p
  byte_in_rest own is inside =
      let here_is = place_is own is in
      elim part_or_more [
        | inl (none, more) ↦
            let here = here_is ∙ ap (λ t. boundary_weighed w t p.character) none in
            let same = place_before w rest (before_first (is_break l) back) p.character (omega (arith, inside, here)) in
            omega (arith, start_is, here, same, ap (λ t. boundary_weighed w t p.character) more)
        | inr same ↦ omega (arith, start_is, here_is, ap (λ t. boundary_weighed w t p.character) same)
      ]

  byte_at_end : (own : ℕ) → own ≡ byte_at l e rest own_position → start + size rest ≡ size cs
      → start + own ≡ byte_at l e cs p
  byte_at_end own is ends = omega (
    arith,
    start_is,
    place_is own is,
    ap (λ t. boundary_weighed w t p.character) (part_at_end ends),
  )

  -- where it is before the end of the rest, or the text ends there, it is the place in the text
  pub byte_told : (own : ℕ) → own ≡ byte_at l e rest own_position → (own < size rest) ⊎ (start + size rest ≡ size cs)
      → start + own ≡ byte_at l e cs p
  byte_told own is (inl inside) = byte_in_rest own is inside
  byte_told own is (inr ends) = byte_at_end own is ends

  -- the units before its place in the content are those in the part, where that place is told
  units_told : (own : ℕ) → own ≡ byte_at l e rest own_position → (own < size rest) ⊎ (start + size rest ≡ size cs)
      → weighed w content (boundary_weighed w content p.character) ≡ weighed w part (boundary_weighed w part p.character)
  units_told own is (inr ends) = ap (λ t. weighed w t (boundary_weighed w t p.character)) (part_at_end ends)
  units_told own is (inl inside) = elim part_or_more [
    | inr equal ↦ ap (λ t. weighed w t (boundary_weighed w t p.character)) equal
    | inl (none, more) ↦
        let whole = rest ++ before_first (is_break l) back in
        let here = place_is own is ∙ ap (λ t. boundary_weighed w t p.character) none in
        let same = place_before w rest (before_first (is_break l) back) p.character (omega (arith, inside, here)) in
        let units = weighed_before w rest (before_first (is_break l) back)
        (boundary_weighed w rest p.character) (omega (arith, inside, here)) in
        ap (λ t. weighed w t (boundary_weighed w t p.character)) more ∙ ap (weighed w whole) same ∙ units
        ∙ sym (ap (λ t. weighed w t (boundary_weighed w t p.character)) none)
  ]

  -- so the units before it in the rest are those on the line
  units_in_rest : (own : ℕ) → own ≡ byte_at l e rest own_position → (own < size rest) ⊎ (start + size rest ≡ size cs)
      → weighed w cs (byte_at l e cs p) ≡ weighed w cs (to_byte_idx (scheme_of l) cs p.line) + weighed w rest own
  units_in_rest own is told =
      let first = ap (λ t. weighed w t (boundary_weighed w t p.character)) (first_content l rest) in
      omega (
        arith,
        units_at_place l e cs p,
        units_told own is told,
        first,
        units_at_place l e rest own_position,
        weighed_none w rest,
        ap (weighed w rest) is,
        ap (weighed w rest) (to_byte_idx-zero (scheme_of l) rest),
      )

  pub exact_told : (own : ℕ) → own ≡ byte_at l e rest own_position → (own < size rest) ⊎ (start + size rest ≡ size cs)
      → p.line ≤ count (scheme_of l) cs → weighed w rest own ≡ p.character → Some (start + own) ≡ exact_byte_at l e cs p
  exact_told own is told has same = ap (λ n. Some n) (byte_told own is told)
      ∙ exact_by_units l e cs p has (omega (arith, units_in_rest own is told, same))

  pub none_told : (own : ℕ) → own ≡ byte_at l e rest own_position → (own < size rest) ⊎ (start + size rest ≡ size cs)
      → weighed w rest own ≢ p.character → None ≡ exact_byte_at l e cs p
  none_told own is told other =
      not_exact_by_units l e cs p (inr (λ same. other (omega (arith, units_in_rest own is told, same))))
