-- The answers of the questions and their costs, as the functions ask for them.
use Rattle.std.proofs.Math.Nat.{pow-zero, pow-le-pow_right, mul-mul-mul_comm}
use Rattle.positions.proofs.lemmas.Common.{◌≡◌, ℕ, ◌+◌, ◌-◌, ◌*◌, ◌^◌, ◌≤◌, refl, sym, ◌∙◌, ap, arith, pow-add, mul-le-mul, PartsState, IsSearched, Searched, Some, None, ◌≢◌, ◌<◌, ◌⊎◌, min, [], ◌∷◌, ◌++◌, inl, inr, ap₂, append_assoc, cases_lt, size-append, sum_by-append, sum_by-cons, line_feed, Scheme, cut, cut_is_longest, weighed_at, weighed-le-weighed, from-to, to-from_is_greatest, to_byte_idx-le-size, from_byte_idx-all, from_byte_idx-le, from_byte_idx-le-count, count-le-size, IsBoundary, IsGreatestBoundary, Text, size, count, from_byte_idx, to_byte_idx, weighed, boundary_weighed, units_of, carriage_return, chars, before_first, is_break, scheme_of, line_end, position_at, byte_at, exact_byte_at, IsPart, HasByte, HasLine, Part, Position, Encoding, LineType}
use Rattle.positions.proofs.lemmas.Lines.{boundary_within, not_utf16, none_before, IsBoundary-line_end, begins_behind, middle_above, weighed_on_line, weighed_behind_line}
use Rattle.positions.proofs.lemmas.Laws.{place_of_least, units_le_bytes, units_of_position, byte_of_units, units_at_place, exact_by_units, not_exact_by_units}
use Rattle.positions.specs.Characters.{IsBackOf}
use Rattle.positions.specs.Lines.{IsCrlfOffset}
use Rattle.positions.specs.declared.encodings.Encoding.TheVariants.{Utf8, Utf16, Utf32}
use Rattle.positions.proofs.lemmas.Parts.{weighed_behind, weighed_none, ends_within, greatest_in_part, line_in_part, start_in_part, units_in_part}
use Rattle.positions.proofs.lemmas.Breaks.{next_above, ends_before_return, ends_before_last, byte_told, end_told, exact_told, none_told}

-- The cost of several searches together.

-- none
pub none_taken : (state : PartsState) → Searched 0 0 state state
none_taken state = record {
  text = refl;
  pieces = refl;
  latest_start = refl;
  byte_choices = refl;
  count_choices = refl;
  unit_searches = refl;
  looks = let still : state.looks - state.looks ≡ 0 = omega arith in
      omega (
        arith,
        ap (λ n. 2 ^ n) still,
        pow-zero 2,
        ap (λ n. n * (state.count_choices ^ 0)) (pow-zero state.byte_choices),
        ap (λ n. 1 * n) (pow-zero state.count_choices),
      );
  looks_kept = omega arith;
  reads = omega arith;
  reads_kept = omega arith;
}

-- some, and then others
pub taken_after : {i j k m : ℕ} {a b c : PartsState} → Searched i j a b → Searched k m b c → Searched (i + k) (j + m) a c
taken_after {i} {j} {k} {m} {a} {b} {c} first next =
    let together : (b.looks - a.looks) + (c.looks - b.looks) ≡ c.looks - a.looks =
    omega (arith, first.looks_kept, next.looks_kept) in
    let later : 2 ^ (c.looks - b.looks) ≤ (a.byte_choices ^ k) * (a.count_choices ^ m) = rw (first.byte_choices, first.count_choices) at next.looks in
    let both = mul-le-mul first.looks later in
    record {
      text = next.text ∙ first.text;
      pieces = next.pieces ∙ first.pieces;
      latest_start = next.latest_start ∙ first.latest_start;
      byte_choices = next.byte_choices ∙ first.byte_choices;
      count_choices = next.count_choices ∙ first.count_choices;
      unit_searches = next.unit_searches ∙ first.unit_searches;
      looks = rw (
        sym together,
        pow-add 2 (b.looks - a.looks) (c.looks - b.looks),
        pow-add a.byte_choices i k,
        pow-add a.count_choices j m,
        mul-mul-mul_comm (a.byte_choices ^ i) (a.byte_choices ^ k) (a.count_choices ^ j) (a.count_choices ^ m),
      ) both;
      looks_kept = omega (arith, first.looks_kept, next.looks_kept);
      reads = omega (arith, first.reads, next.reads);
      reads_kept = omega (arith, first.reads_kept, next.reads_kept);
    }

-- at most fewer searches is at most more
pub taken_within : {i j k m : ℕ} {a b : PartsState} → IsSearched a → i ≤ k → j ≤ m → Searched i j a b → Searched k m a b
taken_within {i} {j} {k} {m} {a} {b} some le more took =
    let byte = pow-le-pow_right some.byte_choices le in
    let count = pow-le-pow_right some.count_choices more in
    record {
      text = took.text;
      pieces = took.pieces;
      latest_start = took.latest_start;
      byte_choices = took.byte_choices;
      count_choices = took.count_choices;
      unit_searches = took.unit_searches;
      looks = omega (arith, took.looks, mul-le-mul byte count);
      looks_kept = took.looks_kept;
      reads = omega (arith, took.reads, le, more);
      reads_kept = took.reads_kept;
    }

-- some, and then others, at most these together
pub taken_both : {i j k m p q : ℕ} {a b c : PartsState} → IsSearched a → Searched i j a b → Searched k m b c → i + k ≤ p → j + m ≤ q
    → Searched p q a c
taken_both some first next le more = taken_within some le more (taken_after first next)

-- a search leaves what another may take
pub searched_before : {i j : ℕ} {a b : PartsState} → Searched i j a b → IsSearched b → IsSearched a
searched_before {i} {j} {a} {b} took some = record {
  byte_choices = omega (arith, took.byte_choices, some.byte_choices);
  count_choices = omega (arith, took.count_choices, some.count_choices);
}

-- The answers for a text that a part of it tells, as the functions ask for them.

-- up to a place it has no more either
pub weighed_within : (e : Encoding) (cs : Text) (n : ℕ) → weighed (units_of e) cs n ≤ size cs
weighed_within e cs n =
    let longest = cut_is_longest cs n in
    omega (
      arith,
      units_le_bytes e (cut cs n),
      ap size longest.split,
      size-append (cut cs n) longest.back,
    )

-- CR is one unit of each encoding
return_weighs : (e : Encoding) → units_of e carriage_return ≡ 1
return_weighs Utf8 = refl
return_weighs Utf16 = refl
return_weighs Utf32 = refl

-- after a boundary a text weighs what is before it, and what is after it
pub weighed_from : (w : ℕ → ℕ) (cs rest : Text) (at n : ℕ) → IsBackOf cs rest at
    → weighed w cs (at + n) ≡ weighed w cs at + weighed w rest n
weighed_from w cs rest at n is =
    let zero : size is.front + 0 ≡ at = omega (arith, is.place) in
    let there : size is.front + n ≡ at + n = omega (arith, is.place) in
    omega (
      arith,
      weighed_behind w is.front rest n,
      weighed_behind w is.front rest 0,
      weighed_none w rest,
      ap (weighed w (is.front ++ rest)) zero,
      ap (weighed w (is.front ++ rest)) there,
      ap (λ t. weighed w t at) is.parts,
      ap (λ t. weighed w t (at + n)) is.parts,
    )

module _ (cs : Text) (l : LineType) (e : Encoding) (part : Part) (is : IsPart cs l e part) where
  abbrev own : Text
  own = chars part.text.now

  abbrev s : Scheme
  s = scheme_of l

  abbrev w : ℕ → ℕ
  w = units_of e

  pub part_within : part.start + size own ≤ size cs
  part_within = ends_within cs is.front own is.back part.start is.split is.start

  -- the units of the text up to a place in the part
  pub units_at : (at : ℕ) → at ≤ size own → weighed w cs part.start + weighed w own at ≡ weighed w cs (part.start + at)
  units_at at within = sym (units_in_part cs is.front own is.back part.start is.split is.start w (weighed w cs part.start) refl at
      (inl within))

  -- where a line begins that begins in the part
  pub lines_within : (line : ℕ) → HasLine cs l line part → part.lines ≤ line
  lines_within line round = elim round.after [
    | inl past ↦ omega (arith, past)
    | inr first ↦ omega (arith, is.lines, ap (from_byte_idx s cs) first, none_before l cs)
  ]

  pub line_place : (line : ℕ) → HasLine cs l line part
      → part.start + to_byte_idx s own (line - part.lines) ≡ to_byte_idx s cs line
  line_place line round =
      sym (start_in_part cs is.front own is.back part.start is.split is.start l part.lines is.lines line round.after round.before)

  -- the end of a line, by where the next one begins in the part
  module _ (line next : ℕ) (round : HasLine cs l (line + 1) part) (place : part.start + next ≡ to_byte_idx s cs (line + 1))
      (at : IsBoundary own next) (more : line < count s cs) where
    pub next_in_part : 1 ≤ next
    next_in_part = elim (cases_lt 0 next) [
      | inl above ↦ above
      | inr le ↦
          let same : part.start ≡ to_byte_idx s cs (line + 1) = omega (arith, place, le) in
          let counted = from-to s (not_utf16 l) cs (line + 1) in
          elim round.after [
            | inl past ↦ absurd (omega (arith, is.lines, ap (from_byte_idx s cs) same, counted, more, past))
            | inr first ↦ absurd (omega (arith, first, same, next_above l cs line more))
          ]
    ]

    next_within : next ≤ size own
    next_within = boundary_within own next at

    module _ (last : ℕ) (greatest : IsGreatestBoundary own (next - 1) last) where
      pub last_inside : last < size own
      last_inside = omega (arith, greatest.at_or_before, next_within, next_in_part)

      last_in_text : IsGreatestBoundary cs (to_byte_idx s cs (line + 1) - 1) (part.start + last)
      last_in_text =
          let before : to_byte_idx s cs (line + 1) - 1 - part.start ≡ next - 1 = omega (arith, place) in
          greatest_in_part cs is.front own is.back part.start is.split is.start (to_byte_idx s cs (line + 1) - 1) last
          (omega (arith, place, next_in_part)) (inl (omega (arith, place, next_in_part, next_within))) (rw before greatest)

      pub return_within : (n : ℕ) → IsCrlfOffset l cs (part.start + last) n → n ≤ part.start + last
      return_within n (inl (one, (_, middle))) = omega (arith, one, middle_above cs (part.start + last) middle)
      return_within n (inr (none, _)) = omega (arith, none)

      pub end_is : (n : ℕ) → IsCrlfOffset l cs (part.start + last) n → part.start + last - n ≡ line_end l cs line
      end_is n (inl (one, (breaks, middle))) =
          omega (arith, one, ends_before_return l cs line more (part.start + last) last_in_text breaks middle)
      end_is n (inr (none, other)) =
          omega (arith, none, ends_before_last l cs line more (part.start + last) last_in_text other)

  -- the rest of the part from a boundary on
  module _ (at : ℕ) (rest : Text) (behind : IsBackOf own rest at) where
    rest_split : cs ≡ (is.front ++ behind.front) ++ (rest ++ is.back)
    rest_split =
        let parts : is.front ++ ((behind.front ++ rest) ++ is.back) ≡ (is.front ++ behind.front) ++ (rest ++ is.back) =
        simp append_assoc in
        is.split ∙ ap (λ p. is.front ++ (p ++ is.back)) behind.parts ∙ parts

    rest_place : size (is.front ++ behind.front) ≡ part.start + at
    rest_place = omega (arith, size-append is.front behind.front, is.start, behind.place)

    rest_told : (k : ℕ) → (k < size rest) ⊎ (part.start + size own ≡ size cs)
        → (k < size rest) ⊎ (part.start + at + size rest ≡ size cs)
    rest_told k (inl inside) = inl inside
    rest_told k (inr last) =
        inr (omega (arith, last, ap size behind.parts, size-append behind.front rest, behind.place))

    -- a line that begins there ends where its content in the rest does, where the rest tells that
    pub line_end_told : (line k : ℕ) → part.start + at ≡ to_byte_idx s cs line → k ≡ size (before_first (is_break l) rest)
        → (k < size rest) ⊎ (part.start + size own ≡ size cs) → part.start + at + k ≡ line_end l cs line
    line_end_told line k place k_is told = end_told l e cs (record { line = line; character = 0 }) (is.front ++ behind.front) rest
        is.back (part.start + at) rest_split rest_place place k k_is (rest_told k told)

    -- a place on a line that begins there is that of the text, where the rest tells it
    module _ (p : Position) (place : part.start + at ≡ to_byte_idx s cs p.line) (k : ℕ)
        (k_is : k ≡ byte_at l e rest (record { line = 0; character = p.character }))
        (told : (k < size rest) ⊎ (part.start + size own ≡ size cs)) where
      pub place_told : part.start + at + k ≡ byte_at l e cs p
      place_told = byte_told l e cs p (is.front ++ behind.front) rest is.back (part.start + at) rest_split rest_place place k k_is
          (rest_told k told)

      pub exact_place : p.line ≤ count s cs → weighed w rest k ≡ p.character → Some (part.start + at + k) ≡ exact_byte_at l e cs p
      exact_place has same = exact_told l e cs p (is.front ++ behind.front) rest is.back (part.start + at) rest_split rest_place
          place k k_is (rest_told k told) has same

      pub no_place : weighed w rest k ≢ p.character → None ≡ exact_byte_at l e cs p
      no_place other = none_told l e cs p (is.front ++ behind.front) rest is.back (part.start + at) rest_split rest_place
          place k k_is (rest_told k told) other

-- a byte between a CR that begins a break and LF has one unit more before it than the end of its line
on_line : (l : LineType) (e : Encoding) (cs : Text) (b n : ℕ) → IsCrlfOffset l cs b n
    → n + weighed (units_of e) cs (min b (line_end l cs (from_byte_idx (scheme_of l) cs b))) ≡ weighed (units_of e) cs b
on_line l e cs b n (inr (none, other)) = omega (arith, none, weighed_on_line l cs b (units_of e) other)
on_line l e cs b n (inl (one, (breaks, middle))) =
    let w = units_of e in
    let front = middle.front in
    let at : IsBoundary cs b =
    record { front = front ++ carriage_return ∷ []; back = line_feed ∷ middle.back; split = middle.split; place = middle.place } in
    let before : IsBoundary cs (b - 1) = record {
      front = front;
      back = carriage_return ∷ line_feed ∷ middle.back;
      split = middle.split ∙ append_assoc front (carriage_return ∷ []) (line_feed ∷ middle.back);
      place = omega (arith, middle.place, size-append front (carriage_return ∷ []));
    } in
    omega (
      arith,
      one,
      weighed_behind_line l cs b breaks middle w,
      weighed_at w cs b at,
      weighed_at w cs (b - 1) before,
      sum_by-append w front (carriage_return ∷ []),
      sum_by-cons w carriage_return [],
      return_weighs e,
    )

-- the position of a byte, by the part that it is in
module _ (cs : Text) (l : LineType) (e : Encoding) (part : Part) (is : IsPart cs l e part) (byte : ℕ)
    (round : HasByte cs byte part) (at : ℕ) (at_is : at ≡ min (byte - part.start) (size (chars part.text.now))) where
  abbrev text : Text
  text = chars part.text.now

  abbrev here : ℕ
  here = part.start + at

  pub here_is : here ≡ min byte (size cs)
  here_is = elim round.before [
    | inl inside ↦ omega (arith, inside, at_is, round.after, part_within cs l e part is)
    | inr last ↦ omega (arith, last, at_is, round.after)
  ]

  pub at_within : at ≤ size text
  at_within = omega (arith, at_is)

  pub at_round : (at < size text) ⊎ (part.start + size text ≡ size cs)
  at_round = elim round.before [
    | inl inside ↦ inl (omega (arith, inside, at_is, round.after))
    | inr last ↦ inr last
  ]

  same_line : from_byte_idx (scheme_of l) cs here ≡ from_byte_idx (scheme_of l) cs byte
  same_line = elim (cases_lt byte (size cs)) [
    | inl before ↦ let same : here ≡ byte = omega (arith, here_is, before) in ap (from_byte_idx (scheme_of l) cs) same
    | inr past ↦
        from_byte_idx-all (scheme_of l) cs here (omega (arith, here_is, past)) ∙ sym (from_byte_idx-all (scheme_of l) cs byte past)
  ]

  -- its line
  pub line_told : part.lines + from_byte_idx (scheme_of l) text at ≡ from_byte_idx (scheme_of l) cs byte
  line_told =
      let after : part.start ≤ here = omega arith in
      let own : here - part.start ≡ at = omega arith in
      let before : (here < part.start + size text) ⊎ (part.start + size text ≡ size cs) = elim at_round [
        | inl inside ↦ inl (omega (arith, inside))
        | inr last ↦ inr last
      ] in
      omega (
        arith,
        line_in_part cs is.front text is.back part.start is.split is.start l part.lines is.lines here after before,
        ap (from_byte_idx (scheme_of l) text) own,
        same_line,
      )

  pub lines_short : part.lines + from_byte_idx (scheme_of l) text at ≤ size cs
  lines_short = omega (
    arith,
    line_told,
    from_byte_idx-le-count (scheme_of l) cs byte,
    count-le-size (scheme_of l) cs,
  )

  -- where that begins, where it begins in the part
  pub line_begins : (0 < from_byte_idx (scheme_of l) text at) ⊎ (part.start ≡ 0)
      → part.start + to_byte_idx (scheme_of l) text (from_byte_idx (scheme_of l) text at)
      ≡ to_byte_idx (scheme_of l) cs (from_byte_idx (scheme_of l) cs byte)
  line_begins some =
      let line = from_byte_idx (scheme_of l) cs byte in
      let after : (part.lines < line) ⊎ (part.start ≡ 0) = elim some [
        | inl above ↦ inl (omega (arith, above, line_told))
        | inr first ↦ inr first
      ] in
      let up_to = from_byte_idx-le (scheme_of l) cs here (part.start + size text) (omega (arith, at_within)) in
      let own : line - part.lines ≡ from_byte_idx (scheme_of l) text at = omega (arith, line_told) in
      omega (
        arith,
        start_in_part cs is.front text is.back part.start is.split is.start l part.lines is.lines line after
            (inl (omega (arith, up_to, same_line))),
        ap (to_byte_idx (scheme_of l) text) own,
      )

  -- and else it begins at the part's start or before that
  pub line_before : from_byte_idx (scheme_of l) text at ≡ 0
      → to_byte_idx (scheme_of l) cs (from_byte_idx (scheme_of l) cs byte) ≤ part.start
  line_before none =
      let same : from_byte_idx (scheme_of l) cs byte ≡ from_byte_idx (scheme_of l) cs part.start =
      omega (arith, line_told, none, is.lines) in
      omega (
        arith,
        (to-from_is_greatest (scheme_of l) (not_utf16 l) cs part.start).at_or_before,
        ap (to_byte_idx (scheme_of l) cs) same,
      )

  -- the units from the beginning of the line to it
  module _ (n : ℕ) (behind : IsCrlfOffset l cs here n) (line units : ℕ) (line_is : line ≡ from_byte_idx (scheme_of l) cs byte)
      (units_is : units + weighed (units_of e) cs (to_byte_idx (scheme_of l) cs line) ≡ weighed (units_of e) cs here) where
    character_is : n + (position_at l e cs byte).character ≡ units
    character_is =
        let w = units_of e in
        let end = line_end l cs (from_byte_idx (scheme_of l) cs byte) in
        let within = boundary_within cs end (IsBoundary-line_end l cs (from_byte_idx (scheme_of l) cs byte)) in
        let cut_there : min here (line_end l cs (from_byte_idx (scheme_of l) cs here)) ≡ min byte end =
        omega (arith, ap (line_end l cs) same_line, here_is, within) in
        omega (
          arith,
          on_line l e cs here n behind,
          ap (weighed w cs) cut_there,
          units_of_position l e cs byte,
          ap (λ k. weighed w cs (to_byte_idx (scheme_of l) cs k)) line_is,
          units_is,
        )

    pub return_before : n ≤ units
    return_before = omega (arith, character_is)

    pub position_told : record { line = line; character = units - n } ≡ position_at l e cs byte
    position_told = ap₂ (λ k u. record { line = k; character = u }) line_is (omega (arith, character_is))

  -- where its line begins in the part, the units from there
  pub start_before : (start : ℕ) → start ≡ to_byte_idx (scheme_of l) text (from_byte_idx (scheme_of l) text at) → start ≤ at
  start_before start start_is =
      omega (arith, start_is, (to-from_is_greatest (scheme_of l) (not_utf16 l) text at).at_or_before)

  pub units_from_start : (rest : Text) (start units line : ℕ)
      → start ≡ to_byte_idx (scheme_of l) text (from_byte_idx (scheme_of l) text at) → IsBackOf text rest start
      → units ≡ weighed (units_of e) rest (at - start) → (0 < from_byte_idx (scheme_of l) text at) ⊎ (part.start ≡ 0)
      → line ≡ from_byte_idx (scheme_of l) cs byte
      → units + weighed (units_of e) cs (to_byte_idx (scheme_of l) cs line) ≡ weighed (units_of e) cs here
  units_from_start rest start units line start_is back units_is some line_is =
      let w = units_of e in
      let le = start_before start start_is in
      let whole : start + (at - start) ≡ at = omega (arith, le) in
      let begins : part.start + start ≡ to_byte_idx (scheme_of l) cs line =
      omega (arith, line_begins some, start_is, ap (to_byte_idx (scheme_of l) cs) line_is) in
      omega (
        arith,
        weighed_from w text rest start (at - start) back,
        ap (weighed w text) whole,
        units_is,
        units_at cs l e part is at at_within,
        units_at cs l e part is start (omega (arith, le, at_within)),
        ap (weighed w cs) begins,
      )

  -- and else those of the text up to it, without those before the line
  module _ (n : ℕ) (behind : IsCrlfOffset l cs here n) (line before units : ℕ)
      (line_is : line ≡ from_byte_idx (scheme_of l) cs byte)
      (before_is : before ≡ weighed (units_of e) cs (to_byte_idx (scheme_of l) cs line))
      (units_is : units ≡ weighed (units_of e) cs here) where
    line_at_or_before : before ≤ units
    line_at_or_before =
        let begins = to_byte_idx (scheme_of l) cs line in
        let le : begins ≤ here = omega (
          arith,
          (to-from_is_greatest (scheme_of l) (not_utf16 l) cs byte).at_or_before,
          ap (to_byte_idx (scheme_of l) cs) line_is,
          to_byte_idx-le-size (scheme_of l) cs line,
          here_is,
        ) in
        omega (arith, weighed-le-weighed (units_of e) cs begins here le, before_is, units_is)

    from_line : units - before + weighed (units_of e) cs (to_byte_idx (scheme_of l) cs line) ≡ weighed (units_of e) cs here
    from_line = omega (arith, line_at_or_before, before_is, units_is)

    pub return_and_line : n + before ≤ units
    return_and_line = omega (arith, return_before n behind line (units - before) line_is from_line, line_at_or_before)

    pub position_cut : record { line = line; character = units - n - before } ≡ position_at l e cs byte
    position_cut =
        let same : units - n - before ≡ units - before - n = omega (arith, return_and_line) in
        ap (λ u. record { line = line; character = u }) same ∙ position_told n behind line (units - before) line_is from_line

-- the byte of a position, by the units before its line and the end of it
pub byte_made : (l : LineType) (e : Encoding) (cs : Text) (p : Position) (end before units most place : ℕ)
    → end ≡ line_end l cs p.line → before ≡ weighed (units_of e) cs (to_byte_idx (scheme_of l) cs p.line)
    → units ≡ min (before + p.character) most → size cs ≤ most → place ≡ boundary_weighed (units_of e) cs units
    → min place end ≡ byte_at l e cs p
byte_made l e cs p end before units most place end_is before_is units_is long place_is =
    let w = units_of e in
    let is = place_is ∙ ap (boundary_weighed w cs) units_is ∙ place_of_least e cs (before + p.character) most long
    ∙ ap (λ b. boundary_weighed w cs (b + p.character)) before_is in
    omega (arith, byte_of_units l e cs p, is, end_is)

-- where the line of a byte begins, by the text after a place: all of it, or one in which a break ends up to the byte
pub begins_of_back : (l : LineType) (cs rest : Text) (from byte breaks : ℕ) → IsBackOf cs rest from → from ≤ byte
    → breaks ≡ from_byte_idx (scheme_of l) rest (byte - from) → (from ≡ 0) ⊎ (0 < breaks)
    → from + to_byte_idx (scheme_of l) rest breaks ≡ to_byte_idx (scheme_of l) cs (from_byte_idx (scheme_of l) cs byte)
begins_of_back l cs rest from byte breaks is before are some = rw is.parts
    (begins_behind l is.front rest from byte breaks is.place before are some)

-- whether a position names a place, and its byte
module _ (l : LineType) (e : Encoding) (cs : Text) (p : Position) (byte before units : ℕ) (byte_is : byte ≡ byte_at l e cs p)
    (before_is : before ≡ weighed (units_of e) cs (to_byte_idx (scheme_of l) cs p.line))
    (units_is : units ≡ weighed (units_of e) cs byte) where
  at_place : units ≡ weighed (units_of e) cs (byte_at l e cs p)
  at_place = units_is ∙ ap (weighed (units_of e) cs) byte_is

  pub line_within : before ≤ units
  line_within = omega (arith, before_is, at_place, units_at_place l e cs p)

  pub exact_made : p.line ≤ count (scheme_of l) cs → units - before ≡ p.character → Some byte ≡ exact_byte_at l e cs p
  exact_made has same = ap (λ n. Some n) byte_is
      ∙ exact_by_units l e cs p has (omega (arith, line_within, before_is, at_place, same))

  pub none_made : units - before ≢ p.character → None ≡ exact_byte_at l e cs p
  none_made other = not_exact_by_units l e cs p (inr (λ same. other (omega (arith, before_is, at_place, same))))
