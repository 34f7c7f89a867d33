-- The lines of a text: its kinds of line break, a text split at one of its lines, and where a byte is on its line.
use Rattle.str_indices.specs.declared.Scheme.TheVariants as schemes
use Rattle.positions.proofs.lemmas.Common.{◌≡◌, ℕ, ◌≤◌, length, drop, ◌∙◌, ap, arith, drop-append_seam, Text, size, size-append, cut_front, IsBoundary, text_after, ◌≢◌, ◌<◌, ◌⊎◌, inl, inr, cases_lt, from_byte_idx-le, true, refl, count, from_byte_idx, to_byte_idx, to_byte_idx-zero, from-to, end_at-past, IsEnd, IsBreakEnd, break_characters, Utf16, line_feed, scheme_of, is_break, LineType, [], ◌∷◌, ◌++◌, sym, carriage_return, joins_crlf, ends_in_return, starts_with_feed, ends_in_return-one, ends_in_return-append, IsCrlfMiddle, Bool, false, not, cond, List, count_by, before_first, cases_Bool, take_while-cons, sum_by-cons, ◌+◌, ◌-◌, min, append_assoc, append-nil, len_utf8, append_cancel_left, sum_by-append, len_utf8_bounds, is_crlf_middle, weighed, IsEndOf, size-cons, boundary_beside, cut_goes_on, is_crlf_middle_iff, weighed_at, IsBoundary-to_byte_idx, to-from_is_greatest, from_byte_idx-le-count, is_joined, seam_loss, to_byte_idx-le, to_byte_idx-le-size, line_content, line_end, cut_is_longest, cut, weighed-le-weighed}
use Rattle.text_summary.proofs.lemmas.Callers.{crlf_by_lf, lines_by_lf, same_cut}
use Rattle.positions.specs.Lines.{HasSameBreaks}
use Rattle.positions.specs.declared.line_type.LineType.TheVariants.{Lf, Crlf, Lines}
use Rattle.std.proofs.lemmas.Bool.{and_from, and_parts, eqb-true}
use Rattle.str_indices.proofs.lemmas.Callers.{ends_in_return-cons, starts_with_feed_is}

-- A text, cut at a boundary.

-- after a boundary is the rest of the text
pub behind_boundary : (cs : Text) (p : ℕ) (at : IsBoundary cs p) → text_after cs p ≡ at.back
behind_boundary cs p at = ap (λ f. drop (length f) cs) (cut_front cs p at)
    ∙ ap (drop (length at.front)) at.split ∙ drop-append_seam at.front at.back

-- a boundary is at or before the end of the text
pub boundary_within : (cs : Text) (p : ℕ) → IsBoundary cs p → p ≤ size cs
boundary_within cs p at = omega (arith, ap size at.split, size-append at.front at.back, at.place)

-- Lemmas about each kind of line break.

-- its scheme does not count units
pub not_utf16 : (l : LineType) → scheme_of l ≢ Utf16
not_utf16 Lf = λ same. cc
not_utf16 Crlf = λ same. cc
not_utf16 Lines = λ same. cc

-- an end of its scheme is that of a break, and the other way round
pub break_of_end : (l : LineType) (cs : Text) (p : ℕ) → IsEnd (scheme_of l) cs p
    → IsBreakEnd (break_characters (scheme_of l)) cs p
break_of_end Lf cs p end = end
break_of_end Crlf cs p end = end
break_of_end Lines cs p end = end

pub end_of_break : (l : LineType) (cs : Text) (p : ℕ) → IsBreakEnd (break_characters (scheme_of l)) cs p
    → IsEnd (scheme_of l) cs p
end_of_break Lf cs p end = end
end_of_break Crlf cs p end = end
end_of_break Lines cs p end = end

-- LF is one of each
pub feed_breaks : (l : LineType) → is_break l line_feed ≡ true
feed_breaks Lf = refl
feed_breaks Crlf = refl
feed_breaks Lines = refl

-- past its last end is the end of the text
pub past_last : (l : LineType) (cs : Text) (k : ℕ) → count (scheme_of l) cs < k → to_byte_idx (scheme_of l) cs k ≡ size cs
past_last Lf cs k past = end_at-past schemes.Lf cs k past
past_last Crlf cs k past = end_at-past schemes.Crlf cs k past
past_last Lines cs k past = end_at-past schemes.Lines cs k past

-- before the beginning of a text no break ends
pub none_before : (l : LineType) (cs : Text) → from_byte_idx (scheme_of l) cs 0 ≡ 0
none_before l cs = omega (
  arith,
  from-to (scheme_of l) (not_utf16 l) cs 0,
  ap (from_byte_idx (scheme_of l) cs) (to_byte_idx-zero (scheme_of l) cs),
)

-- line k begins up to where it begins at most, or the text ends there
pub reached_by : (l : LineType) (cs : Text) (k end : ℕ) → to_byte_idx (scheme_of l) cs k ≤ end → end ≤ size cs
    → (k ≤ from_byte_idx (scheme_of l) cs end) ⊎ (end ≡ size cs)
reached_by l cs k end begins within = elim (cases_lt (count (scheme_of l) cs) k) [
  | inl past ↦ inr (omega (arith, past_last l cs k past, begins, within))
  | inr has ↦
      let s = scheme_of l in
      inl (omega (arith, from-to s (not_utf16 l) cs k, has, from_byte_idx-le s cs (to_byte_idx s cs k) end begins))
]

-- the breaks of a kind are LFs, where as many are
pub as_feeds : (l : LineType) (text : Text) → count (scheme_of l) text ≡ count schemes.Lf text → HasSameBreaks l Lf text
as_feeds Lf text same = record { from = λ b. refl; to = λ n. refl }
as_feeds Crlf text same = let found = crlf_by_lf text same in record { from = found.from; to = found.to }
as_feeds Lines text same = let found = lines_by_lf text same in record { from = found.from; to = found.to }

-- Places between CR and LF, by what joins there.

-- a text that ends in CR, and what is before that
return_last : (a : Text) → ends_in_return a ≡ true → (f : Text) × (a ≡ f ++ carriage_return ∷ [])
return_last [] ends = cc
return_last (c ∷ []) ends =
    let is = eqb-true c carriage_return (sym (ends_in_return-one c) ∙ ends) in
    ([], ap (λ d. d ∷ []) is)
return_last (c ∷ d ∷ cs) ends =
    let (f, is) = return_last (d ∷ cs) (sym (ends_in_return-cons c d cs) ∙ ends) in
    (c ∷ f, ap (λ r. c ∷ r) is)

-- a text that starts with LF, and what is after that
feed_first : (b : Text) → starts_with_feed b ≡ true → (r : Text) × (b ≡ line_feed ∷ r)
feed_first [] starts = cc
feed_first (c ∷ cs) starts =
    let is = eqb-true c line_feed (sym (starts_with_feed_is (c ∷ cs)) ∙ starts) in
    (cs, ap (λ d. d ∷ cs) is)

-- a seam that makes a CRLF is a middle of one
pub middle_of_join : (cs a b : Text) (at : ℕ) → cs ≡ a ++ b → size a ≡ at → joins_crlf a b ≡ true → IsCrlfMiddle cs at
middle_of_join cs a b at split place joins =
    let both = and_parts (ends_in_return a) (starts_with_feed b) joins in
    let (f, ends) = return_last a both.0 in
    let (r, starts) = feed_first b both.1 in
    record {
      front = f;
      back = r;
      split = split ∙ ap (λ x. x ++ b) ends ∙ ap (λ x. (f ++ carriage_return ∷ []) ++ x) starts;
      place = sym (ap size ends) ∙ place;
    }

-- and the other way round
pub join_of_middle : (cs a b : Text) (at : ℕ) → cs ≡ a ++ b → size a ≡ at → IsCrlfMiddle cs at → joins_crlf a b ≡ true
join_of_middle cs a b at split place middle =
    let front = middle.front ++ carriage_return ∷ [] in
    let same = same_cut a b front (line_feed ∷ middle.back) (sym split ∙ middle.split) (place ∙ sym middle.place) in
    let ends : ends_in_return front ≡ true =
    ends_in_return-append middle.front (carriage_return ∷ []) (λ none. cc) ∙ ends_in_return-one carriage_return in
    let starts : starts_with_feed (line_feed ∷ middle.back) ≡ true = starts_with_feed_is (line_feed ∷ middle.back) in
    and_from _ _ (ap ends_in_return same.front ∙ ends) (ap starts_with_feed same.back ∙ starts)

-- The beginning of a text before its first char that passes a test.

module _ (p : ℕ → Bool) where
  -- a first char that passes, and one that doesn't
  pub before_first-passes : (c : ℕ) (cs : List ℕ) → p c ≡ true → before_first p (c ∷ cs) ≡ []
  before_first-passes c cs passes = take_while-cons (λ d. not (p d)) c cs ∙ rw passes refl

  pub before_first-fails : (c : ℕ) (cs : List ℕ) → p c ≡ false → before_first p (c ∷ cs) ≡ c ∷ before_first p cs
  before_first-fails c cs fails = take_while-cons (λ d. not (p d)) c cs ∙ rw fails refl

  -- a text, split where the first char passes, or at its end
  pub record SplitAtFirst (cs : List ℕ) : Type 0 where
    pub after : List ℕ
    pub split : cs ≡ before_first p cs ++ after
    pub none : count_by p (before_first p cs) ≡ 0
    pub next : (c : ℕ) (rest : List ℕ) → after ≡ c ∷ rest → p c ≡ true

  -- each text is split so
  pub split_at_first : (cs : List ℕ) → SplitAtFirst cs
  split_at_first [] = record { after = []; split = refl; none = refl; next = λ c rest is. cc }
  split_at_first (c ∷ cs) =
      elim (cases_Bool (p c)) [
        | inl passes ↦ let none = before_first-passes c cs passes in record {
          after = c ∷ cs;
          split = ap (λ r. r ++ c ∷ cs) (sym none);
          none = ap (count_by p) none;
          next = λ d rest is. let same : c ≡ d = cc in rw same at passes;
        }
        | inr fails ↦
            let content = before_first-fails c cs fails in
            let rest = split_at_first cs in
            let zero : ◌≡◌ {A = ℕ} (cond (p c) 1 0) 0 = rw fails refl in
            record {
              after = rest.after;
              split = ap (λ r. c ∷ r) rest.split ∙ ap (λ r. r ++ rest.after) (sym content);
              none = ap (count_by p) content
                  ∙ omega (arith, sum_by-cons (λ d. cond (p d) 1 0) c (before_first p cs), rest.none);
              next = rest.next;
            }
      ]

-- before the first that passes: nothing of the first list passes, and the second goes on, or it is in the first
pub first_of : (p : ℕ → Bool) (xs ys : List ℕ)
    → ((before_first p xs ≡ xs) × (before_first p (xs ++ ys) ≡ xs ++ before_first p ys))
    ⊎ (before_first p (xs ++ ys) ≡ before_first p xs)
first_of p [] ys = inl (refl, refl)
first_of p (x ∷ xs) ys = elim (cases_Bool (p x)) [
  | inl passes ↦
      let own : before_first p (x ∷ xs) ≡ [] = take_while-cons (λ d. not (p d)) x xs ∙ rw passes refl in
      let all : before_first p (x ∷ xs ++ ys) ≡ [] =
      take_while-cons (λ d. not (p d)) x (xs ++ ys) ∙ rw passes refl in
      inr (all ∙ sym own)
  | inr fails ↦
      let own : before_first p (x ∷ xs) ≡ x ∷ before_first p xs = take_while-cons (λ d. not (p d)) x xs ∙ rw fails refl in
      let all : before_first p (x ∷ xs ++ ys) ≡ x ∷ before_first p (xs ++ ys) =
      take_while-cons (λ d. not (p d)) x (xs ++ ys) ∙ rw fails refl in
      elim (first_of p xs ys) [
        | inl (none, more) ↦ inl (own ∙ ap (λ r. x ∷ r) none, all ∙ ap (λ r. x ∷ r) more)
        | inr same ↦ inr (all ∙ ap (λ r. x ∷ r) same ∙ sym own)
      ]
]

-- if no element of xs passes, and ys is empty or begins with one that does, the beginning of both together is xs
pub before_first-seam : (p : ℕ → Bool) (xs ys : List ℕ) → count_by p xs ≡ 0
    → ((c : ℕ) (rest : List ℕ) → ys ≡ c ∷ rest → p c ≡ true) → before_first p (xs ++ ys) ≡ xs
before_first-seam p [] [] none next = refl
before_first-seam p [] (c ∷ rest) none next =
    take_while-cons (λ d. not (p d)) c rest ∙ rw (next c rest refl) refl
before_first-seam p (x ∷ xs) ys none next = elim (cases_Bool (p x)) [
  | inl passes ↦
      let one : ◌≡◌ {A = ℕ} (cond (p x) 1 0) 1 = rw passes refl in
      absurd (omega (arith, none, sum_by-cons (λ d. cond (p d) 1 0) x xs, one))
  | inr fails ↦
      let zero : ◌≡◌ {A = ℕ} (cond (p x) 1 0) 0 = rw fails refl in
      take_while-cons (λ d. not (p d)) x (xs ++ ys) ∙ rw fails (ap (λ r. x ∷ r)
      (before_first-seam p xs ys (omega (arith, none, sum_by-cons (λ d. cond (p d) 1 0) x xs, zero)) next))
]

-- if no element of xs passes, the beginning goes on into ys
pub before_first-goes_on : (p : ℕ → Bool) (xs ys : List ℕ) → count_by p xs ≡ 0
    → before_first p (xs ++ ys) ≡ xs ++ before_first p ys
before_first-goes_on p [] ys none = refl
before_first-goes_on p (x ∷ xs) ys none = elim (cases_Bool (p x)) [
  | inl passes ↦
      let one : ◌≡◌ {A = ℕ} (cond (p x) 1 0) 1 = rw passes refl in
      absurd (omega (arith, none, sum_by-cons (λ d. cond (p d) 1 0) x xs, one))
  | inr fails ↦
      let zero : ◌≡◌ {A = ℕ} (cond (p x) 1 0) 0 = rw fails refl in
      before_first-fails p x (xs ++ ys) fails ∙ ap (λ r. x ∷ r)
      (before_first-goes_on p xs ys (omega (arith, none, sum_by-cons (λ d. cond (p d) 1 0) x xs, zero)))
]

-- A text, split at one of its lines: what stands before it, its content, and what is after that.

-- no end stands between CR and LF, and neither does the text's beginning
pub not_middle_at_end : (l : LineType) (cs : Text) (p : ℕ) → IsEnd (scheme_of l) cs p ⊎ (p ≡ 0) → ¬ (IsCrlfMiddle cs p)
not_middle_at_end l cs p (inl end) = (break_of_end l cs p end).not_middle
not_middle_at_end l cs p (inr zero) = λ middle.
    let size_of = size-append middle.front (carriage_return ∷ []) in
    omega (arith, middle.place, size-cons carriage_return [], len_utf8_bounds carriage_return)

-- after such a place an end stands
pub feed_ends : (l : LineType) (cs : Text) (p : ℕ) → IsCrlfMiddle cs p → IsEnd (scheme_of l) cs (p + 1)
feed_ends l cs p middle =
    let front = middle.front ++ carriage_return ∷ [] in
    let feed : IsEndOf cs line_feed (p + 1) = record {
      front = front;
      back = middle.back;
      split = middle.split ∙ sym (append_assoc front (line_feed ∷ []) middle.back);
      place = omega (arith, size-append front (line_feed ∷ []), middle.place);
    } in
    end_of_break l cs (p + 1) (record {
      character = line_feed;
      end_of = feed;
      in_set = feed_breaks l;
      not_middle = λ next. let yes = (is_crlf_middle_iff cs line_feed (p + 1) feed).1 next in cc;
    })

-- after the char at which a break begins ends a break, or the place is between CR and LF, and CR begins one
pub ends_behind : (l : LineType) (cs front : Text) (c : ℕ) (back : Text) → cs ≡ front ++ c ∷ back → is_break l c ≡ true
    → IsEnd (scheme_of l) cs (size (front ++ c ∷ []))
    ⊎ (IsCrlfMiddle cs (size (front ++ c ∷ [])) × (is_break l carriage_return ≡ true))
ends_behind l cs front c back split breaks =
    let p = size (front ++ c ∷ []) in
    let end : IsEndOf cs c p =
    record { front = front; back = back; split = split ∙ sym (append_assoc front (c ∷ []) back); place = refl } in
    let iff = is_crlf_middle_iff cs c p end in
    elim (cases_Bool (is_crlf_middle (record { character = c; end = p; after = back }))) [
      | inr other ↦
          let not_middle = λ (middle : IsCrlfMiddle cs p). let yes = iff.1 middle in let clash : ⊥ = cc in clash in
          inl (end_of_break l cs p (record { character = c; end_of = end; in_set = breaks; not_middle = not_middle }))
      | inl passes ↦
          let is = eqb-true c carriage_return (and_parts _ _ passes).0 in
          inr (iff.0 passes, rw is at breaks)
    ]

module _ (l : LineType) (cs : Text) (line : ℕ) where
  -- where the line begins
  abbrev start : ℕ
  start = to_byte_idx (scheme_of l) cs line

  abbrev content : Text
  content = line_content l cs line

  -- the text, split at the line
  pub record LineParts : Type 0 where
    pub before : Text
    pub after : Text
    pub split : cs ≡ before ++ (content ++ after)
    pub split_behind : cs ≡ (before ++ content) ++ after
    pub place : size before ≡ start
    pub none : count_by (is_break l) content ≡ 0
    pub next : (c : ℕ) (rest : Text) → after ≡ c ∷ rest → is_break l c ≡ true

  pub line_parts : LineParts
  line_parts =
      let at = IsBoundary-to_byte_idx (scheme_of l) cs line in
      let parts = split_at_first (is_break l) (text_after cs start) in
      let split = at.split ∙ ap (λ r. at.front ++ r) (sym (behind_boundary cs _ at) ∙ parts.split) in
      record {
        before = at.front;
        after = parts.after;
        split = split;
        split_behind = split ∙ sym (append_assoc at.front content parts.after);
        place = at.place;
        none = parts.none;
        next = parts.next;
      }

  -- the text, split at a boundary of the line's content, which is a boundary of the text
  split_in_content : (p : ℕ) (at : IsBoundary content p)
      → cs ≡ (line_parts.before ++ at.front) ++ (at.back ++ line_parts.after)
  split_in_content p at =
      let parts = line_parts in
      parts.split ∙ ap (λ r. parts.before ++ (r ++ parts.after)) at.split
      ∙ ap (λ r. parts.before ++ r) (append_assoc at.front at.back parts.after)
      ∙ sym (append_assoc parts.before at.front (at.back ++ parts.after))

  pub IsBoundary-from_content : (p : ℕ) → IsBoundary content p → IsBoundary cs (start + p)
  IsBoundary-from_content p at = record {
    front = line_parts.before ++ at.front;
    back = at.back ++ line_parts.after;
    split = split_in_content p at;
    place = let parts = line_parts in omega (arith, size-append parts.before at.front, parts.place, at.place);
  }

  -- before it is what is before the line, and what of the content is before it
  pub weighed-from_content : (w : ℕ → ℕ) (p : ℕ) → IsBoundary content p
      → weighed w cs (start + p) ≡ weighed w cs start + weighed w content p
  weighed-from_content w p at =
      let parts = line_parts in
      let begins : IsBoundary cs start =
      record { front = parts.before; back = content ++ parts.after; split = parts.split; place = parts.place } in
      let here : IsBoundary cs (start + p) = record {
        front = parts.before ++ at.front;
        back = at.back ++ parts.after;
        split = split_in_content p at;
        place = omega (arith, size-append parts.before at.front, parts.place, at.place);
      } in
      omega (
        arith,
        weighed_at w cs start begins,
        weighed_at w cs (start + p) here,
        weighed_at w content p at,
        sum_by-append w parts.before at.front,
      )

  -- its content ends at a boundary
  pub IsBoundary-line_end : IsBoundary cs (line_end l cs line)
  IsBoundary-line_end = IsBoundary-from_content (size content)
      (record { front = content; back = []; split = sym (append-nil content); place = refl })

  -- a boundary of the text between the line's beginning and its end is a boundary of its content
  pub IsBoundary-in_content : (q : ℕ) → IsBoundary cs q → start ≤ q → q ≤ line_end l cs line
      → IsBoundary content (q - start)
  IsBoundary-in_content q at from to =
      let parts = line_parts in
      let behind = content ++ parts.after in
      let (more, begins) = cut_goes_on cs parts.before behind q parts.split (omega (arith, parts.place)) in
      let front = sym (cut_front cs q at) ∙ begins in
      let rests = append_cancel_left parts.before (more ++ at.back) (content ++ parts.after)
      (sym (append_assoc parts.before more at.back) ∙ ap (λ f. f ++ at.back) (sym front) ∙ sym at.split
      ∙ parts.split) in
      let sizes = ap size front ∙ size-append parts.before more in
      let (rest, ends) = cut_goes_on (content ++ parts.after) more at.back (size content) (sym rests)
      (omega (arith, sizes, at.place, parts.place)) in
      let whole : IsBoundary (content ++ parts.after) (size content) =
      record { front = content; back = parts.after; split = refl; place = refl } in
      record {
        front = more;
        back = rest;
        split = sym (cut_front (content ++ parts.after) (size content) whole) ∙ ends;
        place = omega (arith, sizes, at.place, parts.place);
      }

  -- the char of a break that ends after the line's beginning begins at or after the line's end
  pub break_from_line_end : (front : Text) (c : ℕ) (back : Text) → cs ≡ front ++ c ∷ back → is_break l c ≡ true
      → start < size front + len_utf8 c → line_end l cs line ≤ size front
  break_from_line_end front c back split breaks behind =
      let parts = line_parts in
      let weight : ℕ → ℕ = λ d. cond (is_break l d) 1 0 in
      let begins : IsBoundary cs start =
      record { front = parts.before; back = content ++ parts.after; split = parts.split; place = parts.place } in
      let ends : IsBoundary cs (line_end l cs line) = record {
        front = parts.before ++ content;
        back = parts.after;
        split = parts.split_behind;
        place = omega (arith, size-append parts.before content, parts.place);
      } in
      let one : ◌≡◌ {A = ℕ} (weight c) 1 = rw breaks refl in
      let first = boundary_beside weight cs front c back split start begins in
      let last = boundary_beside weight cs front c back split (line_end l cs line) ends in
      omega (arith, len_utf8_bounds c, sum_by-append weight parts.before content, parts.none)

  -- no break ends between the line's beginning and its end
  pub end_behind_line_end : (e : ℕ) → IsEnd (scheme_of l) cs e → start < e → line_end l cs line < e
  end_behind_line_end e is_end above =
      let end = break_of_end l cs e is_end in
      let of = end.end_of in
      let c = end.character in
      let from = break_from_line_end of.front c of.back (of.split ∙ append_assoc of.front (c ∷ []) of.back) end.in_set
      (omega (arith, of.place, size-append of.front (c ∷ []), size-cons c [])) in
      omega (arith, from, of.place, size-append of.front (c ∷ []), size-cons c [], len_utf8_bounds c)

  -- so each place from its beginning to its end is on the line
  pub line_of_place : (p : ℕ) → start ≤ p → p ≤ line_end l cs line → from_byte_idx (scheme_of l) cs p ≡ min line (count (scheme_of l) cs)
  line_of_place p from to =
      let last = to-from_is_greatest (scheme_of l) (not_utf16 l) cs p in
      let begins = to_byte_idx (scheme_of l) cs (from_byte_idx (scheme_of l) cs p) in
      let early : begins ≤ start = elim last.end_or_zero [
        | inl end ↦
            elim (cases_lt start begins) [
              | inl above ↦ absurd (omega (arith, end_behind_line_end begins end above, last.at_or_before))
              | inr le ↦ le
            ]
        | inr zero ↦ omega arith
      ] in
      let here = from-to (scheme_of l) (not_utf16 l) cs line in
      let there = from-to (scheme_of l) (not_utf16 l) cs (from_byte_idx (scheme_of l) cs p) in
      let most = from_byte_idx-le-count (scheme_of l) cs p in
      omega (arith, from_byte_idx-le (scheme_of l) cs start p from, from_byte_idx-le (scheme_of l) cs begins start early)

  -- a later line begins at or after the line's end
  pub line_end_le : (next : ℕ) → line < next → line_end l cs line ≤ to_byte_idx (scheme_of l) cs next
  line_end_le next later =
      let place = to_byte_idx (scheme_of l) cs next in
      let within = boundary_within cs (line_end l cs line) IsBoundary-line_end in
      elim (cases_lt place (line_end l cs line)) [
        | inr le ↦ le
        | inl before ↦
            elim (cases_lt (count (scheme_of l) cs) next) [
              | inl past ↦ omega (arith, past_last l cs next past)
              | inr listed ↦ absurd (omega (
                arith,
                from-to (scheme_of l) (not_utf16 l) cs next,
                line_of_place (line_end l cs line) (omega arith) (omega arith),
                from_byte_idx-le (scheme_of l) cs place (line_end l cs line) (omega arith),
              ))
            ]
      ]

  -- before each place after the line's end, or at it, ends a break, unless the place is between a CR that begins one and LF
  pub end_before : (q : ℕ) → IsBoundary cs q → (is_break l carriage_return ≡ true → ¬ (IsCrlfMiddle cs q))
      → line_end l cs line < q → (e : ℕ) × IsEnd (scheme_of l) cs e × (start < e) × (e ≤ q)
  end_before q at not_middle past =
      let parts = line_parts in
      let front = parts.before ++ content in
      let within = boundary_within cs q at in
      let sizes = ap size parts.split_behind ∙ size-append front parts.after in
      let place = size-append parts.before content in
      (elim parts.after as (λ after. parts.after ≡ after
      → (e : ℕ) × IsEnd (scheme_of l) cs e × (start < e) × (e ≤ q)) [
        | [] ↦ λ none. absurd (omega (arith, ap size none, parts.place))
        | c ∷ rest ↦ λ is.
            let split = parts.split_behind ∙ ap (λ r. front ++ r) is in
            let end = size (front ++ c ∷ []) in
            let size_of = size-append front (c ∷ []) ∙ ap (λ n. size front + n) (size-cons c []) in
            let above : start < end = omega (arith, parts.place, len_utf8_bounds c) in
            let at_or_before : end ≤ q =
            omega (arith, boundary_beside len_utf8 cs front c rest split q at, parts.place) in
            elim (ends_behind l cs front c rest split (parts.next c rest is)) [
              | inl is_end ↦ (end, is_end, above, at_or_before)
              | inr (middle, breaks) ↦ (
                end + 1,
                feed_ends l cs end middle,
                omega arith,
                elim (cases_lt end q) [
                  | inl before ↦ omega arith
                  | inr le ↦ let same : end ≡ q = omega arith in absurd (not_middle breaks (rw same at middle))
                ],
              )
            ]
      ]) refl

  -- past the last break it ends where the text does
  pub line_end_past : count (scheme_of l) cs ≤ line → line_end l cs line ≡ size cs
  line_end_past past =
      let within = boundary_within cs (line_end l cs line) IsBoundary-line_end in
      elim (cases_lt (line_end l cs line) (size cs)) [
        | inr all ↦ omega (arith, all, within)
        | inl before ↦
            let at : IsBoundary cs (size cs) = record { front = cs; back = []; split = sym (append-nil cs); place = refl } in
            let not_middle : IsCrlfMiddle cs (size cs) → ⊥ = λ middle. omega (
              arith,
              ap size middle.split,
              size-append (middle.front ++ carriage_return ∷ []) (line_feed ∷ middle.back),
              size-cons line_feed middle.back,
              len_utf8_bounds line_feed,
              middle.place,
            ) in
            let (e, is_end, above, at_or_before) = end_before (size cs) at (λ _. not_middle) before in
            let last = to-from_is_greatest (scheme_of l) (not_utf16 l) cs e in
            let few : from_byte_idx (scheme_of l) cs e ≤ line = omega (arith, from_byte_idx-le-count (scheme_of l) cs e, past) in
            absurd (omega (
              arith,
              last.greatest e is_end (omega arith),
              to_byte_idx-le (scheme_of l) cs (from_byte_idx (scheme_of l) cs e) line few,
              above,
            ))
      ]

-- where the second of two joined texts begins with a line, it has each line after that
later_of_second : (l : LineType) (a b : Text) (line later : ℕ) → size a ≡ to_byte_idx (scheme_of l) (a ++ b) line → line ≤ later
    → size a + to_byte_idx (scheme_of l) b (later - line) ≡ to_byte_idx (scheme_of l) (a ++ b) later
later_of_second l a b line later place le = elim (cases_lt (count (scheme_of l) (a ++ b)) line) [
  | inl past ↦ omega (
    arith,
    past_last l (a ++ b) line past,
    past_last l (a ++ b) later (omega arith),
    size-append a b,
    to_byte_idx-le-size (scheme_of l) b (later - line),
  )
  | inr listed ↦
      elim (cases_lt line later) [
        | inl above ↦
            let joined = is_joined (scheme_of l) a b in
            let there : size a + 0 ≡ to_byte_idx (scheme_of l) (a ++ b) line = omega (arith, place) in
            let breaks : count (scheme_of l) a ≡ line + seam_loss (scheme_of l) a b = omega (
              arith,
              rw there at (joined.from_behind 0),
              from-to (scheme_of l) (not_utf16 l) (a ++ b) line,
              none_before l b,
            ) in
            sym (joined.to_behind later (later - line) (omega (arith, breaks)) (omega (arith, breaks)))
        | inr same ↦
            let is : line ≡ later = omega arith in
            let none : later - line ≡ 0 = omega arith in
            rw none (omega (arith, place, ap (to_byte_idx (scheme_of l) (a ++ b)) is, to_byte_idx-zero (scheme_of l) b))
      ]
]

-- so from a line's beginning on, the rest of the text has each line after it
pub later_line : (l : LineType) (cs : Text) (line later : ℕ) → line ≤ later → let start = to_byte_idx (scheme_of l) cs line in
    start + to_byte_idx (scheme_of l) (text_after cs start) (later - line) ≡ to_byte_idx (scheme_of l) cs later
later_line l cs line later le =
    let start = to_byte_idx (scheme_of l) cs line in
    let at = IsBoundary-to_byte_idx (scheme_of l) cs line in
    let place : size at.front ≡ to_byte_idx (scheme_of l) (at.front ++ at.back) line =
    at.place ∙ ap (λ t. to_byte_idx (scheme_of l) t line) at.split in
    let later_of = later_of_second l at.front at.back line later place le in
    ap (λ b. start + to_byte_idx (scheme_of l) b (later - line)) (behind_boundary cs start at)
    ∙ ap (λ n. n + to_byte_idx (scheme_of l) at.back (later - line)) (sym at.place)
    ∙ later_of ∙ ap (λ t. to_byte_idx (scheme_of l) t later) (sym at.split)

-- of two joined texts, the line of a byte index after their seam begins where the second has it, if a break ends there
-- up to the byte index, or the first is empty
pub begins_behind : (l : LineType) (a b : Text) (from byte breaks : ℕ) → size a ≡ from → from ≤ byte
    → breaks ≡ from_byte_idx (scheme_of l) b (byte - from) → (from ≡ 0) ⊎ (0 < breaks)
    → from + to_byte_idx (scheme_of l) b breaks ≡ to_byte_idx (scheme_of l) (a ++ b) (from_byte_idx (scheme_of l) (a ++ b) byte)
begins_behind l a b from byte breaks long before are (inr some) =
    let joined = is_joined (scheme_of l) a b in
    let there : size a + (byte - from) ≡ byte = omega arith in
    let line = rw there at (joined.from_behind (byte - from)) in
    omega (arith, joined.to_behind (from_byte_idx (scheme_of l) (a ++ b) byte) breaks (omega (arith, line)) (omega (arith, line)))
begins_behind l [] b from byte breaks long before are (inl none) =
    let whole : byte - from ≡ byte = omega arith in
    omega (arith, ap (to_byte_idx (scheme_of l) b) (are ∙ ap (from_byte_idx (scheme_of l) b) whole))
begins_behind l (c ∷ a) b from byte breaks long before are (inl none) =
    absurd (omega (arith, size-cons c a, len_utf8_bounds c))

-- Where a byte is on its line: at or before the line's end, or in the break that is after it.

-- a middle is above 0
pub middle_above : (cs : Text) (byte : ℕ) → IsCrlfMiddle cs byte → 1 ≤ byte
middle_above cs byte middle = omega (
  arith,
  middle.place,
  size-append middle.front (carriage_return ∷ []),
  size-cons carriage_return [],
  len_utf8_bounds carriage_return,
)

-- before its CR is none
return_not_middle : (cs : Text) (byte q : ℕ) (middle : IsCrlfMiddle cs byte) → size middle.front ≡ q
    → ¬ (IsCrlfMiddle cs q)
return_not_middle cs byte q middle place = λ other.
    let here : IsBoundary cs q = record {
      front = middle.front;
      back = carriage_return ∷ line_feed ∷ middle.back;
      split = middle.split ∙ append_assoc middle.front (carriage_return ∷ []) (line_feed ∷ middle.back);
      place = place;
    } in
    let there : IsBoundary cs q = record {
      front = other.front ++ carriage_return ∷ [];
      back = line_feed ∷ other.back;
      split = other.split;
      place = other.place;
    } in
    let same : middle.front ≡ other.front ++ carriage_return ∷ [] = sym (cut_front cs q here) ∙ cut_front cs q there in
    let rests : carriage_return ∷ line_feed ∷ middle.back ≡ line_feed ∷ other.back =
    append_cancel_left middle.front (carriage_return ∷ line_feed ∷ middle.back) (line_feed ∷ other.back)
    (sym here.split ∙ other.split ∙ ap (λ f. f ++ line_feed ∷ other.back) (sym same)) in
    cc

module _ (l : LineType) (cs : Text) (byte : ℕ) where
  abbrev line : ℕ
  line = from_byte_idx (scheme_of l) cs byte

  abbrev line_start : ℕ
  line_start = to_byte_idx (scheme_of l) cs line

  -- no break ends on its line up to the byte
  none_on_line : (e : ℕ) → line_start < e → e ≤ byte → ¬ (IsEnd (scheme_of l) cs e)
  none_on_line e above at_or_before = λ is.
      omega (arith, (to-from_is_greatest (scheme_of l) (not_utf16 l) cs byte).greatest e is at_or_before, above)

  -- a byte that is no middle has as many units before it as it has up to the end of its line
  pub weighed_on_line : (w : ℕ → ℕ) → (is_break l carriage_return ≡ true → ¬ (IsCrlfMiddle cs byte))
      → weighed w cs byte ≡ weighed w cs (min byte (line_end l cs line))
  weighed_on_line w other = elim (cases_lt (line_end l cs line) byte) [
    | inr within ↦ let is : min byte (line_end l cs line) ≡ byte = omega (arith, within) in ap (weighed w cs) (sym is)
    | inl past ↦
        let longest = cut_is_longest cs byte in
        let p = size (cut cs byte) in
        let at : IsBoundary cs p = record { front = cut cs byte; back = longest.back; split = longest.split; place = refl } in
        let is : min byte (line_end l cs line) ≡ line_end l cs line = omega (arith, past) in
        elim (cases_lt (line_end l cs line) p) [
          | inr early ↦ omega (
            arith,
            ap (weighed w cs) is,
            weighed_at w cs p at,
            weighed-le-weighed w cs p (line_end l cs line) early,
            weighed-le-weighed w cs (line_end l cs line) byte (omega (arith, past)),
          )
          | inl late ↦
              let free : is_break l carriage_return ≡ true → IsCrlfMiddle cs p → ⊥ = λ breaks middle.
              elim (cases_lt p byte) [
                | inl before ↦
                    none_on_line (p + 1) (omega (arith, late)) (omega (arith, before)) (feed_ends l cs p middle)
                | inr le ↦
                    let same : p ≡ byte = omega (arith, le, longest.fits) in
                    other breaks (rw same at middle)
              ] in
              let (e, is_end, above, at_or_before) = end_before l cs line p at free late in
              absurd (none_on_line e above (omega (arith, at_or_before, longest.fits)) is_end)
        ]
  ]

  module _ (breaks : is_break l carriage_return ≡ true) (middle : IsCrlfMiddle cs byte) where
    one_before : size middle.front + 1 ≡ byte
    one_before = omega (arith, middle.place, size-append middle.front (carriage_return ∷ []))

    start_before : line_start < byte
    start_before =
        let last = to-from_is_greatest (scheme_of l) (not_utf16 l) cs byte in
        elim (cases_lt line_start byte) [
          | inl is ↦ is
          | inr le ↦
              let same : byte ≡ line_start = omega (arith, le, last.at_or_before) in
              absurd (not_middle_at_end l cs line_start last.end_or_zero (rw same at middle))
        ]

    -- and one that is a middle, where CR begins a break, is one after the end of its line
    pub behind_line : line_end l cs line + 1 ≡ byte
    behind_line =
        let q = size middle.front in
        let split = middle.split ∙ append_assoc middle.front (carriage_return ∷ []) (line_feed ∷ middle.back) in
        let most = break_from_line_end l cs line middle.front carriage_return (line_feed ∷ middle.back) split breaks
        (omega (arith, start_before, one_before)) in
        elim (cases_lt (line_end l cs line) q) [
          | inr le ↦ omega (arith, le, most, one_before)
          | inl early ↦
              let at : IsBoundary cs q =
              record { front = middle.front; back = carriage_return ∷ line_feed ∷ middle.back; split = split; place = refl } in
              let (e, is_end, above, at_or_before) =
              end_before l cs line q at (λ _. return_not_middle cs byte q middle refl) early in
              absurd (none_on_line e above (omega (arith, at_or_before, one_before)) is_end)
        ]

    pub weighed_behind_line : (w : ℕ → ℕ) → weighed w cs (byte - 1) ≡ weighed w cs (min byte (line_end l cs line))
    weighed_behind_line w =
        let is : min byte (line_end l cs line) ≡ byte - 1 = omega (arith, behind_line) in
        sym (ap (weighed w cs) is)
