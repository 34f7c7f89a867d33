-- Places where a text may be parted, its marks, what stands between two of them, and the looks of a search for one.
use Rattle.text_index.proofs.lemmas.Common.{◌≡◌, ℕ, ◌+◌, ◌-◌, ◌<◌, ◌≤◌, false, [], ◌∷◌, ◌++◌, sym, refl, ap, ◌∙◌, append_assoc, arith, cases_lt, cases_Bool, inl, inr, len_utf8_bounds, Text, size, size-append, size-cons, line_feed, carriage_return, joins_crlf, ends_in_return, starts_with_feed, IsBoundary, IsCrlfMiddle, IsMarkPlace, append-nil, Scheme, count, seam_loss, starts_with_feed-append, same_cut, none_of, is_joined, count-nil, IsMark, IsPart, Mark, count_at, ◌*◌, ◌⊎◌, stretch_size, stretches_of, IsMarkAt, EndsBy, IsStretch, StandsRound, Answers, Stretch, ◌^◌}
use Rattle.positions.proofs.lemmas.Callers.{middle_of_join}
use Rattle.str_indices.proofs.lemmas.Callers.{starts_with_feed_is}
use Rattle.std.specs.Char.{len_utf8}
use Rattle.str_indices.specs.declared.Scheme.TheVariants.{Crlf, Lines}
use Rattle.std.proofs.Common.{add-one}
use Rattle.std.proofs.Math.Nat.{mul-le-mul_left, pow-suc}

-- a boundary that is no such middle may part the text
pub whole_at_boundary : (cs : Text) (at : ℕ) → IsBoundary cs at → ¬ (IsCrlfMiddle cs at) → IsMarkPlace cs at
whole_at_boundary cs at boundary other = record {
  front = boundary.front;
  back = boundary.back;
  split = boundary.split;
  place = boundary.place;
  whole = elim (cases_Bool (joins_crlf boundary.front boundary.back)) [
    | inl joins ↦
        absurd (other (middle_of_join cs boundary.front boundary.back at boundary.split boundary.place joins))
    | inr whole ↦ whole
  ];
}

-- and so may the place before the CR
pub whole_before_middle : (cs : Text) (at : ℕ) → IsCrlfMiddle cs at → IsMarkPlace cs (at - 1)
whole_before_middle cs at middle =
    let one = size-append middle.front (carriage_return ∷ []) in
    record {
      front = middle.front;
      back = carriage_return ∷ line_feed ∷ middle.back;
      split = middle.split ∙ append_assoc middle.front (carriage_return ∷ []) (line_feed ∷ middle.back);
      place = omega (arith, one, middle.place);
      whole = parts middle.front (carriage_return ∷ line_feed ∷ middle.back)
          (starts_with_feed_is (carriage_return ∷ line_feed ∷ middle.back));
    }
  where
    parts : (a b : Text) → starts_with_feed b ≡ false → joins_crlf a b ≡ false
    parts a b is = rw is (elim (cases_Bool (ends_in_return a)) [
      | inl ends ↦ rw ends refl
      | inr not ↦ rw not refl
    ])

-- the place of a middle is above 0
pub middle_above : (cs : Text) (at : ℕ) → IsCrlfMiddle cs at → 0 < at
middle_above cs at middle = omega (arith, size-append middle.front (carriage_return ∷ []), middle.place)

-- a middle is a boundary
pub middle_is_boundary : (cs : Text) (at : ℕ) → IsCrlfMiddle cs at → IsBoundary cs at
middle_is_boundary cs at middle = record {
  front = middle.front ++ carriage_return ∷ [];
  back = line_feed ∷ middle.back;
  split = middle.split;
  place = middle.place;
}

-- the greatest boundary at or before a place of the text is near it
pub boundary_near : (cs : Text) (at p : ℕ) → IsBoundary cs p → p ≤ at → at ≤ size cs
    → ((q : ℕ) → p < q → q ≤ at → ¬ (IsBoundary cs q)) → at ≤ p + 3
boundary_near cs at p boundary le within nearest = after_it boundary.back boundary.split
  where
    after_it : (back : Text) → cs ≡ boundary.front ++ back → at ≤ p + 3
    after_it [] split = omega (arith, within, ap size split, size-append boundary.front [], boundary.place)
    after_it (c ∷ rest) split =
        let next : IsBoundary cs (p + len_utf8 c) = record {
          front = boundary.front ++ c ∷ [];
          back = rest;
          split = split ∙ sym (append_assoc boundary.front (c ∷ []) rest);
          place = omega (arith, size-append boundary.front (c ∷ []), size-cons c [], boundary.place);
        } in
        elim (cases_lt at (p + len_utf8 c)) [
          | inl before ↦ omega (arith, before, len_utf8_bounds c)
          | inr past ↦ absurd (nearest (p + len_utf8 c) (omega (arith, len_utf8_bounds c)) past next)
        ]

-- Marks of a text, and what stands between two of them.

-- a seam that makes no CRLF takes nothing off
pub no_loss : (s : Scheme) (a b : Text) → joins_crlf a b ≡ false → seam_loss s a b ≡ 0
no_loss Crlf a b whole = rw whole refl
no_loss Lines a b whole = rw whole refl
no_loss s a b whole = refl

-- nor does it where less of the text stands after it
pub whole_before : (a b c : Text) → joins_crlf a (b ++ c) ≡ false → joins_crlf a b ≡ false
whole_before a [] c whole = elim (cases_Bool (ends_in_return a)) [
  | inl ends ↦ rw ends refl
  | inr not ↦ rw not refl
]
whole_before a (d ∷ b) c whole =
    let starts = starts_with_feed-append (d ∷ b) c (λ none. cc) in rw starts at whole

-- two places of a text, and what stands between them
pub record AreParted (a c f g part : Text) : Type 0 where
  pub front : f ≡ a ++ part
  pub back : c ≡ part ++ g

pub are_parted : (text a c f g part : Text) → text ≡ a ++ c → text ≡ f ++ g → IsPart text (size a) (size f) part
    → AreParted a c f g part
are_parted text a c f g part first second is =
    let start = same_cut a c is.front (part ++ is.back) (sym first ∙ is.parts) (sym is.start) in
    let parts = is.parts ∙ sym (append_assoc is.front part is.back) in
    let sizes : size f ≡ size (is.front ++ part) = omega (arith, size-append is.front part, is.end) in
    let end = same_cut f g (is.front ++ part) is.back (sym second ∙ parts) sizes in
    record {
      front = end.front ∙ ap (λ r. r ++ part) (sym start.front);
      back = start.back ∙ ap (λ r. part ++ r) (sym end.back);
    }

-- a mark and a later place: what is before that counts as the text before the mark and the part between both
pub counts_behind : (text part : Text) (mark : Mark) (to : ℕ) (is : IsMark text mark) (place : IsMarkPlace text to)
    → IsPart text mark.byte to part → (s : Scheme) → count_at mark s + count s part ≡ count s place.front
counts_behind text part mark to is place between s =
    let between' = rw (is.byte, sym place.place) at between in
    let parted = are_parted text is.front is.back place.front place.back part is.split place.split between' in
    let whole = whole_before is.front part place.back (rw parted.back at is.whole) in
    let seam = (is_joined s is.front part).counts in
    let front = ap (count s) parted.front in
    omega (arith, is.counts s, no_loss s is.front part whole, seam, front)

-- a mark is at a boundary
pub mark_at_boundary : (text : Text) (mark : Mark) → IsMark text mark → IsBoundary text mark.byte
mark_at_boundary text mark is = record { front = is.front; back = is.back; split = is.split; place = sym is.byte }

-- and so is each place where the text may be parted
pub place_at_boundary : (text : Text) (at : ℕ) → IsMarkPlace text at → IsBoundary text at
place_at_boundary text at is = record { front = is.front; back = is.back; split = is.split; place = is.place }

-- the beginning of a text is one, and its end
pub whole_at_end : (text : Text) → IsMarkPlace text (size text)
whole_at_end text = record {
  front = text;
  back = [];
  split = sym (append-nil text);
  place = refl;
  whole = whole_before text [] [] (none text);
}
  where
    none : (a : Text) → joins_crlf a ([] ++ []) ≡ false
    none a = elim (cases_Bool (ends_in_return a)) [
      | inl ends ↦ rw ends refl
      | inr not ↦ rw not refl
    ]

-- the mark at the end has the counts of the text
pub counts_at_end : (text : Text) (mark : Mark) → IsMark text mark → mark.byte ≡ size text → (s : Scheme)
    → count_at mark s ≡ count s text
counts_at_end text mark is at_end s =
    let none = none_of is.back (omega (arith, ap size is.split, size-append is.front is.back, is.byte, at_end)) in
    let all : text ≡ is.front = is.split ∙ ap (λ r. is.front ++ r) none ∙ append-nil is.front in
    is.counts s ∙ ap (count s) (sym all)

-- no mark is past the end
pub mark_within : (text : Text) (mark : Mark) → IsMark text mark → mark.byte ≤ size text
mark_within text mark is = omega (arith, is.byte, ap size is.split, size-append is.front is.back)

-- nothing is counted before the beginning
pub nothing_before : (text : Text) (mark : Mark) → IsMark text mark → mark.byte ≡ 0 → (s : Scheme) → count_at mark s ≡ 0
nothing_before text mark is zero s =
    let none = none_of is.front (omega (arith, is.byte)) in
    is.counts s ∙ ap (count s) none ∙ count-nil s

-- Which marks are next to each other.

-- a mark inside the text ends a stretch
pub ends_at_mark : (text : Text) (i : ℕ) (mark : Mark) → i < stretches_of text → IsMarkAt text i mark
    → EndsBy text i mark
ends_at_mark text i mark inside is = record {
  is = is.is;
  before = is.before;
  near = λ _. is.near;
  at_end = λ past. absurd (omega arith);
}

-- and the end of one inside the text is a mark
pub mark_of_end : (text : Text) (i : ℕ) (mark : Mark) → i < stretches_of text → EndsBy text i mark
    → IsMarkAt text i mark
mark_of_end text i mark inside is = record { is = is.is; before = is.before; near = is.near inside }

-- a mark and the end of its stretch
pub is_stretch : (text : Text) (i : ℕ) (stretch : Stretch) → IsMarkAt text i stretch.start.now
    → EndsBy text (i + 1) stretch.end.now → IsStretch text stretch
is_stretch text i stretch first last = record {
  start = first.is;
  end = last.is;
  order = elim (cases_lt (i + 1) (stretches_of text)) [
    | inl inside ↦ omega (arith, last.near inside, first.before)
    | inr past ↦ omega (arith, last.at_end past, mark_within text stretch.start.now first.is)
  ];
  short = omega (arith, last.before, first.near);
}

-- the stretch that starts at a byte's place has it, or the next one
pub round_here : (text : Text) (b i : ℕ) (stretch : Stretch) → IsMarkAt text i stretch.start.now
    → EndsBy text (i + 1) stretch.end.now → i * stretch_size ≤ b → b < stretch.end.now.byte → StandsRound text b stretch
round_here text b i stretch first last after before = record {
  is = is_stretch text i stretch first last;
  after = omega (arith, first.before);
  before = before;
}

pub round_next : (text : Text) (b i : ℕ) (stretch : Stretch) → EndsBy text (i + 1) stretch.start.now
    → EndsBy text (i + 1 + 1) stretch.end.now → i + 1 < stretches_of text → b < (i + 1) * stretch_size → b < size text
    → stretch.start.now.byte ≤ b → StandsRound text b stretch
round_next text b i stretch first last inside below within after = record {
  is = is_stretch text (i + 1) stretch (mark_of_end text (i + 1) stretch.start.now inside first) last;
  after = after;
  before = elim (cases_lt (i + 1 + 1) (stretches_of text)) [
    | inl more ↦ omega (arith, last.near more)
    | inr past ↦ omega (arith, last.at_end past)
  ];
}

-- the end of a stretch at or before a byte of the text is not the last one
pub not_last : (text : Text) (b i : ℕ) (end : Mark) → EndsBy text i end → b < size text → end.byte ≤ b
    → i < stretches_of text
not_last text b i end is within after = elim (cases_lt i (stretches_of text)) [
  | inl inside ↦ inside
  | inr past ↦ absurd (omega (arith, is.at_end past))
]

-- the stretch between two marks beside each other answers for a count
pub answers_here : (s : Scheme) (text : Text) (k low high : ℕ) (stretch : Stretch) → IsMarkAt text low stretch.start.now
    → EndsBy text high stretch.end.now → low + 1 ≡ high → count_at stretch.start.now s < k
    → (k ≤ count_at stretch.end.now s) ⊎ (stretch.end.now.byte ≡ size text) → Answers s text k stretch
answers_here s text k low high stretch first last beside past reached = record {
  is = is_stretch text low stretch first (rw beside last);
  past = past;
  reached = reached;
}

-- The number of looks of a search that halves the places that are left.

-- after `looks` looks at most `left` places are left, of `all` at first
pub record IsHalved (looks left all : ℕ) : Type 0 where
  pub few : 2 ^ looks ≤ 2 * all
  pub left_over : 2 ^ looks * (left - 1) ≤ all - 1

-- one look more leaves at most half of them
pub halved : (looks more left half all : ℕ) → more ≡ looks + 1 → 2 ≤ left → half + half ≤ left + 1
    → IsHalved looks left all → IsHalved more half all
halved looks more left half all one_more some less is =
    let p = 2 ^ looks in
    let twice : 2 ^ more ≡ p * 2 = rw (one_more, add-one) (pow-suc 2 looks) in
    let one : 1 ≤ left - 1 = omega arith in
    let half_of : (half - 1) + (half - 1) ≤ left - 1 = omega arith in
    let few = mul-le-mul_left p one in
    let most = mul-le-mul_left p half_of in
    record {
      few = omega (arith, few, is.left_over, twice);
      left_over = rw twice (omega (arith, most, is.left_over));
    }

-- before the first look all are left
pub none_halved : (looks left all : ℕ) → looks ≡ 0 → left ≡ all → 1 ≤ all → IsHalved looks left all
none_halved looks left all none is some = rw (none, is) (record { few = omega arith; left_over = omega arith })
