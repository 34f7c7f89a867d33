-- The chars and the bytes of a text.
use Rattle.text_rope.proofs.lemmas.Common.{◌≡◌, ◌≢◌, ℕ, ◌+◌, ◌<◌, ◌≤◌, inl, inr, List, [], ◌∷◌, ◌++◌, length, take, drop, refl, arith, sym, ◌∙◌, ap, append_assoc, chars, IsUtf8, IsCharBoundary, cases_lt, len_utf8_bounds, IsUtf8-take, take-append-drop, length-take-le, len_utf8, Text, size, IsBoundary, size-append, size-cons, size-chars, chars-append, chars-some, IsCharBoundary-from_boundary, IsBoundary-from_char_boundary, ◌-◌, length-append, subst, eqb-true, eq-eqb, same_cut, boundary_right, boundary_upto, zero, suc, append-nil, take_all, chars-nil, IsUtf8-nil}
use Rattle.std.proofs.Math.Utf8.{encode}
use Rattle.std.proofs.lemmas.List.{length-drop, reverse-append}
use Rattle.std.proofs.lemmas.Str.{chars_past_char, length-encode, IsUtf8-drop, IsCharBoundary-past_char, IsUtf8-append, encodes-append, encodes-chars}
use Rattle.std.proofs.Common.{Option, Some, None, drop-drop, take_at, drop_at}
use Rattle.std.specs.Option.{MatchOption}
use Rattle.std.specs.Prelude.{IfSome, IfNone, IsSome, IsTrue, nat_eq, get_or, reverse, encode_utf8_all}
use Rattle.str_indices.specs.Relations.{IsEndOf}
use Rattle.text_rope.specs.Chunks.{IsChunkAt, IsRound, IsPartAt, IsCopied, IsRead, IsPartRead}
use Rattle.std.proofs.Math.ListN.{drop_of_length-le}
use Rattle.std.proofs.lemmas.Grind.{common_steps}
use borrow.Rule.Slice.PartMut.{mid_of, put_mid}

-- ---- a text that is cut between its chars

-- a boundary within four bytes after another
pub record IsNext (bytes : List ℕ) (at : ℕ) : Type 0 where
  pub place : ℕ
  pub above : at < place
  pub near : place ≤ at + 4
  pub boundary : IsCharBoundary bytes place

-- the text after a boundary starts with a char, which ends at the next one
next_of : (text front back : Text) (at : ℕ) → text ≡ front ++ back → size front ≡ at → at < size text
    → (bytes : List ℕ) → IsUtf8 bytes → chars bytes ≡ text → IsNext bytes at
next_of text front [] at split place before bytes utf8 is =
    absurd (omega (arith, ap size split, size-append front []))
next_of text front (c ∷ cs) at split place before bytes utf8 is =
    let whole : chars bytes ≡ (front ++ c ∷ []) ++ cs = is ∙ split ∙ sym (append_assoc front (c ∷ []) cs) in
    let size_is : size (front ++ c ∷ []) ≡ at + len_utf8 c =
    omega (arith, size-append front (c ∷ []), size-cons c [], place) in
    let boundary : IsBoundary (chars bytes) (at + len_utf8 c) =
    record { front = front ++ c ∷ []; back = cs; split = whole; place = size_is } in
    record {
      place = at + len_utf8 c;
      above = omega (arith, len_utf8_bounds c);
      near = omega (arith, len_utf8_bounds c);
      boundary = IsCharBoundary-from_boundary bytes utf8 (at + len_utf8 c) boundary;
    }

pub next_boundary : (bytes : List ℕ) → IsUtf8 bytes → (at : ℕ) → IsCharBoundary bytes at → at < length bytes → IsNext bytes at
next_boundary bytes utf8 at boundary before =
    let is = IsBoundary-from_char_boundary bytes utf8 at boundary in
    next_of (chars bytes) is.front is.back at is.split is.place (omega (arith, size-chars bytes utf8)) bytes utf8 refl

-- so the greatest boundary up to four bytes after one, or more, is above it
pub goes_on : (bytes : List ℕ) → IsUtf8 bytes → (start end each : ℕ) → IsCharBoundary bytes start → start < length bytes
    → 4 ≤ each → ((i : ℕ) → end < i → i ≤ start + each → ¬ (IsCharBoundary bytes i)) → start < end
goes_on bytes utf8 start end each boundary before wide nearest =
    let next = next_boundary bytes utf8 start boundary before in
    elim (cases_lt start end) [
      | inl on ↦ on
      | inr back ↦ absurd (nearest next.place (omega (arith, next.above)) (omega (arith, next.near)) next.boundary)
    ]

-- and that up to a place is not far below it
pub goes_far : (bytes : List ℕ) → IsUtf8 bytes → (end each : ℕ) → IsCharBoundary bytes end → end < length bytes
    → ((i : ℕ) → end < i → i ≤ each → ¬ (IsCharBoundary bytes i)) → each < end + 4
goes_far bytes utf8 end each boundary before nearest =
    let next = next_boundary bytes utf8 end boundary before in
    elim (cases_lt each (end + 4)) [
      | inl near ↦ near
      | inr far ↦ absurd (nearest next.place next.above (omega (arith, next.near)) next.boundary)
    ]

-- the chars of a text that is cut once
pub chars-cut : (bytes : List ℕ) → IsUtf8 bytes → (at : ℕ) → IsCharBoundary bytes at
    → chars bytes ≡ chars (take at bytes) ++ chars (drop at bytes)
chars-cut bytes utf8 at boundary =
    ap chars (sym (take-append-drop at bytes)) ∙ chars-append (take at bytes) (drop at bytes) (IsUtf8-take bytes at utf8 boundary)

-- a part of a text of some bytes
pub size-part : (bytes : List ℕ) → IsUtf8 bytes → (at : ℕ) → IsCharBoundary bytes at → size (chars (take at bytes)) ≡ at
size-part bytes utf8 at boundary =
    size-chars (take at bytes) (IsUtf8-take bytes at utf8 boundary) ∙ length-take-le at bytes boundary.0

pub some-part : (bytes : List ℕ) → IsUtf8 bytes → (at : ℕ) → IsCharBoundary bytes at → 0 < at → chars (take at bytes) ≢ []
some-part bytes utf8 at boundary above =
    chars-some (take at bytes) (IsUtf8-take bytes at utf8 boundary) (omega (arith, length-take-le at bytes boundary.0))

-- ---- the char that ends at a byte index, by the chunk that the index is in or at the end of

-- the place where it ends
one_more : (front : Text) (c : ℕ) → size (front ++ c ∷ []) ≡ size front + len_utf8 c
one_more front c = omega (arith, size-append front (c ∷ []), size-cons c [])

-- the place is above 0, and within the text
pub end_above : (cs : Text) (c p : ℕ) → IsEndOf cs c p → 0 < p
end_above cs c p is = omega (arith, one_more is.front c, len_utf8_bounds c, is.place)

pub end_within : (cs : Text) (c p : ℕ) → IsEndOf cs c p → p ≤ size cs
end_within cs c p is = omega (arith, ap size is.split, size-append (is.front ++ c ∷ []) is.back, is.place)

-- one char ends there
pub same_character : (cs : Text) (c d p : ℕ) → IsEndOf cs c p → IsEndOf cs d p → c ≡ d
same_character cs c d p is other =
    let same = (same_cut (is.front ++ c ∷ []) is.back (other.front ++ d ∷ []) other.back (sym is.split ∙ other.split)
    (is.place ∙ sym other.place)).front in
    simp reverse-append at (ap (λ l. get_or (reverse l) 0 0) same)

-- before it and after it are boundaries
pub boundary_at_end : (cs : Text) (c p : ℕ) → IsEndOf cs c p → IsBoundary cs p
boundary_at_end cs c p is = record { front = is.front ++ c ∷ []; back = is.back; split = is.split; place = is.place }

pub boundary_before_end : (cs : Text) (c p q : ℕ) → IsEndOf cs c p → q + len_utf8 c ≡ p → IsBoundary cs q
boundary_before_end cs c p q is width = record {
  front = is.front;
  back = c ∷ is.back;
  split = is.split ∙ append_assoc is.front (c ∷ []) is.back;
  place = omega (arith, one_more is.front c, is.place, width);
}

-- the bytes from the greatest boundary before a place up to it are those of one char
module _ (bytes : List ℕ) (utf8 : IsUtf8 bytes) (at start c : ℕ) (rest : List ℕ) (here : IsCharBoundary bytes at)
    (there : IsCharBoundary bytes start) (before : start < at)
    (nearest : (i : ℕ) → start < i → i ≤ at - 1 → ¬ (IsCharBoundary bytes i))
    (part : take (at - start) (drop start bytes) ≡ encode c ++ rest)
    (long : length (take (at - start) (drop start bytes)) ≡ at - start) where
  abbrev more : List ℕ
  more = drop (at - start) (drop start bytes)

  from_start : drop start bytes ≡ encode c ++ (rest ++ more)
  from_start = sym (take-append-drop (at - start) (drop start bytes)) ∙ ap (λ l. l ++ more) part
      ∙ append_assoc (encode c) rest more

  from_utf8 : IsUtf8 (drop start bytes)
  from_utf8 = IsUtf8-drop bytes start utf8 there

  all_of_it : start + len_utf8 c ≡ at
  all_of_it =
      let within : start ≤ length bytes = there.0 in
      let behind = IsCharBoundary-past_char bytes (rest ++ more) start c within from_utf8 from_start in
      let sizes = ap length part ∙ length-append (encode c) rest in
      elim (cases_lt (start + len_utf8 c) at) [
        | inl less ↦ absurd (nearest (start + len_utf8 c) (omega (arith, len_utf8_bounds c)) (omega arith) behind)
        | inr le ↦ omega (arith, sizes, long, length-encode c)
      ]

  pub last_character : IsEndOf (chars bytes) c at
  last_character =
      let front = chars (take start bytes) in
      let front_utf8 = IsUtf8-take bytes start utf8 there in
      let back = chars (rest ++ more) in
      let behind : chars (drop start bytes) ≡ c ∷ back = chars_past_char (drop start bytes) (rest ++ more) c from_utf8 from_start in
      let parts : chars bytes ≡ front ++ c ∷ back =
      ap chars (sym (take-append-drop start bytes)) ∙ chars-append (take start bytes) (drop start bytes) front_utf8
      ∙ ap (λ r. front ++ r) behind in
      record {
        front = front;
        back = back;
        split = parts ∙ sym (append_assoc front (c ∷ []) back);
        place = omega (
          arith,
          one_more front c,
          size-chars (take start bytes) front_utf8,
          length-take-le start bytes there.0,
          all_of_it,
        );
      }

-- the first char of those bytes, where there is one
pub last_of : (bytes : List ℕ) (utf8 : IsUtf8 bytes) (at start below : ℕ) (part rest : List ℕ) (none : Type 0)
    → IsCharBoundary bytes at → IsCharBoundary bytes start → start ≤ below → below ≡ at - 1
    → ((i : ℕ) → start < i → i ≤ below → ¬ (IsCharBoundary bytes i)) → part ≡ take (at - start) (drop start bytes)
    → length part ≡ at - start → (r : Option ℕ) → MatchOption r none (λ c. part ≡ encode c ++ rest)
    → IfSome r (λ c. IsEndOf (chars bytes) c at)
last_of bytes utf8 at start below part rest none here there le below_is nearest part_is long None is = tt
last_of bytes utf8 at start below part rest none here there le below_is nearest part_is long (Some c) is =
    let sizes = ap length is ∙ length-append (encode c) rest in
    let before : start < at = omega (arith, sizes, long, length-encode c, len_utf8_bounds c) in
    last_character bytes utf8 at start c rest here there before (λ i above most. nearest i above (omega (arith, below_is)))
    (sym part_is ∙ is) (ap length (sym part_is) ∙ long)

module _ {whole chunk : Text} {start at : ℕ} (is : IsRound whole chunk start at) where
  -- the char that ends there in a chunk is that of the text
  pub end_in_round : (c : ℕ) → IsEndOf chunk c (at - start) → IsEndOf whole c at
  end_in_round c own =
      let same : is.front ++ (((own.front ++ c ∷ []) ++ own.back) ++ is.back) ≡ ((is.front ++ own.front) ++ c ∷ []) ++ (own.back ++ is.back) =
      simp append_assoc in
      record {
        front = is.front ++ own.front;
        back = own.back ++ is.back;
        split = is.parts ∙ ap (λ r. is.front ++ (r ++ is.back)) own.split ∙ same;
        place = omega (
          arith,
          one_more (is.front ++ own.front) c,
          one_more own.front c,
          size-append is.front own.front,
          own.place,
          is.place,
          is.after,
        );
      }

  -- a boundary of the text is one of the chunk
  pub boundary_in_round : IsBoundary whole at → IsBoundary chunk (at - start)
  boundary_in_round boundary =
      let rest = (boundary_right is.front (chunk ++ is.back) at (at - start) (omega (arith, is.place, is.after))).0
      (rw is.parts at boundary) in
      boundary_upto chunk is.back (at - start) (omega (arith, is.within)) rest

  -- a place before it is in the chunk too
  pub round_before : (q : ℕ) → start ≤ q → q ≤ at → IsRound whole chunk start q
  round_before q after before = record {
    front = is.front;
    back = is.back;
    parts = is.parts;
    place = is.place;
    after = after;
    within = omega (arith, is.within, before);
  }

-- the chunk that the byte before a place is in has the place in it or at its end
pub round_behind : {whole chunk : Text} {start : ℕ} (at : ℕ) → 0 < at → IsChunkAt whole chunk start (at - 1)
    → IsRound whole chunk start at
round_behind at above is = record {
  front = is.front;
  back = is.back;
  parts = is.parts;
  place = is.place;
  after = omega (arith, is.after);
  within = omega (arith, is.inside, above);
}

-- which char ends there, a test of it tells
pub tells_character : (cs : Text) (c d p : ℕ) → IsEndOf cs c p
    → (IsTrue (nat_eq c d) → IsEndOf cs d p) × (IsEndOf cs d p → IsTrue (nat_eq c d))
tells_character cs c d p is = (
  λ yes. subst (λ x. IsEndOf cs x p) (eqb-true c d yes) is,
  λ other. eq-eqb c d (same_character cs c d p is other),
)

-- a boundary of a chunk is one of the text
pub boundary_from_round : {whole chunk : Text} {start at : ℕ} → IsRound whole chunk start at → IsBoundary chunk (at - start)
    → IsBoundary whole at
boundary_from_round is own =
    let same : is.front ++ ((own.front ++ own.back) ++ is.back) ≡ (is.front ++ own.front) ++ (own.back ++ is.back) =
    simp append_assoc in
    record {
      front = is.front ++ own.front;
      back = own.back ++ is.back;
      split = is.parts ∙ ap (λ r. is.front ++ (r ++ is.back)) own.split ∙ same;
      place = omega (arith, size-append is.front own.front, own.place, is.place, is.after);
    }

-- the chunk that a byte is in, round it
pub round_at : {whole chunk : Text} {start at : ℕ} → IsChunkAt whole chunk start at → IsRound whole chunk start at
round_at is = record {
  front = is.front;
  back = is.back;
  parts = is.parts;
  place = is.place;
  after = is.after;
  within = omega (arith, is.inside);
}

-- the first char of the bytes from a boundary on, and none at the end
pub first_of : (bytes : List ℕ) (utf8 : IsUtf8 bytes) (at : ℕ) (part rest : List ℕ) (none : Type 0) → IsCharBoundary bytes at
    → part ≡ drop at bytes → (r : Option ℕ) → MatchOption r none (λ c. part ≡ encode c ++ rest)
    → IfSome r (λ c. IsEndOf (chars bytes) c (at + len_utf8 c))
first_of bytes utf8 at part rest none here part_is None is = tt
first_of bytes utf8 at part rest none here part_is (Some c) is =
    let front_utf8 = IsUtf8-take bytes at utf8 here in
    let front = chars (take at bytes) in
    let parts : chars bytes ≡ front ++ chars (drop at bytes) =
    ap chars (sym (take-append-drop at bytes)) ∙ chars-append (take at bytes) (drop at bytes) front_utf8 in
    let behind : chars (drop at bytes) ≡ c ∷ chars rest =
    chars_past_char (drop at bytes) rest c (IsUtf8-drop bytes at utf8 here) (sym part_is ∙ is) in
    record {
      front = front;
      back = chars rest;
      split = parts ∙ ap (λ r. front ++ r) behind ∙ sym (append_assoc front (c ∷ []) (chars rest));
      place = omega (arith, one_more front c, size-chars (take at bytes) front_utf8, length-take-le at bytes here.0);
    }

pub none_of_bytes : (bytes : List ℕ) (utf8 : IsUtf8 bytes) (at : ℕ) (part rest : List ℕ) (same : Type 0) → at ≤ length bytes
    → part ≡ drop at bytes → (r : Option ℕ) → MatchOption r ((length part ≡ 0) × same) (λ c. part ≡ encode c ++ rest)
    → IfNone r (at ≡ size (chars bytes))
none_of_bytes bytes utf8 at part rest same within part_is None is =
    omega (arith, within, is.0, ap length part_is, length-drop at bytes, size-chars bytes utf8)
none_of_bytes bytes utf8 at part rest same within part_is (Some c) is = tt

-- a char that begins in a chunk begins there in the text, and one does
pub first_in_chunk : {whole chunk : Text} {start at : ℕ} (r : Option ℕ) → IsChunkAt whole chunk start at
    → IfSome r (λ c. IsEndOf chunk c (at - start + len_utf8 c)) → IfSome r (λ c. IsEndOf whole c (at + len_utf8 c))
first_in_chunk None is own = tt
first_in_chunk {whole = whole} {chunk = chunk} {start = start} {at = at} (Some c) is own =
    let end : at + len_utf8 c - start ≡ at - start + len_utf8 c = omega (arith, is.after) in
    let round : IsRound whole chunk start (at + len_utf8 c) = record {
      front = is.front;
      back = is.back;
      parts = is.parts;
      place = is.place;
      after = omega (arith, is.after);
      within = omega (arith, end_within chunk c (at - start + len_utf8 c) own, is.after);
    } in
    end_in_round round c (subst (IsEndOf chunk c) (sym end) own)

pub first_some : {whole chunk : Text} {start at : ℕ} (r : Option ℕ) → IsChunkAt whole chunk start at
    → IfNone r (at - start ≡ size chunk) → IsSome r
first_some None is none = absurd (omega (arith, is.after, is.inside, none))
first_some (Some c) is none = refl

-- so does one that ends there, but at the beginning
pub last_in_chunk : {whole chunk : Text} {start at : ℕ} (r : Option ℕ) → IsRound whole chunk start at
    → IfSome r (λ c. IsEndOf chunk c (at - start)) → IfSome r (λ c. IsEndOf whole c at)
last_in_chunk None is own = tt
last_in_chunk (Some c) is own = end_in_round is c own

pub last_some : {start at : ℕ} (r : Option ℕ) → start < at → IfNone r (at - start ≡ 0) → IsSome r
last_some None after none = absurd (omega (arith, after, none))
last_some (Some c) after none = refl

-- ---- the bytes that are read from an index on

-- how many bytes a text has
pub length-encodes : (text : Text) → length (encode_utf8_all text) ≡ size text
length-encodes [] = refl
length-encodes (c ∷ text) =
    omega (arith, length-append (encode c) (encode_utf8_all text), length-encode c, length-encodes text, size-cons c text)

-- two parts from an index on
drop_both : (xs ys : List ℕ) (at : ℕ) → drop at (xs ++ ys) ≡ drop at xs ++ drop (at - length xs) ys
drop_both [] ys at = grind (arith, common_steps)
drop_both (x ∷ xs) ys zero = let none : 0 - length (x ∷ xs) ≡ 0 = omega arith in rw none refl
drop_both (x ∷ xs) ys (suc at) = drop_both xs ys at ∙ ap (λ k. drop at xs ++ drop k ys) (omega arith)

-- as many of the first part as there are, and then of the second
take_both : (xs ys : List ℕ) (m n : ℕ) → m ≤ length xs → (m < length xs → n ≡ 0) → take (m + n) (xs ++ ys) ≡ take m xs ++ take n ys
take_both [] ys zero n within stops = grind (arith, common_steps)
take_both [] ys (suc m) n within stops = absurd (omega arith)
take_both (x ∷ xs) ys zero n within stops = let none : n ≡ 0 = stops (omega arith) in rw none refl
take_both (x ∷ xs) ys (suc m) n within stops =
    let next : suc m + n ≡ suc (m + n) = omega arith in
    rw next (ap (λ l. x ∷ l) (take_both xs ys m n (omega arith) (λ l. stops (omega arith))))

-- the end of a list, written over
pub put_end : (i : ℕ) (xs ys : List ℕ) → i ≤ length xs → put_mid i (length xs - i) xs ys ≡ take i xs ++ ys
put_end i xs ys within =
    let none : drop (length xs - i) (drop i xs) ≡ [] = drop_of_length-le (drop i xs) (omega (arith, length-drop i xs)) in
    ap (λ r. take i xs ++ (ys ++ r)) none ∙ ap (λ r. take i xs ++ r) (append-nil ys)

-- what is read of two parts
pub read_on : (xs ys : List ℕ) (at m n : ℕ) (old mid sub new : List ℕ) → IsRead xs at m old mid
    → IsRead ys (at - length xs) n (drop m mid) sub → new ≡ take m mid ++ sub → IsRead (xs ++ ys) at (m + n) old new
read_on xs ys at m n old mid sub new first next is =
    let a = drop at xs in
    let b = drop (at - length xs) ys in
    let few : m ≤ length a = omega (arith, length-drop at xs, first.len) in
    let long : length (take m a) ≡ m = length-take-le m a few in
    let front : take m mid ≡ take m a = ap (take m) first.is ∙ take_at (take m a) (drop m old) m long in
    let rest : drop m mid ≡ drop m old = ap (drop m) first.is ∙ drop_at (take m a) (drop m old) m long in
    let room : length (drop m mid) ≡ length old - m = ap length rest ∙ length-drop m old in
    let both : take (m + n) (drop at (xs ++ ys)) ≡ take m a ++ take n b =
    ap (take (m + n)) (drop_both xs ys at) ∙ take_both a b m n few (λ l. omega (arith, length-drop at xs, first.len, next.len, room)) in
    record {
      len = omega (arith, length-append xs ys, first.len, next.len, room);
      is = is ∙ ap (λ r. r ++ sub) front ∙ ap (λ r. take m a ++ r) (next.is ∙ ap (λ r. take n b ++ drop n r) rest
          ∙ ap (λ r. take n b ++ r) (drop-drop n m old)) ∙ sym (append_assoc (take m a) (take n b) (drop (m + n) old))
          ∙ ap (λ r. r ++ drop (m + n) old) (sym both);
    }

-- the same, where the second part is read into what is left of the room
pub read_rest : {xs ys old mid sub : List ℕ} {at m at' n : ℕ} → IsRead xs at m old mid → at' ≡ at - length xs
    → IsRead ys at' n (mid_of m (length mid - m) mid) sub → IsRead (xs ++ ys) at (m + n) old (put_mid m (length mid - m) mid sub)
read_rest {xs} {ys} {old} {mid} {sub} {at} {m} {at'} {n} first place next =
    let front : length (take m (drop at xs)) ≡ m = length-take-le m (drop at xs) (omega (arith, length-drop at xs, first.len)) in
    let within : m ≤ length mid =
    omega (arith, first.len, ap length first.is, length-append (take m (drop at xs)) (drop m old), front) in
    let rest : take (length mid - m) (drop m mid) ≡ drop m mid =
    take_all (length mid - m) (drop m mid) (omega (arith, length-drop m mid)) in
    read_on xs ys at m n old mid sub _ first (rw (place, rest) at next) (put_end m mid sub within)

-- two parts, one after the other
parts_joined : (text a b : Text) (from at to : ℕ) → IsPartAt text a from at → IsPartAt text b at to
    → IsPartAt text (a ++ b) from to
parts_joined text a b from at to first next =
    let whole : (first.front ++ a) ++ first.back ≡ next.front ++ (b ++ next.back) =
    append_assoc first.front a first.back ∙ sym first.parts ∙ next.parts in
    let same = same_cut (first.front ++ a) first.back next.front (b ++ next.back) whole
    (omega (arith, size-append first.front a, first.start, first.end, next.start)) in
    record {
      front = first.front;
      back = next.back;
      parts = first.parts ∙ ap (λ r. first.front ++ (a ++ r)) same.back
          ∙ ap (λ r. first.front ++ r) (sym (append_assoc a b next.back));
      start = first.start;
      end = omega (arith, size-append a b, first.start, first.end, next.start, next.end);
    }

-- nothing is read at first
pub part_read_none : {text : Text} {at : ℕ} (skip : ℕ) (room : List ℕ) → IsBoundary text at
    → IsPartRead text at at skip 0 room room
part_read_none skip room boundary = record {
  bytes = [];
  utf8 = IsUtf8-nil;
  part = record {
    front = boundary.front;
    back = boundary.back;
    parts = rw chars-nil boundary.split;
    start = boundary.place;
    end = rw chars-nil (omega (arith, boundary.place));
  };
  read = record { len = omega arith; is = refl };
}

-- and then part after part
pub part_read_on : {text : Text} {from at to skip rest n m : ℕ} {old mid sub more : List ℕ} → IsPartRead text from at skip n old mid
    → IsUtf8 more → IsPartAt text (chars more) at to → rest ≡ skip - (at - from)
    → IsRead more rest m (mid_of n (length mid - n) mid) sub
    → IsPartRead text from to skip (n + m) old (put_mid n (length mid - n) mid sub)
part_read_on {text} {from} {at} {to} {skip} {more = more} so_far utf8 part rest_is next =
    let bytes = so_far.bytes in
    let len : length bytes ≡ at - from = omega (arith, so_far.part.start, so_far.part.end, size-chars bytes so_far.utf8) in
    record {
      bytes = bytes ++ more;
      utf8 = IsUtf8-append bytes more so_far.utf8 utf8;
      part = rw (chars-append bytes more so_far.utf8) (parts_joined text (chars bytes) (chars more) from at to so_far.part part);
      read = read_rest so_far.read (omega (arith, rest_is, len)) next;
    }

-- what is read to the end of the text, or as far as there is room, is read of all of it
pub read_of_part : {text : Text} {from at end skip n : ℕ} {old new : List ℕ} → IsPartRead text from at skip n old new
    → end ≡ size text → (at < end → n ≡ length old) → IsRead (encode_utf8_all text) (from + skip) n old new
read_of_part {text} {from} {at} {end} {skip} {n} {old} {new} is end_is all =
    let bytes = is.bytes in
    let part = is.part in
    let front = encode_utf8_all part.front in
    let back = encode_utf8_all part.back in
    let own : encode_utf8_all (chars bytes) ≡ bytes = encodes-chars bytes is.utf8 in
    let whole : encode_utf8_all text ≡ (front ++ bytes) ++ back =
    ap encode_utf8_all part.parts ∙ encodes-append part.front (chars bytes ++ part.back)
    ∙ ap (λ r. front ++ r) (encodes-append (chars bytes) part.back ∙ ap (λ b. b ++ back) own) ∙ sym (append_assoc front bytes back) in
    let place : length front ≡ from = length-encodes part.front ∙ part.start in
    let taken : length (take n (drop skip bytes)) ≡ n = length-take-le n (drop skip bytes) (omega (arith, length-drop skip bytes, is.read.len)) in
    let long : length new ≡ length old =
    omega (arith, ap length is.read.is, length-append (take n (drop skip bytes)) (drop n old), taken, length-drop n old, is.read.len) in
    let before : IsRead front (from + skip) 0 old old = record { len = omega (arith, place); is = refl } in
    let skipped : skip ≡ (from + skip) - length front = omega (arith, place) in
    let here : IsRead (front ++ bytes) (from + skip) (0 + n) old new =
    read_on front bytes (from + skip) 0 n old old new new before (rw skipped at is.read) refl in
    let same : 0 + n ≡ n = omega arith in
    let none : IsRead back ((from + skip) - length (front ++ bytes)) 0 (drop n new) (drop n new) = record {
      len = elim (cases_lt at end) [
        | inl early ↦ omega (arith, all early, length-drop n new, long)
        | inr past ↦
            let empty : length back ≡ 0 = omega (
              arith,
              length-encodes part.back,
              ap size part.parts,
              size-append part.front (chars bytes ++ part.back),
              size-append (chars bytes) part.back,
              part.start,
              part.end,
              end_is,
            ) in
            omega (arith, empty)
      ];
      is = refl;
    } in
    let last : n + 0 ≡ n = omega arith in
    rw whole (rw last at (read_on (front ++ bytes) back (from + skip) n 0 old new (drop n new) new (rw same at here) none
    (sym (take-append-drop n new))))

-- what is read to the end of a part that there is room for is a copy of it
pub copied_of_part : {text : Text} {from at to n : ℕ} {old new : List ℕ} → IsPartRead text from at 0 n old new → at ≤ to
    → (at < to → n ≡ length old) → to ≤ from + length old → IsCopied text from to n old new
copied_of_part {text} {from} {at} {to} {n} {old} {new} is within all room =
    let bytes = is.bytes in
    let len : from + length bytes ≡ at = omega (arith, is.part.start, is.part.end, size-chars bytes is.utf8) in
    let whole : at ≡ to = elim (cases_lt at to) [
      | inl early ↦ absurd (omega (arith, all early, len, is.read.len, room))
      | inr past ↦ omega (arith, within)
    ] in
    let all_of : n ≡ length bytes = omega (arith, is.read.len, len, whole, room) in
    let taken : take n bytes ≡ bytes = take_all n bytes (omega (arith, all_of)) in
    let is_new : new ≡ bytes ++ drop n old = is.read.is ∙ ap (λ b. b ++ drop n old) taken in
    let front : take n new ≡ bytes = ap (take n) is_new ∙ take_at bytes (drop n old) n (sym all_of) in
    record {
      len = omega (arith, len, whole, all_of);
      utf8 = rw front is.utf8;
      part = rw (front, ← whole) is.part;
      rest = ap (drop n) is_new ∙ drop_at bytes (drop n old) n (sym all_of);
    }
