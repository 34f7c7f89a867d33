-- How a text starts and ends, the boundaries of two texts, one after the other, and a text with a part of it exchanged.
use Rattle.text_summary.proofs.lemmas.Common.{◌≡◌, ℕ, ◌-◌, ◌<◌, List, [], ◌∷◌, length, chars, IsUtf8, sym, refl, ap, ◌∙◌, arith, line_feed, carriage_return, ends_in_return, starts_with_feed, starts_with_feed-bytes, ends_in_return-bytes, chars-none, ◌+◌, ◌≤◌, inl, inr, ◌++◌, append-nil, cases_lt, len_utf8, len_utf8_bounds, Text, size, size-append, size-cons, IsBoundary, IsBoundary-before, IsBoundary-behind, IsBoundary-either, take, drop, append_assoc, length-take-le, IsUtf8-take, size-chars, chars-append, IsCharBoundary-from_boundary, take-append-drop, IsReplaced}
use Rattle.std.proofs.Common.{suc, false, true, get_or, nat_lt, ◌==◌}
use Rattle.std.proofs.lemmas.Bool.{ltb-true, ltb-false}
use Rattle.std.proofs.lemmas.List.{get_or_default}
use Rattle.str_indices.proofs.lemmas.Callers.{ends_in_return-one, ends_in_return-cons, starts_with_feed_is}

-- a list ends in CR where its last number is CR
last_return : (bs : List ℕ) → 0 < length bs → (get_or bs (length bs - 1) 0 == carriage_return) ≡ ends_in_return bs
last_return [] some = absurd (omega arith)
last_return (c ∷ []) some = sym (ends_in_return-one c)
last_return (c ∷ d ∷ cs) some =
    let back : length (c ∷ d ∷ cs) - 1 ≡ suc (length (d ∷ cs) - 1) = omega arith in
    ap (λ k. get_or (c ∷ d ∷ cs) k 0 == carriage_return) back ∙ last_return (d ∷ cs) (omega arith)
    ∙ sym (ends_in_return-cons c d cs)

module _ (text bytes : List ℕ) (utf8 : IsUtf8 text) (same : bytes ≡ text) (byte : ℕ)
    (some : true ≡ nat_lt 0 (length bytes)) where
  -- so does a text
  pub ends_by_last : byte ≡ get_or bytes (length bytes - 1) byte
      → (byte == carriage_return) ≡ ends_in_return (chars text)
  ends_by_last last =
      let filled = ltb-true 0 (length bytes) (sym some) in
      let is : byte ≡ get_or bytes (length bytes - 1) 0 =
      last ∙ get_or_default bytes (length bytes - 1) byte 0 (omega arith) in
      ap (λ b. b == carriage_return) is ∙ last_return bytes filled ∙ ap ends_in_return same
      ∙ ends_in_return-bytes text utf8

  -- and it starts with LF where its first byte is LF
  pub starts_by_first : byte ≡ get_or bytes 0 byte → (byte == line_feed) ≡ starts_with_feed (chars text)
  starts_by_first first =
      let filled = ltb-true 0 (length bytes) (sym some) in
      let is : byte ≡ get_or bytes 0 0 = first ∙ get_or_default bytes 0 byte 0 filled in
      ap (λ b. b == line_feed) is ∙ sym (starts_with_feed_is bytes) ∙ ap starts_with_feed same
      ∙ starts_with_feed-bytes text utf8

-- an empty text does neither
pub edges_of_none : (text bytes : List ℕ) → bytes ≡ text → false ≡ nat_lt 0 (length bytes)
    → (false ≡ starts_with_feed (chars text)) × (false ≡ ends_in_return (chars text))
edges_of_none text bytes same none =
    let empty = chars-none text (omega (arith, ltb-false 0 (length bytes) (sym none), ap length same)) in
    rw empty (refl, refl)

-- The boundaries of two texts, one after the other, and what stands between two of them.

-- a boundary is within its text
pub boundary-le : (cs : Text) (p : ℕ) → IsBoundary cs p → p ≤ size cs
boundary-le cs p at = omega (arith, at.place, ap size at.split, size-append at.front at.back)

-- the end of a text is one
pub boundary_end : (cs : Text) (p : ℕ) → p ≡ size cs → IsBoundary cs p
boundary_end cs p end = record { front = cs; back = []; split = sym (append-nil cs); place = sym end }

-- and its beginning
pub boundary_start : (cs : Text) → IsBoundary cs 0
boundary_start cs = record { front = []; back = cs; split = refl; place = refl }

-- before a place in the first of two texts there are the same boundaries
pub boundary_left : (a b : Text) (p : ℕ) → p < size a
    → (IsBoundary (a ++ b) p → IsBoundary a p) × (IsBoundary a p → IsBoundary (a ++ b) p)
boundary_left a b p before = (
  (λ whole. elim (IsBoundary-either a b p whole) [
    | inl here ↦ here
    | inr (own, is, there) ↦ absurd (omega (arith, is))
  ]),
  IsBoundary-before a b p,
)

-- and from its end on those of the second
pub boundary_right : (a b : Text) (p j : ℕ) → size a + j ≡ p
    → (IsBoundary (a ++ b) p → IsBoundary b j) × (IsBoundary b j → IsBoundary (a ++ b) p)
boundary_right a b p j is = (
  (λ whole. elim (IsBoundary-either a b p whole) [
    | inl here ↦
        let zero_is : j ≡ 0 = omega (arith, is, here.place, ap size here.split, size-append here.front here.back) in
        rw zero_is (boundary_start b)
    | inr (own, own_is, there) ↦ let same : own ≡ j = omega (arith, own_is, is) in rw same at there
  ]),
  (λ own. rw (← is) (IsBoundary-behind a b j own)),
)

-- up to the end of the first of two texts
pub boundary_upto : (a b : Text) (p : ℕ) → p ≤ size a → IsBoundary (a ++ b) p → IsBoundary a p
boundary_upto a b p within whole = elim (cases_lt p (size a)) [
  | inl before ↦ (boundary_left a b p before).0 whole
  | inr past ↦ boundary_end a p (omega arith)
]

-- a text in three, by two boundaries
pub record AreParts (cs : Text) (from to : ℕ) : Type 0 where
  pub front : Text
  pub middle : Text
  pub back : Text
  pub parts : cs ≡ front ++ (middle ++ back)
  pub start : size front ≡ from
  pub end : size front + size middle ≡ to

-- one after the other
parts_beside : (cs a rest : Text) (from to : ℕ) → cs ≡ a ++ rest → size a ≡ from → from ≤ to
    → IsBoundary rest (to - from) → AreParts cs from to
parts_beside cs a rest from to split start order inner = record {
  front = a;
  middle = inner.front;
  back = inner.back;
  parts = split ∙ ap (λ r. a ++ r) inner.split;
  start = start;
  end = omega (arith, start, inner.place);
}

pub parts_of : (cs : Text) (from to : ℕ) → from ≤ to → IsBoundary cs from → IsBoundary cs to → AreParts cs from to
parts_of cs from to order start end =
    let whole : IsBoundary (start.front ++ start.back) to = rw start.split at end in
    parts_beside cs start.front start.back from to start.split start.place order
    ((boundary_right start.front start.back to (to - from) (omega (arith, start.place))).0 whole)

-- two ways to cut one text after as many bytes are the same
pub record AreSame (a b c d : Text) : Type 0 where
  pub front : a ≡ c
  pub back : b ≡ d

pub same_cut : (a b c d : Text) → a ++ b ≡ c ++ d → size a ≡ size c → AreSame a b c d
same_cut [] b [] d whole sizes = record { front = refl; back = whole }
same_cut [] b (y ∷ ys) d whole sizes = absurd (omega (arith, sizes, size-cons y ys, len_utf8_bounds y))
same_cut (x ∷ xs) b [] d whole sizes = absurd (omega (arith, sizes, size-cons x xs, len_utf8_bounds x))
same_cut (x ∷ xs) b (y ∷ ys) d whole sizes =
    let heads : x ≡ y = cc in
    let tails : xs ++ b ≡ ys ++ d = cc in
    let rest : size xs ≡ size ys = omega (arith, sizes, size-cons x xs, size-cons y ys, ap len_utf8 heads) in
    let inner = same_cut xs b ys d tails rest in
    record { front = cc (heads, inner.front); back = inner.back }

-- two ways to cut it in three
pub record AreSameParts (a m b c n d : Text) : Type 0 where
  pub front : a ≡ c
  pub middle : m ≡ n
  pub back : b ≡ d

pub same_parts : (a m b c n d : Text) → a ++ (m ++ b) ≡ c ++ (n ++ d) → size a ≡ size c → size m ≡ size n
    → AreSameParts a m b c n d
same_parts a m b c n d whole sizes inner =
    let outer = same_cut a (m ++ b) c (n ++ d) whole sizes in
    let rest = same_cut m b n d outer.back inner in
    record { front = outer.front; middle = rest.front; back = rest.back }

-- A text with a part of it exchanged for another text.

-- the bytes of a text with those between two boundaries exchanged
pub replaced_bytes : (bytes more whole : List ℕ) → IsUtf8 bytes → IsUtf8 more → (from to : ℕ) → from ≤ to
    → IsBoundary (chars bytes) from → IsBoundary (chars bytes) to → whole ≡ take from bytes ++ (more ++ drop to bytes)
    → IsReplaced (chars bytes) (chars whole) from to (chars more)
replaced_bytes bytes more whole utf8 utf8_more from to order start end is =
    let parts = parts_of (chars bytes) from to order start end in
    let first = IsCharBoundary-from_boundary bytes utf8 from start in
    let second = IsCharBoundary-from_boundary bytes utf8 to end in
    let left = IsUtf8-take bytes from utf8 first in
    let right = IsUtf8-take bytes to utf8 second in
    let before : chars bytes ≡ chars (take from bytes) ++ chars (drop from bytes) =
    ap chars (sym (take-append-drop from bytes)) ∙ chars-append (take from bytes) (drop from bytes) left in
    let after : chars bytes ≡ chars (take to bytes) ++ chars (drop to bytes) =
    ap chars (sym (take-append-drop to bytes)) ∙ chars-append (take to bytes) (drop to bytes) right in
    let size_left = size-chars (take from bytes) left ∙ length-take-le from bytes first.0 in
    let size_right = size-chars (take to bytes) right ∙ length-take-le to bytes second.0 in
    let front = same_cut (chars (take from bytes)) (chars (drop from bytes)) parts.front (parts.middle ++ parts.back)
    (sym before ∙ parts.parts) (size_left ∙ sym parts.start) in
    let back = same_cut (chars (take to bytes)) (chars (drop to bytes)) (parts.front ++ parts.middle) parts.back
    (sym after ∙ parts.parts ∙ sym (append_assoc parts.front parts.middle parts.back))
    (size_right ∙ sym (size-append parts.front parts.middle ∙ parts.end)) in
    record {
      front = parts.front;
      middle = parts.middle;
      back = parts.back;
      was = parts.parts;
      start = parts.start;
      end = parts.end;
      is = ap chars is ∙ chars-append (take from bytes) (more ++ drop to bytes) left
          ∙ ap (λ r. chars (take from bytes) ++ r) (chars-append more (drop to bytes) utf8_more)
          ∙ ap (λ r. r ++ (chars more ++ chars (drop to bytes))) front.front
          ∙ ap (λ r. parts.front ++ (chars more ++ r)) back.back;
    }

-- there is only one text in which the same part is replaced by the same text
pub same_replaced : (old new other : Text) (from to : ℕ) (text : Text) → IsReplaced old new from to text
    → IsReplaced old other from to text → new ≡ other
same_replaced old new other from to text r o =
    let same = same_parts r.front r.middle r.back o.front o.middle o.back (sym r.was ∙ o.was) (r.start ∙ sym o.start)
    (omega (arith, r.start, r.end, o.start, o.end)) in
    r.is ∙ ap (λ x. x ++ (text ++ r.back)) same.front ∙ ap (λ x. o.front ++ (text ++ x)) same.back ∙ sym o.is

-- it has the bytes of what is left and of what came in
pub size-replaced : (old new : Text) (from to : ℕ) (text : Text) → IsReplaced old new from to text
    → size new + (to - from) ≡ size old + size text
size-replaced old new from to text r = omega (
  arith,
  ap size r.was,
  ap size r.is,
  r.start,
  r.end,
  size-append r.front (r.middle ++ r.back),
  size-append r.middle r.back,
  size-append r.front (text ++ r.back),
  size-append text r.back,
)

-- a text put in where a part was taken out before
pub taken_then_put : (old mid new : Text) (from to : ℕ) (text : Text) → IsReplaced old mid from to []
    → IsReplaced mid new from from text → IsReplaced old new from to text
taken_then_put old mid new from to text out put =
    let none : size put.middle ≡ 0 = omega (arith, put.start, put.end) in
    let whole : out.front ++ out.back ≡ put.front ++ (put.middle ++ put.back) = sym out.is ∙ put.was in
    let outer = same_cut out.front out.back put.front (put.middle ++ put.back) whole (out.start ∙ sym put.start) in
    let inner = same_cut [] out.back put.middle put.back outer.back (sym none) in
    record {
      front = out.front;
      middle = out.middle;
      back = out.back;
      was = out.was;
      start = out.start;
      end = out.end;
      is = put.is ∙ ap (λ r. r ++ (text ++ put.back)) (sym outer.front) ∙ ap (λ r. out.front ++ (text ++ r)) (sym inner.back);
    }
