-- The joined text of a list of pieces, by a piece and those before and after it; a piece cut in two; the cost of questions.
use Rattle.piece_text.proofs.lemmas.Common.{List, length, arith, ◌≡◌, ◌≢◌, [], ◌∷◌, ◌++◌, ap, refl, append-nil, Text, joined, as_pieces, ℕ, zero, suc, ◌+◌, ◌-◌, ◌<◌, ◌≤◌, inl, inr, take, drop, insert, remove, set, sym, ◌∙◌, append_assoc, add-one, take-take, chars, IsUtf8, take-append-drop, take_at, length-take-le, length-drop, size, IsBoundary, size-append, size-chars, chars-append, chars-some, IsCharBoundary-from_boundary, IsBoundary-before, IsBoundary-behind, IsBoundary-either, joined_size, piece_at, IsEdge, IsHalved, IsCut, PiecesState}
pub use Rattle.text_summary.proofs.lemmas.Callers.{joined-append, joined-split, joined-take, drop-piece, joined-drop, joined_size-insert, joined_size-take}
use Rattle.std.proofs.lemmas.Bool.{cases_lt}
use Rattle.std.proofs.lemmas.Str.{IsUtf8-take, IsUtf8-drop}
use Rattle.std.specs.Prelude.{◌*◌, ◌^◌}
use Rattle.std.proofs.Common.{pow_pos}
use Rattle.std.proofs.Math.Nat.{one-mul, pow-zero, pow-suc, pow-le-pow_right}
use Rattle.positions.proofs.lemmas.Callers.{none_taken, taken_within}
use Rattle.positions.specs.Parts.{Searched}
use Rattle.piece_text.specs.Parts.{Asks, parts_of}

-- a text as pieces, joined, is the text
pub joined-as_pieces : (text : Text) → joined (as_pieces text) ≡ text
joined-as_pieces [] = refl
joined-as_pieces (c ∷ cs) = append-nil (c ∷ cs)

-- a text that is not empty is one piece
pub as_pieces-some : (text : Text) → text ≢ [] → as_pieces text ≡ text ∷ []
as_pieces-some [] some = absurd (some refl)
as_pieces-some (c ∷ cs) some = refl

-- no pieces are the empty list of them
pub no_pieces : (texts : List Text) → length texts ≡ 0 → texts ≡ []
no_pieces [] none = refl
no_pieces (x ∷ xs) none = absurd (omega (arith, none))

-- what comes after a text leaves it no less empty
pub some_after : (a b : Text) → b ≢ [] → a ++ b ≢ []
some_after [] b some = some
some_after (c ∷ cs) b some = λ none. absurd (omega (arith, ap length none))

-- A byte index inside a piece, and the piece cut in two there.

-- the bytes of a piece, and of all others
pub joined_size-remove : (xs : List Text) (at : ℕ) → at < length xs
    → joined_size (remove xs at) + size (piece_at xs at) ≡ joined_size xs
joined_size-remove xs at inside =
    let front = joined (take at xs) in
    let back = joined (drop (at + 1) xs) in
    let parts = ap size (joined-append (take at xs) (drop (at + 1) xs)) ∙ size-append front back in
    let rest = ap size (joined-drop xs at inside) ∙ size-append (piece_at xs at) back in
    let whole = ap size (joined-split xs at) ∙ size-append front (joined (drop at xs)) in
    let own : joined_size (remove xs at) ≡ size (joined (take at xs ++ drop (at + 1) xs)) = rw add-one refl in
    omega arith

-- a boundary is within its text
boundary-le : (cs : Text) (p : ℕ) → IsBoundary cs p → p ≤ size cs
boundary-le cs p at = omega (arith, at.place, ap size at.split, size-append at.front at.back)

-- past its end is none
pub no_boundary_past : (cs : Text) (p : ℕ) → size cs < p → ¬ (IsBoundary cs p)
no_boundary_past cs p past at = omega (arith, boundary-le cs p at)

-- more pieces take no fewer bytes
joined_size-take-le : (xs : List Text) (n m : ℕ) → n ≤ m → joined_size (take n xs) ≤ joined_size (take m xs)
joined_size-take-le xs n m le = rw (take-take n m xs le) at (joined_size-take (take m xs) n)

-- the first i pieces end at an edge
pub edge_of : (texts : List Text) (i byte : ℕ) → joined_size (take i texts) ≡ byte → IsEdge texts byte
edge_of texts i byte place =
    record { before = take i texts; after = drop i texts; split = sym (take-append-drop i texts); place = place }

-- an edge is a boundary
pub edge_boundary : (texts : List Text) (byte : ℕ) → IsEdge texts byte → IsBoundary (joined texts) byte
edge_boundary texts byte edge = record {
  front = joined edge.before;
  back = joined edge.after;
  split = ap joined edge.split ∙ joined-append edge.before edge.after;
  place = edge.place;
}

-- a byte index in piece i, `at` bytes after its beginning and before its end
pub record IsInside (texts : List Text) (i at byte : ℕ) : Type 0 where
  pub inside : i < length texts
  pub place : joined_size (take i texts) + at ≡ byte
  pub above : 0 < at
  pub below : at < size (piece_at texts i)

-- the piece that a byte index is in, where it is no edge
pub inside_of : (texts : List Text) (i start byte : ℕ) → start ≡ joined_size (take i texts) → start ≤ byte
    → (i < length texts → byte < start + size (piece_at texts i)) → i < length texts → start ≢ byte
    → IsInside texts i (byte - start) byte
inside_of texts i start byte starts past within inside no_edge =
    let below = within inside in
    record { inside = inside; place = omega arith; above = omega arith; below = omega arith }

module _ (texts : List Text) (i at byte : ℕ) (inner : IsInside texts i at byte) where
  around : joined texts ≡ joined (take i texts) ++ (piece_at texts i ++ joined (drop (i + 1) texts))
  around = joined-split texts i ∙ ap (λ r. joined (take i texts) ++ r) (joined-drop texts i inner.inside)

  -- it is a boundary of the piece where it is one of the joined text
  pub boundary_of_piece : IsBoundary (joined texts) byte → IsBoundary (piece_at texts i) at
  boundary_of_piece whole =
      let before = joined (take i texts) in
      let piece = piece_at texts i in
      let behind = joined (drop (i + 1) texts) in
      elim (IsBoundary-either before (piece ++ behind) byte (rw around at whole)) [
        | inl here ↦ absurd (omega (arith, boundary-le before byte here, inner.place, inner.above))
        | inr (own, is, there) ↦
            let same : own ≡ at = omega (arith, is, inner.place) in
            elim (IsBoundary-either piece behind own there) [
              | inl here ↦ rw same at here
              | inr (past, beyond, _) ↦ absurd (omega (arith, beyond, inner.below, same))
            ]
      ]

  -- and the other way round
  pub boundary_of_joined : IsBoundary (piece_at texts i) at → IsBoundary (joined texts) byte
  boundary_of_joined own =
      let behind = joined (drop (i + 1) texts) in
      rw (around, ← inner.place) (IsBoundary-behind (joined (take i texts)) (piece_at texts i ++ behind) at
      (IsBoundary-before (piece_at texts i) behind at own))

  -- it is no edge
  pub no_edge : ¬ (IsEdge texts byte)
  no_edge edge =
      let n = length edge.before in
      let front : take n texts ≡ edge.before = ap (take n) edge.split ∙ take_at edge.before edge.after n refl in
      let place : joined_size (take n texts) ≡ byte = ap joined_size front ∙ edge.place in
      let more = ap size (joined-take texts i inner.inside) ∙ size-append (joined (take i texts)) (piece_at texts i) in
      elim (cases_lt i n) [
        | inl behind ↦
            absurd (omega (arith, inner.place, inner.below, joined_size-take-le texts (i + 1) n (omega arith)))
        | inr before ↦ absurd (omega (arith, inner.place, inner.above, joined_size-take-le texts n i before))
      ]

-- the second half is put in after piece i, and then the first half in its place
pub cut_list : {X : Type 0} (xs : List X) (i : ℕ) (left right : X) → i < length xs
    → set (insert xs (suc i) right) i left ≡ take i xs ++ left ∷ right ∷ drop (suc i) xs
cut_list [] i left right inside = absurd (omega arith)
cut_list (x ∷ xs) zero left right inside = refl
cut_list (x ∷ xs) (suc i) left right inside = ap (λ r. x ∷ r) (cut_list xs i left right (omega arith))

-- so piece i is cut in two
pub is_cut : (xs : List Text) (i : ℕ) (left right : Text) (at : ℕ) → i < length xs
    → IsHalved (piece_at xs i) left right at
    → IsCut xs (set (insert xs (i + 1) right) i left) (joined_size (take i xs) + at)
is_cut xs i left right at inside halved = record {
  before = take i xs;
  text = piece_at xs i;
  left = left;
  right = right;
  after = drop (suc i) xs;
  was = sym (take-append-drop i xs) ∙ ap (λ r. take i xs ++ r) (drop-piece xs i inside);
  is = rw add-one (cut_list xs i left right inside);
  at = at;
  halved = halved;
  place = refl;
}

-- and the joined text stays
pub joined-cut : (old new : List Text) (byte : ℕ) → IsCut old new byte → joined new ≡ joined old
joined-cut old new byte cut =
    ap joined cut.is ∙ joined-append cut.before (cut.left ∷ cut.right ∷ cut.after)
    ∙ ap (λ r. joined cut.before ++ r) (sym (append_assoc cut.left cut.right (joined cut.after))
    ∙ ap (λ t. t ++ joined cut.after) (sym cut.halved.halves))
    ∙ sym (joined-append cut.before (cut.text ∷ cut.after)) ∙ ap joined (sym cut.was)

-- the halves of a text, cut between its chars
pub is_halved : (bytes : List ℕ) → IsUtf8 bytes → (at : ℕ) → IsBoundary (chars bytes) at → 0 < at
    → at < size (chars bytes) → IsHalved (chars bytes) (chars (take at bytes)) (chars (drop at bytes)) at
is_halved bytes utf8 at boundary above below =
    let sizes = size-chars bytes utf8 in
    let char = IsCharBoundary-from_boundary bytes utf8 at boundary in
    let left = IsUtf8-take bytes at utf8 char in
    let right = IsUtf8-drop bytes at utf8 char in
    let front = length-take-le at bytes (omega arith) in
    record {
      halves = ap chars (sym (take-append-drop at bytes)) ∙ chars-append (take at bytes) (drop at bytes) left;
      place = size-chars (take at bytes) left ∙ front;
      left_some = chars-some (take at bytes) left (omega arith);
      right_some = chars-some (drop at bytes) right (omega (arith, length-drop at bytes));
    }

-- The cost of questions, as searches of parts.

power_one : (m : ℕ) → m ^ 1 ≡ m
power_one m = pow-suc m 0 ∙ ap (λ n. n * m) (pow-zero m) ∙ one-mul m

-- the looks of a question, as a power
few_looks : {old new : PiecesState} → Asks old new → 2 ^ (new.looks - old.looks) ≤ 2 ^ length old.texts
few_looks {old} {new} asks = pow-le-pow_right (omega arith) (omega (arith, asks.looks, asks.looks_kept))

-- no search
pub took_none : (state : PiecesState) {b c : ℕ} → Searched b c (parts_of state) (parts_of state)
took_none state = taken_within (record { byte_choices = pow_pos (length state.texts); count_choices = pow_pos (length state.texts) })
    (omega arith) (omega arith) (none_taken (parts_of state))

-- one by a byte
pub took_byte : {old new : PiecesState} → Asks old new → Searched 1 0 (parts_of old) (parts_of new)
took_byte {old} {new} asks =
    let m = 2 ^ length old.texts in
    record {
      text = ap joined asks.texts;
      pieces = asks.texts;
      latest_start = refl;
      byte_choices = ap (λ t. 2 ^ length t) asks.texts;
      count_choices = ap (λ t. 2 ^ length t) asks.texts;
      unit_searches = refl;
      looks = omega (arith, few_looks asks, power_one m, ap (λ n. (m ^ 1) * n) (pow-zero m));
      looks_kept = asks.looks_kept;
      reads = omega (arith, asks.reads);
      reads_kept = asks.reads_kept;
    }

-- one by a count
pub took_count : {old new : PiecesState} → Asks old new → Searched 0 1 (parts_of old) (parts_of new)
took_count {old} {new} asks =
    let m = 2 ^ length old.texts in
    record {
      text = ap joined asks.texts;
      pieces = asks.texts;
      latest_start = refl;
      byte_choices = ap (λ t. 2 ^ length t) asks.texts;
      count_choices = ap (λ t. 2 ^ length t) asks.texts;
      unit_searches = refl;
      looks = omega (arith, few_looks asks, power_one m, ap (λ n. n * (m ^ 1)) (pow-zero m));
      looks_kept = asks.looks_kept;
      reads = omega (arith, asks.reads);
      reads_kept = asks.reads_kept;
    }
