-- The chunks of a tree.
use Rattle.std.proofs.lemmas.List.Elements.{All-cons, All-head, All-nil, All-tail, All-append}
use Rattle.text_rope.proofs.lemmas.Common.{◌≡◌, ◌≤◌, List, [], ◌∷◌, ◌++◌, length, refl, arith, Text, size-append, size-some, joined, joined_size, ℕ, ◌+◌, ◌^◌, ◌<◌, length-append, ◌∙◌, sym, ap, append_assoc, inl, inr, cases_lt, max, size, joined-append, Seen, DifferByAtMost, fewest, summary_of, Summary, zero, suc, ◌-◌, take, drop, subst, append-nil, add-one, joined-take, piece_at, take-append-drop, parts_of, same_cut, IsReplaced, ◌≢◌, ◌*◌, min_chunk, IsLongEnough, AreLongEnough, IsFilled}
use Rattle.std.specs.List.{All}
use Rattle.text_rope.specs.Leaves.{HasBytes, AreSome}
use Rattle.std.specs.Prelude.{Result, IfOk, ◌⊎◌, Ok, Err, OnOk, OnErr}
use Rattle.text_rope.specs.Shapes.{IsBranchOf, IsJoined}
use Rattle.text_rope.specs.Views.{IsSubtree}
use Rattle.std.proofs.lemmas.Result.{IfOk-weaker}
use Rattle.text_rope.proofs.lemmas.Costs.{fewest-branch}
use Rattle.text_rope.specs.ChunkEnds.{AreExchanged, AreFirst, AreLast, IsChunkEnd, IsChunkOf}
use Rattle.text_rope.specs.Shifts.{IsOneChanged}
use Rattle.text_rope.specs.declared.chunk.Unplaced.{Unplaced}
use Rattle.text_rope.specs.declared.shifts.Shift.{Shift}

-- ---- chunks of which none is empty

-- of two lists the first, and the second
pub all_front : (P : Text → Type 0) (xs ys : List Text) → All P (xs ++ ys) → All P xs
all_front P [] ys all = All-nil P
all_front P (x ∷ xs) ys all =
    All-cons P x xs (All-head P x (xs ++ ys) all) (all_front P xs ys (All-tail P x (xs ++ ys) all))

pub all_back : (P : Text → Type 0) (xs ys : List Text) → All P (xs ++ ys) → All P ys
all_back P [] ys all = all
all_back P (x ∷ xs) ys all = all_back P xs ys (All-tail P x (xs ++ ys) all)

-- they have as many bytes
pub few_some : (chunks : List Text) → AreSome chunks → length chunks ≤ joined_size chunks
few_some [] each = omega arith
few_some (chunk ∷ chunks) each =
    let rest = few_some chunks (All-tail HasBytes chunk chunks each) in
    omega (arith, size-append chunk (joined chunks), size-some chunk (All-head HasBytes chunk chunks each), rest)

-- and without bytes there are none
pub none_some : (chunks : List Text) → AreSome chunks → joined_size chunks ≡ 0 → chunks ≡ []
none_some [] each none = refl
none_some (chunk ∷ chunks) each none = absurd (omega (arith, none, few_some (chunk ∷ chunks) each))

-- ---- the joined text of two trees, one after the other

-- its bytes
pub joined_size-append : (xs ys : List Text) → joined_size (xs ++ ys) ≡ joined_size xs + joined_size ys
joined_size-append xs ys = ap size (joined-append xs ys) ∙ size-append (joined xs) (joined ys)

-- the same, under a name that an attribute can have
pub branch_size : (xs ys : List Text) → joined_size (xs ++ ys) ≡ joined_size xs + joined_size ys
branch_size = joined_size-append

-- what is known of each tree holds of the branch over two
pub is_subtree : (left right : Seen) (summary : Summary) (height : ℕ)
    → summary ≡ summary_of (joined left.texts ++ joined right.texts)
    → joined_size left.texts + joined_size right.texts < 2 ^ 63
    → height ≡ max left.height right.height + 1 → DifferByAtMost 1 left.height right.height
    → left.height < length left.texts → right.height < length right.texts
    → fewest left.height ≤ length left.texts → fewest right.height ≤ length right.texts
    → AreSome left.texts → AreSome right.texts
    → IsSubtree (record { texts = left.texts ++ right.texts; height = height }) summary
is_subtree left right summary height summary_is short height_is near low_l low_r many_l many_r each_l each_r =
    let n = length-append left.texts right.texts in
    let bytes = joined_size-append left.texts right.texts in
    record {
      summary_is = rw joined-append summary_is;
      some = omega (arith, n, low_l);
      short = omega (arith, bytes, short);
      each = All-append HasBytes left.texts right.texts each_l each_r;
      low = omega (arith, n, height_is, low_l, low_r);
      many = omega (arith, n, fewest-branch left.height right.height (length left.texts) (length right.texts) height height_is many_l many_r near);
    }

-- a branch and a lower tree on its right: the branch's left subtree beside what the right one was joined to
pub joined_on_right : {E : Type 0} (r : Result Seen E) (front back mid left right : Seen) → IsBranchOf left front back
    → IsJoined mid back right → right.height + 1 < left.height → IfOk r (λ s. IsJoined s front mid)
    → (DifferByAtMost 1 front.height mid.height → IfOk r (λ s. IsBranchOf s front mid)) → IfOk r (λ s. IsJoined s left right)
joined_on_right r front back mid left right branch inner lower joined even =
    let texts : front.texts ++ mid.texts ≡ left.texts ++ right.texts =
    ap (λ t. front.texts ++ t) inner.texts ∙ sym (append_assoc front.texts back.texts right.texts)
    ∙ ap (λ t. t ++ right.texts) (sym branch.texts) in
    let near = branch.balanced in
    let at_least = inner.height.not_lower in
    let at_most = inner.height.at_most_one_higher in
    elim (cases_lt mid.height (front.height + 2)) [
      | inl close ↦
          IfOk-weaker r (λ s. IsBranchOf s front mid) (λ s. IsJoined s left right) (λ s is. record {
            texts = is.texts ∙ texts;
            height = record {
              not_lower = omega (arith, is.height, branch.height, near.left, near.right, lower, at_least, at_most);
              at_most_one_higher = omega (arith, is.height, branch.height, near.left, near.right, lower, at_least, at_most);
            };
          }) (even (record { left = omega (arith, near.left, at_least); right = omega (arith, close) }))
      | inr apart ↦
          IfOk-weaker r (λ s. IsJoined s front mid) (λ s. IsJoined s left right) (λ s is. record {
            texts = is.texts ∙ texts;
            height = record {
              not_lower = omega (arith, is.height.not_lower, branch.height, near.left, near.right, lower, apart);
              at_most_one_higher = omega (arith, is.height.at_most_one_higher, branch.height, near.left, near.right, lower, apart, at_most);
            };
          }) joined
    ]

-- and the mirror of that
pub joined_on_left : {E : Type 0} (r : Result Seen E) (front back mid left right : Seen) → IsBranchOf right front back
    → IsJoined mid left front → left.height + 1 < right.height → IfOk r (λ s. IsJoined s mid back)
    → (DifferByAtMost 1 mid.height back.height → IfOk r (λ s. IsBranchOf s mid back)) → IfOk r (λ s. IsJoined s left right)
joined_on_left r front back mid left right branch inner lower joined even =
    let texts : mid.texts ++ back.texts ≡ left.texts ++ right.texts =
    ap (λ t. t ++ back.texts) inner.texts ∙ append_assoc left.texts front.texts back.texts
    ∙ ap (λ t. left.texts ++ t) (sym branch.texts) in
    let near = branch.balanced in
    let at_least = inner.height.not_lower in
    let at_most = inner.height.at_most_one_higher in
    elim (cases_lt mid.height (back.height + 2)) [
      | inl close ↦
          IfOk-weaker r (λ s. IsBranchOf s mid back) (λ s. IsJoined s left right) (λ s is. record {
            texts = is.texts ∙ texts;
            height = record {
              not_lower = omega (arith, is.height, branch.height, near.left, near.right, lower, at_least, at_most);
              at_most_one_higher = omega (arith, is.height, branch.height, near.left, near.right, lower, at_least, at_most);
            };
          }) (even (record { left = omega (arith, close); right = omega (arith, near.right, at_least) }))
      | inr apart ↦
          IfOk-weaker r (λ s. IsJoined s mid back) (λ s. IsJoined s left right) (λ s is. record {
            texts = is.texts ∙ texts;
            height = record {
              not_lower = omega (arith, is.height.not_lower, branch.height, near.left, near.right, lower, apart);
              at_most_one_higher = omega (arith, is.height.at_most_one_higher, branch.height, near.left, near.right, lower, apart, at_most);
            };
          }) joined
    ]

-- ---- the ends of their chunks, and a part that is exchanged in one of them

-- the bytes of a chunk and of those after it
pub size-chunk : (x : Text) (xs : List Text) → joined_size (x ∷ xs) ≡ size x + joined_size xs
size-chunk x xs = size-append x (joined xs)

-- one chunk more before
chunk_end_cons : (x : Text) (xs : List Text) (p : ℕ) → IsChunkEnd xs p → IsChunkEnd (x ∷ xs) (size x + p)
chunk_end_cons x xs p at = record {
  front = x ∷ at.front;
  back = at.back;
  split = ap (λ r. x ∷ r) at.split;
  place = size-chunk x at.front ∙ ap (λ n. size x + n) at.place;
}

-- the beginning and the end
pub chunk_end_none : (xs : List Text) → IsChunkEnd xs 0
chunk_end_none xs = record { front = []; back = xs; split = refl; place = refl }

pub chunk_end_all : (xs : List Text) → IsChunkEnd xs (joined_size xs)
chunk_end_all xs = record { front = xs; back = []; split = sym (append-nil xs); place = refl }

-- up to the end of the first of two lists
left_end : (ls rs xs ys : List Text) → ls ++ rs ≡ xs ++ ys → joined_size xs ≤ joined_size ls → IsChunkEnd ls (joined_size xs)
left_end ls rs [] ys whole within = chunk_end_none ls
left_end [] rs (x ∷ xs) ys whole within =
    let none : joined_size (x ∷ xs) ≡ 0 = omega arith in
    rw none (chunk_end_none [])
left_end (l ∷ ls) rs (x ∷ xs) ys whole within =
    let head : l ≡ x = cc in
    let tails : ls ++ rs ≡ xs ++ ys = cc in
    let inner = left_end ls rs xs ys tails (omega (arith, within, size-chunk l ls, size-chunk x xs, ap size head)) in
    let is : size l + joined_size xs ≡ joined_size (x ∷ xs) = omega (arith, size-chunk x xs, ap size head) in
    rw (← is) (chunk_end_cons l ls (joined_size xs) inner)

pub chunk_end_left : (ls rs : List Text) (p : ℕ) → IsChunkEnd (ls ++ rs) p → p ≤ joined_size ls → IsChunkEnd ls p
chunk_end_left ls rs p at within =
    rw at.place at (left_end ls rs at.front at.back at.split (omega (arith, at.place, within)))

-- from there on those of the second
right_end : (ls rs xs ys : List Text) (j : ℕ) → ls ++ rs ≡ xs ++ ys → joined_size ls + j ≡ joined_size xs → IsChunkEnd rs j
right_end [] rs xs ys j whole is = record { front = xs; back = ys; split = whole; place = omega (arith, is) }
right_end (l ∷ ls) rs [] ys j whole is =
    let none : j ≡ 0 = omega (arith, is) in
    rw none (chunk_end_none rs)
right_end (l ∷ ls) rs (x ∷ xs) ys j whole is =
    let head : l ≡ x = cc in
    let tails : ls ++ rs ≡ xs ++ ys = cc in
    right_end ls rs xs ys j tails (omega (arith, is, size-chunk l ls, size-chunk x xs, ap size head))

pub chunk_end_right : (ls rs : List Text) (p j : ℕ) → IsChunkEnd (ls ++ rs) p → joined_size ls + j ≡ p → IsChunkEnd rs j
chunk_end_right ls rs p j at is = right_end ls rs at.front at.back j at.split (omega (arith, at.place, is))

-- before a place there is a whole chunk more, and it does not pass it
next_end : (xs fs bs : List Text) (i p : ℕ) → xs ≡ fs ++ bs → joined_size fs ≡ p → joined_size (take i xs) < p
    → (i < length xs) × (joined_size (take (suc i) xs) ≤ p)
next_end xs [] bs i p split place before = absurd (omega (arith, place))
next_end [] (f ∷ fs) bs i p split place before = cc
next_end (x ∷ xs) (f ∷ fs) bs zero p split place before =
    let head : x ≡ f = cc in (
      omega arith,
      omega (arith, size-chunk x [], size-chunk f fs, ap size head, place),
    )
next_end (x ∷ xs) (f ∷ fs) bs (suc i) p split place before =
    let head : x ≡ f = cc in
    let tails : xs ≡ fs ++ bs = cc in
    let inner = next_end xs fs bs i (p - size x) tails (omega (arith, size-chunk f fs, ap size head, place))
    (omega (arith, size-chunk x (take i xs), before)) in (
      omega (arith, inner.0),
      omega (arith, inner.1, size-chunk x (take (suc i) xs), size-chunk x (take i xs), before),
    )

-- the bytes up to a chunk's end
pub next_size : (xs : List Text) (i : ℕ) → i < length xs → joined_size (take (i + 1) xs) ≡ joined_size (take i xs) + size (piece_at xs i)
next_size xs i inside = ap size (joined-take xs i inside) ∙ size-append (joined (take i xs)) (piece_at xs i)

pub next_chunk : (xs : List Text) (i p : ℕ) → IsChunkEnd xs p → joined_size (take i xs) < p → joined_size (take (i + 1) xs) ≤ p
next_chunk xs i p at before = rw add-one ((next_end xs at.front at.back i p at.split at.place before).1)

-- the chunk in which a place is, or at the end of which it is, starts there, or ends there
pub starts_at : (xs : List Text) (i p : ℕ) → IsChunkEnd xs p → i < length xs → joined_size (take i xs) ≤ p
    → p < joined_size (take i xs) + size (piece_at xs i) → joined_size (take i xs) ≡ p
starts_at xs i p at inside after before = elim (cases_lt (joined_size (take i xs)) p) [
  | inl less ↦ absurd (omega (arith, next_chunk xs i p at less, next_size xs i inside, before))
  | inr not_less ↦ omega (arith, not_less, after)
]

pub ends_at : (xs : List Text) (i p : ℕ) → IsChunkEnd xs p → i < length xs → joined_size (take i xs) < p
    → p ≤ joined_size (take i xs) + size (piece_at xs i) → joined_size (take (i + 1) xs) ≡ p
ends_at xs i p at inside before within = omega (arith, next_chunk xs i p at before, next_size xs i inside, within)

-- no chunk ends past the last
pub chunk_end_le : (xs : List Text) (p : ℕ) → IsChunkEnd xs p → p ≤ joined_size xs
chunk_end_le xs p at = omega (arith, ap joined_size at.split, joined_size-append at.front at.back, at.place)

-- the first chunks of a list, and the last
pub first_take : (own : List Text) (i at : ℕ) → joined_size (take i own) ≡ at → AreFirst own (take i own) at
first_take own i at place = record { back = drop i own; split = sym (take-append-drop i own); place = place }

pub last_drop : (own : List Text) (i at : ℕ) → joined_size (take i own) ≡ at → AreLast own (drop i own) at
last_drop own i at place = record { front = take i own; split = sym (take-append-drop i own); place = place }

-- those of two trees, by those of one
pub first_left : (xs ys front : List Text) (at : ℕ) → AreFirst xs front at → AreFirst (xs ++ ys) front at
first_left xs ys front at own = record {
  back = own.back ++ ys;
  split = ap (λ r. r ++ ys) own.split ∙ append_assoc front own.back ys;
  place = own.place;
}

pub first_right : (xs ys front : List Text) (at i : ℕ) → AreFirst ys front i → joined_size xs + i ≡ at
    → AreFirst (xs ++ ys) (xs ++ front) at
first_right xs ys front at i own is = record {
  back = own.back;
  split = ap (λ r. xs ++ r) own.split ∙ sym (append_assoc xs front own.back);
  place = omega (arith, joined_size-append xs front, own.place, is);
}

pub last_left : (xs ys back : List Text) (at : ℕ) → AreLast xs back at → AreLast (xs ++ ys) (back ++ ys) at
last_left xs ys back at own = record {
  front = own.front;
  split = ap (λ r. r ++ ys) own.split ∙ append_assoc own.front back ys;
  place = own.place;
}

pub last_right : (xs ys back : List Text) (at i : ℕ) → AreLast ys back i → joined_size xs + i ≡ at → AreLast (xs ++ ys) back at
last_right xs ys back at i own is = record {
  front = xs ++ own.front;
  split = ap (λ r. xs ++ r) own.split ∙ sym (append_assoc xs own.front back);
  place = omega (arith, joined_size-append xs own.front, own.place, is);
}

-- the bytes of the last chunks
pub last_size : (texts back : List Text) (at : ℕ) → AreLast texts back at → at + joined_size back ≡ joined_size texts
last_size texts back at is = omega (arith, ap joined_size is.split, joined_size-append is.front back, is.place)

-- what is between the places where a text is cut
pub record IsCutTwice (whole front upto back : Text) : Type 0 where
  pub middle : Text
  pub parts : whole ≡ front ++ (middle ++ back)
  pub size_is : size front + size middle ≡ size upto

pub cut_twice : (whole front rest upto back : Text) → whole ≡ front ++ rest → whole ≡ upto ++ back → size front ≤ size upto
    → IsCutTwice whole front upto back
cut_twice whole front rest upto back first last order =
    let p = parts_of whole (size front) (size upto) order (record { front = front; back = rest; split = first; place = refl })
    (record { front = upto; back = back; split = last; place = refl }) in
    let before = same_cut p.front (p.middle ++ p.back) front rest (sym p.parts ∙ first) p.start in
    let behind = same_cut (p.front ++ p.middle) p.back upto back (append_assoc p.front p.middle p.back ∙ sym p.parts ∙ last)
    (size-append p.front p.middle ∙ p.end) in
    record {
      middle = p.middle;
      parts = p.parts ∙ ap (λ x. x ++ (p.middle ++ p.back)) before.front ∙ ap (λ x. front ++ (p.middle ++ x)) behind.back;
      size_is = omega (arith, p.start, p.end);
    }

-- the chunks between two places, exchanged for others
pub replaced_chunks_of : (old new chunks : List Text) (from to : ℕ) → AreExchanged old new from to chunks → from ≤ to
    → IsReplaced (joined old) (joined new) from to (joined chunks)
replaced_chunks_of old new chunks from to ex order =
    let a = ex.first in
    let b = ex.last in
    let cut = cut_twice (joined old) (joined ex.front) (joined a.back) (joined b.front) (joined ex.back)
    (ap joined a.split ∙ joined-append ex.front a.back) (ap joined b.split ∙ joined-append b.front ex.back) (omega (arith, a.place, b.place)) in
    record {
      front = joined ex.front;
      middle = cut.middle;
      back = joined ex.back;
      was = cut.parts;
      start = a.place;
      end = omega (arith, cut.size_is, b.place);
      is = ap joined ex.is ∙ joined-append ex.front (chunks ++ ex.back) ∙ ap (λ r. joined ex.front ++ r) (joined-append chunks ex.back);
    }

-- how many bytes there are then
pub exchanged_bytes : (old new chunks : List Text) (from to : ℕ) → AreExchanged old new from to chunks
    → joined_size new + to ≡ joined_size old + (from + joined_size chunks)
exchanged_bytes old new chunks from to ex = omega (
  arith,
  ap joined_size ex.is,
  joined_size-append ex.front (chunks ++ ex.back),
  joined_size-append chunks ex.back,
  ex.first.place,
  last_size old ex.back to ex.last,
)

-- those of the first of two trees, or of the second
pub exchanged_left : (xs ys new whole chunks : List Text) (from to : ℕ) → AreExchanged xs new from to chunks → whole ≡ new ++ ys
    → AreExchanged (xs ++ ys) whole from to chunks
exchanged_left xs ys new whole chunks from to ex is = record {
  front = ex.front;
  back = ex.back ++ ys;
  first = first_left xs ys ex.front from ex.first;
  last = last_left xs ys ex.back to ex.last;
  is = is ∙ ap (λ r. r ++ ys) ex.is ∙ append_assoc ex.front (chunks ++ ex.back) ys ∙ ap (λ r. ex.front ++ r) (append_assoc chunks ex.back ys);
}

pub exchanged_right : (xs ys new whole chunks : List Text) (from to first last : ℕ) → AreExchanged ys new from to chunks
    → joined_size xs + from ≡ first → joined_size xs + to ≡ last → whole ≡ xs ++ new
    → AreExchanged (xs ++ ys) whole first last chunks
exchanged_right xs ys new whole chunks from to first last ex first_is last_is is = record {
  front = xs ++ ex.front;
  back = ex.back;
  first = first_right xs ys ex.front first from ex.first first_is;
  last = last_right xs ys ex.back last to ex.last last_is;
  is = is ∙ ap (λ r. xs ++ r) ex.is ∙ sym (append_assoc xs ex.front (chunks ++ ex.back));
}

-- no chunk is before the beginning, and none after the end
pub no_front : (old front : List Text) (at : ℕ) → AreFirst old front at → AreSome old → at ≡ 0 → front ≡ []
no_front old front at is each none =
    none_some front (all_front HasBytes front is.back (subst AreSome is.split each)) (omega (arith, is.place, none))

pub no_back : (old back : List Text) (at : ℕ) → AreLast old back at → AreSome old → at ≡ joined_size old → back ≡ []
no_back old back at is each all =
    none_some back (all_back HasBytes is.front back (subst AreSome is.split each)) (omega (arith, last_size old back at is, all))

-- so the chunks that come in there are the first, or the last
exchanged_first : (old new chunks : List Text) (to : ℕ) (ex : AreExchanged old new 0 to chunks) → AreSome old → new ≡ chunks ++ ex.back
exchanged_first old new chunks to ex each = ex.is ∙ ap (λ f. f ++ (chunks ++ ex.back)) (no_front old ex.front 0 ex.first each refl)

exchanged_last : (old new chunks : List Text) (from : ℕ) (ex : AreExchanged old new from (joined_size old) chunks) → AreSome old
    → new ≡ ex.front ++ chunks
exchanged_last old new chunks from ex each =
    ex.is ∙ ap (λ b. ex.front ++ (chunks ++ b)) (no_back old ex.back (joined_size old) ex.last each refl) ∙ ap (λ r. ex.front ++ r) (append-nil chunks)

-- all chunks
pub exchanged_all : (old chunks : List Text) → AreExchanged old chunks 0 (joined_size old) chunks
exchanged_all old chunks = record {
  front = [];
  back = [];
  first = record { back = old; split = refl; place = refl };
  last = record { front = old; split = sym (append-nil old); place = refl };
  is = sym (append-nil chunks);
}

-- the last chunks of a tree and the first of the next
pub exchanged_across : (xs ys front back chunks more whole all : List Text) (from to j : ℕ)
    → AreExchanged xs front from (joined_size xs) chunks → AreExchanged ys back 0 j more → joined_size xs + j ≡ to
    → AreSome (xs ++ ys) → whole ≡ front ++ back → all ≡ chunks ++ more → AreExchanged (xs ++ ys) whole from to all
exchanged_across xs ys front back chunks more whole all from to j ex ey to_is each is all_is =
    let first = exchanged_last xs front chunks from ex (all_front HasBytes xs ys each) in
    let last = exchanged_first ys back more j ey (all_back HasBytes xs ys each) in
    let assoc : (ex.front ++ chunks) ++ (more ++ ey.back) ≡ ex.front ++ ((chunks ++ more) ++ ey.back) = simp append_assoc in
    record {
      front = ex.front;
      back = ey.back;
      first = first_left xs ys ex.front from ex.first;
      last = last_right xs ys ey.back to j ey.last to_is;
      is = is ∙ ap (λ f. f ++ back) first ∙ ap (λ b. (ex.front ++ chunks) ++ b) last ∙ assoc
          ∙ ap (λ r. ex.front ++ (r ++ ey.back)) (sym all_is);
    }

-- by the chunks before a part, and those after it
pub exchanged_between : (old front back chunks whole : List Text) (from to : ℕ) → AreExchanged old front from (joined_size old) []
    → AreExchanged old back 0 to [] → AreSome old → whole ≡ (front ++ chunks) ++ back → AreExchanged old whole from to chunks
exchanged_between old front back chunks whole from to ex ey each is = record {
  front = ex.front;
  back = ey.back;
  first = ex.first;
  last = ey.last;
  is = is ∙ ap (λ f. (f ++ chunks) ++ back) (exchanged_last old front [] from ex each ∙ append-nil ex.front)
      ∙ ap (λ b. (ex.front ++ chunks) ++ b) (exchanged_first old back [] to ey each) ∙ append_assoc ex.front chunks ey.back;
}

-- ---- chunks of which none is short where there are several

-- how many bytes they have
full_bytes : (chunks : List Text) → AreLongEnough chunks → min_chunk * length chunks ≤ joined_size chunks
full_bytes [] full = omega arith
full_bytes (x ∷ xs) full =
    omega (arith, full_bytes xs (All-tail IsLongEnough x xs full), All-head IsLongEnough x xs full, size-append x (joined xs))

pub filled_bytes : (chunks : List Text) → IsFilled chunks → min_chunk * length chunks ≤ joined_size chunks + min_chunk
filled_bytes chunks (inl full) = omega (arith, full_bytes chunks full)
filled_bytes chunks (inr one) = omega (arith, one)

-- several, or none
pub full_several : (chunks : List Text) → IsFilled chunks → length chunks ≢ 1 → AreLongEnough chunks
full_several chunks (inl full) several = full
full_several [] (inr one) several = All-nil IsLongEnough
full_several (x ∷ xs) (inr one) several = absurd (several (omega (arith, one)))

-- none
pub full_none : (chunks : List Text) → length chunks ≡ 0 → AreLongEnough chunks
full_none [] none = All-nil IsLongEnough
full_none (x ∷ xs) none = absurd (omega (arith, none))

-- the chunks of two trees
pub full_both : (xs ys : List Text) → AreLongEnough xs → AreLongEnough ys → AreLongEnough (xs ++ ys)
full_both xs ys front back = All-append IsLongEnough xs ys front back

no_bytes : (chunks : List Text) → length chunks ≡ 0 → joined_size chunks ≡ 0
no_bytes [] none = omega arith
no_bytes (x ∷ xs) none = absurd (omega (arith, none))

-- of one chunk, none before what is not all, and none after what is not nothing
alone_front : (old front back : List Text) → length old ≤ 1 → old ≡ front ++ back → joined_size front < joined_size old → front ≡ []
alone_front old [] back one split part = refl
alone_front old (x ∷ xs) back one split part =
    let none = no_bytes back (omega (arith, one, ap length split, length-append (x ∷ xs) back)) in
    absurd (omega (arith, none, part, ap joined_size split, joined_size-append (x ∷ xs) back))

alone_back : (old front back : List Text) → length old ≤ 1 → old ≡ front ++ back → 0 < joined_size front → back ≡ []
alone_back old front [] one split part = refl
alone_back old front (x ∷ xs) one split part =
    let none = no_bytes front (omega (arith, one, ap length split, length-append front (x ∷ xs))) in
    absurd (omega (arith, none, part))

-- chunks exchanged for full ones, or all for one that may be short
pub filled_exchanged : (old new chunks : List Text) (from to : ℕ) → IsFilled old → AreSome old
    → AreExchanged old new from to chunks → from < to
    → AreLongEnough chunks ⊎ ((from ≡ 0) × ((to ≡ joined_size old) × (length chunks ≤ 1))) → IsFilled new
filled_exchanged old new chunks from to filled each ex some (inr all) =
    let front = no_front old ex.front from ex.first each all.0 in
    let back = no_back old ex.back to ex.last each all.1.0 in
    let lengths = length-append ex.front (chunks ++ ex.back) in
    inr (omega (arith, ap length ex.is, lengths, length-append chunks ex.back, ap length front, ap length back, all.1.1))
filled_exchanged old new chunks from to (inl full) each ex some (inl own) =
    let front = all_front IsLongEnough ex.front ex.first.back (subst AreLongEnough ex.first.split full) in
    let back = all_back IsLongEnough ex.last.front ex.back (subst AreLongEnough ex.last.split full) in
    inl (subst AreLongEnough (sym ex.is) (full_both ex.front (chunks ++ ex.back) front (full_both chunks ex.back own back)))
filled_exchanged old new chunks from to (inr one) each ex some (inl own) =
    let size_is = last_size old ex.back to ex.last in
    let front = alone_front old ex.front ex.first.back one ex.first.split (omega (arith, ex.first.place, some, size_is)) in
    let back = alone_back old ex.last.front ex.back one ex.last.split (omega (arith, ex.last.place, some)) in
    let is = ex.is ∙ ap (λ f. f ++ (chunks ++ ex.back)) front ∙ ap (λ b. chunks ++ b) back ∙ append-nil chunks in
    inl (subst AreLongEnough (sym is) own)

-- one chunk has changed
pub filled_changed : (old new : List Text) (from to least : ℕ) (text : Text) (shift : Shift) → IsFilled old
    → IsOneChanged old new from to text shift → (least ≡ min_chunk) ⊎ (length old ≡ 1) → least ≤ shift.own.len → IsFilled new
filled_changed old new from to least text shift filled c (inr alone) full =
    inr (omega (
      arith,
      alone,
      ap length c.was,
      ap length c.is,
      length-append c.front (c.chunk ∷ c.back),
      length-append c.front (c.own ∷ c.back),
    ))
filled_changed old new from to least text shift (inr one) c (inl same) full =
    inr (omega (
      arith,
      one,
      ap length c.was,
      ap length c.is,
      length-append c.front (c.chunk ∷ c.back),
      length-append c.front (c.own ∷ c.back),
    ))
filled_changed old new from to least text shift (inl all) c (inl same) full =
    let whole = subst AreLongEnough c.was all in
    let own : IsLongEnough c.own = omega (arith, full, same, ap (λ s. s.len) c.shift_is.own) in
    let back = All-cons IsLongEnough c.own c.back own (All-tail IsLongEnough c.chunk c.back (all_back IsLongEnough c.front (c.chunk ∷ c.back) whole)) in
    inl (subst AreLongEnough (sym c.is) (full_both c.front (c.own ∷ c.back) (all_front IsLongEnough c.front (c.chunk ∷ c.back) whole) back))

-- or none, after a refusal
pub filled_if : {A : Type 0} (old new : List Text) (from to least : ℕ) (text : Text) (shift : Shift) (result : Result A Unplaced)
    → IsFilled old → OnOk result (IsOneChanged old new from to text shift) → (least ≡ min_chunk) ⊎ (length old ≡ 1)
    → OnOk result (least ≤ shift.own.len) → OnErr result (new ≡ old) → IsFilled new
filled_if old new from to least text shift (Ok done) filled c which full same =
    filled_changed old new from to least text shift filled c which full
filled_if old new from to least text shift (Err e) filled c which full same = subst IsFilled (sym same) filled

-- a chunk that is not all of the text is full
pub full_chunk : (texts : List Text) (chunk : Text) (start end : ℕ) → IsFilled texts → IsChunkOf texts chunk start end
    → size chunk < joined_size texts → min_chunk ≤ size chunk
full_chunk texts chunk start end (inl full) is part =
    All-head IsLongEnough chunk is.back (all_back IsLongEnough is.front (chunk ∷ is.back) (subst AreLongEnough is.parts full))
full_chunk texts chunk start end (inr one) is part =
    let lengths = length-append is.front (chunk ∷ is.back) in
    let front = no_bytes is.front (omega (arith, one, ap length is.parts, lengths)) in
    let back = no_bytes is.back (omega (arith, one, ap length is.parts, lengths)) in
    absurd (omega (arith, front, back, part, ap joined_size is.parts, joined_size-append is.front (chunk ∷ is.back), size-append chunk (joined is.back)))
