-- A part of a text exchanged.
use Rattle.text_rope.proofs.lemmas.Common.{◌≡◌, ℕ, ◌+◌, ◌-◌, ◌<◌, ◌≤◌, List, [], ◌∷◌, ◌++◌, refl, sym, ap, ◌∙◌, arith, append_assoc, Text, size, size-append, joined, joined_size, IsBoundary, boundary_right, boundary_upto, same_cut, same_parts, none_of, append-nil, joined-append, IsReplaced, count, is_joined, seam_loss, Scheme}
use Rattle.text_rope.proofs.lemmas.Trees.{joined_size-append, cut_twice, size-chunk}
use Rattle.text_rope.proofs.lemmas.Places.{text_of_place}
use Rattle.text_rope.specs.Chunks.{IsPartAt}
use Rattle.text_rope.specs.Edits.{IsCutAt, three_loss}
use Rattle.text_rope.specs.ChunkEnds.{IsChunkOf, IsChunkEnd}

-- ---- by the chunks round it

-- where the chunk starts, and where it ends
pub chunk_start : (texts : List Text) (chunk : Text) (start end : ℕ) → IsChunkOf texts chunk start end → IsChunkEnd texts start
chunk_start texts chunk start end is = record { front = is.front; back = chunk ∷ is.back; split = is.parts; place = sym is.start_is }

pub chunk_end : (texts : List Text) (chunk : Text) (start end : ℕ) → IsChunkOf texts chunk start end → IsChunkEnd texts end
chunk_end texts chunk start end is = record {
  front = is.front ++ chunk ∷ [];
  back = is.back;
  split = is.parts ∙ sym (append_assoc is.front (chunk ∷ []) is.back);
  place = omega (arith, joined_size-append is.front (chunk ∷ []), size-append chunk [], is.start_is, is.end_is);
}

-- a boundary of the text is one of the chunk that it is in or at an end of
pub boundary_by_chunk : (texts : List Text) (chunk : Text) (start end at : ℕ) → IsChunkOf texts chunk start end → start ≤ at → at ≤ end
    → IsBoundary (joined texts) at → IsBoundary chunk (at - start)
boundary_by_chunk texts chunk start end at is after within boundary =
    let whole = text_of_place texts is.front chunk is.back is.parts in
    let back = joined is.back in
    let outer = boundary_right (joined is.front) (chunk ++ back) at (at - start) (omega (arith, is.start_is, after)) in
    boundary_upto chunk back (at - start) (omega (arith, within, is.end_is)) (outer.0 (rw whole at boundary))

-- a chunk that starts before a byte and ends after it starts there where one ends there
begins_at : (xs fs : List Text) (chunk : Text) (bs front back : List Text) (at : ℕ) → xs ≡ fs ++ chunk ∷ bs → xs ≡ front ++ back
    → joined_size front ≡ at → joined_size fs ≤ at → at < joined_size fs + size chunk → joined_size fs ≡ at
begins_at xs [] chunk bs [] back at parts split place after inside = place
begins_at xs [] chunk bs (f ∷ front) back at parts split place after inside =
    let both : chunk ∷ bs ≡ f ∷ (front ++ back) = sym parts ∙ split in
    let head : chunk ≡ f = cc in
    absurd (omega (arith, size-chunk f front, ap size head, place, inside))
begins_at xs (y ∷ fs) chunk bs [] back at parts split place after inside = omega (arith, place, after)
begins_at xs (y ∷ fs) chunk bs (f ∷ front) back at parts split place after inside =
    let both : y ∷ (fs ++ chunk ∷ bs) ≡ f ∷ (front ++ back) = sym parts ∙ split in
    let head : y ≡ f = cc in
    let tails : fs ++ chunk ∷ bs ≡ front ++ back = cc in
    let sizes = size-chunk y fs in
    let own = size-chunk f front in
    let same = ap size head in
    let inner = begins_at (fs ++ chunk ∷ bs) fs chunk bs front back (at - size y) refl tails (omega (arith, own, same, place))
    (omega (arith, sizes, after)) (omega (arith, sizes, own, same, place, inside)) in
    omega (arith, inner, sizes, own, same, place)

pub chunk_begins : (texts : List Text) (chunk : Text) (start end at : ℕ) → IsChunkEnd texts at → IsChunkOf texts chunk start end → start ≤ at
    → at < end → start ≡ at
chunk_begins texts chunk start end at ends is after inside = is.start_is
    ∙ begins_at texts is.front chunk is.back ends.front ends.back at is.parts ends.split ends.place (omega (arith, is.start_is, after))
    (omega (arith, is.start_is, is.end_is, inside))

-- and one that the byte before is in ends there
ends_at : (xs fs : List Text) (chunk : Text) (bs front back : List Text) (at : ℕ) → xs ≡ fs ++ chunk ∷ bs → xs ≡ front ++ back
    → joined_size front ≡ at → joined_size fs < at → at ≤ joined_size fs + size chunk → joined_size fs + size chunk ≡ at
ends_at xs [] chunk bs [] back at parts split place after within = absurd (omega (arith, place, after))
ends_at xs [] chunk bs (f ∷ front) back at parts split place after within =
    let both : chunk ∷ bs ≡ f ∷ (front ++ back) = sym parts ∙ split in
    let head : chunk ≡ f = cc in
    omega (arith, size-chunk f front, ap size head, place, within)
ends_at xs (y ∷ fs) chunk bs [] back at parts split place after within = absurd (omega (arith, place, after))
ends_at xs (y ∷ fs) chunk bs (f ∷ front) back at parts split place after within =
    let both : y ∷ (fs ++ chunk ∷ bs) ≡ f ∷ (front ++ back) = sym parts ∙ split in
    let head : y ≡ f = cc in
    let tails : fs ++ chunk ∷ bs ≡ front ++ back = cc in
    let sizes = size-chunk y fs in
    let own = size-chunk f front in
    let same = ap size head in
    let inner = ends_at (fs ++ chunk ∷ bs) fs chunk bs front back (at - size y) refl tails (omega (arith, own, same, place))
    (omega (arith, sizes, own, same, place, after)) (omega (arith, sizes, within)) in
    omega (arith, inner, sizes, own, same, place)

pub chunk_ends : (texts : List Text) (chunk : Text) (start end at : ℕ) → IsChunkEnd texts at → IsChunkOf texts chunk start end → start < at
    → at ≤ end → end ≡ at
chunk_ends texts chunk start end at ends is after within =
    let inner = ends_at texts is.front chunk is.back ends.front ends.back at is.parts ends.split ends.place
    (omega (arith, is.start_is, after)) (omega (arith, is.start_is, is.end_is, within)) in
    omega (arith, inner, is.end_is, is.start_is)

-- a boundary of the text
pub chunk_end_boundary : (texts : List Text) (at : ℕ) → IsChunkEnd texts at → IsBoundary (joined texts) at
chunk_end_boundary texts at is = record {
  front = joined is.front;
  back = joined is.back;
  split = ap joined is.split ∙ joined-append is.front is.back;
  place = is.place;
}

-- no chunk ends after the end
pub chunk_within : (texts : List Text) (chunk : Text) (start end : ℕ) → IsChunkOf texts chunk start end → end ≤ joined_size texts
chunk_within texts chunk start end is = omega (
  arith,
  is.start_is,
  is.end_is,
  ap joined_size is.parts,
  joined_size-append is.front (chunk ∷ is.back),
  size-chunk chunk is.back,
)

-- a chunk is a part of the text, and so is a part of it
pub part_chunk : (texts : List Text) (chunk : Text) (start end : ℕ) → IsChunkOf texts chunk start end → IsPartAt (joined texts) chunk start end
part_chunk texts chunk start end is = record {
  front = joined is.front;
  back = joined is.back;
  parts = text_of_place texts is.front chunk is.back is.parts;
  start = sym is.start_is;
  end = omega (arith, is.start_is, is.end_is);
}

pub part_by_chunk : (texts : List Text) (chunk part : Text) (start end a b from to : ℕ) → IsChunkOf texts chunk start end → IsPartAt chunk part a b
    → start + a ≡ from → start + b ≡ to → IsPartAt (joined texts) part from to
part_by_chunk texts chunk part start end a b from to is p from_is to_is =
    let x = joined is.front in
    let y = joined is.back in
    let same : x ++ ((p.front ++ (part ++ p.back)) ++ y) ≡ (x ++ p.front) ++ (part ++ (p.back ++ y)) = simp append_assoc in
    let whole = size-append x p.front in
    record {
      front = x ++ p.front;
      back = p.back ++ y;
      parts = text_of_place texts is.front chunk is.back is.parts ∙ ap (λ r. x ++ (r ++ y)) p.parts ∙ same;
      start = omega (arith, whole, p.start, is.start_is, from_is);
      end = omega (arith, whole, p.end, is.start_is, to_is);
    }

-- two parts, one after the other
pub part_both : (whole a b : Text) (from at to : ℕ) → IsPartAt whole a from at → IsPartAt whole b at to → IsPartAt whole (a ++ b) from to
part_both whole a b from at to x y =
    let regroup : x.front ++ (a ++ x.back) ≡ (x.front ++ a) ++ x.back = sym (append_assoc x.front a x.back) in
    let cut = same_cut (x.front ++ a) x.back y.front (b ++ y.back) (sym regroup ∙ sym x.parts ∙ y.parts)
    (omega (arith, size-append x.front a, x.end, y.start)) in
    record {
      front = x.front;
      back = y.back;
      parts = x.parts ∙ ap (λ t. x.front ++ (a ++ t)) cut.back ∙ ap (λ t. x.front ++ t) (sym (append_assoc a b y.back));
      start = x.start;
      end = omega (arith, size-append a b, x.start, x.end, y.start, y.end);
    }

-- a part that is exchanged for more, and a wider one for a text: this is more between what stays of the wider one
record IsWidened (whole : Text) (from to : ℕ) (more : Text) (start end : ℕ) (text : Text) : Type 0 where
  pub front : Text
  pub head : Text
  pub middle : Text
  pub tail : Text
  pub back : Text
  pub parts : whole ≡ front ++ (head ++ (middle ++ (tail ++ back)))
  pub start_is : size front ≡ start
  pub from_is : start + size head ≡ from
  pub to_is : from + size middle ≡ to
  pub end_is : to + size tail ≡ end
  pub is : text ≡ head ++ (more ++ tail)

-- the ends of what is exchanged are boundaries
pub replaced_ends : (old new : Text) (from to : ℕ) (text : Text) → IsReplaced old new from to text
    → IsBoundary old from × IsBoundary old to
replaced_ends old new from to text r = (
  record { front = r.front; back = r.middle ++ r.back; split = r.was; place = r.start },
  record {
    front = r.front ++ r.middle;
    back = r.back;
    split = r.was ∙ sym (append_assoc r.front r.middle r.back);
    place = size-append r.front r.middle ∙ r.end;
  },
)

-- nothing exchanged for nothing
pub replaced_none : (old : Text) (from to : ℕ) (text : Text) → from ≡ to → text ≡ [] → IsBoundary old from
    → IsReplaced old old from to text
replaced_none old from to text same none at = record {
  front = at.front;
  middle = [];
  back = at.back;
  was = at.split;
  start = at.place;
  end = omega (arith, at.place, same);
  is = at.split ∙ ap (λ t. at.front ++ (t ++ at.back)) (sym none);
}

-- a part between two others, exchanged with them
widened_of : (whole head tail more text : Text) (start from to end : ℕ) → IsPartAt whole head start from → IsPartAt whole tail to end
    → from ≤ to → text ≡ head ++ (more ++ tail) → IsWidened whole from to more start end text
widened_of whole head tail more text start from to end a b order is =
    let cut = cut_twice whole (a.front ++ head) a.back b.front (tail ++ b.back) (a.parts ∙ sym (append_assoc a.front head a.back)) b.parts
    (omega (arith, size-append a.front head, a.start, a.end, b.start, order)) in
    record {
      front = a.front;
      head = head;
      middle = cut.middle;
      tail = tail;
      back = b.back;
      parts = cut.parts ∙ append_assoc a.front head (cut.middle ++ (tail ++ b.back));
      start_is = a.start;
      from_is = omega (arith, a.start, a.end);
      to_is = omega (arith, cut.size_is, size-append a.front head, a.start, a.end, b.start);
      end_is = omega (arith, b.start, b.end);
      is = is;
    }

-- the wider part exchanged is the part exchanged
narrowed : (whole new more text : Text) (from to start end : ℕ) → IsWidened whole from to more start end text
    → IsReplaced whole new start end text → IsReplaced whole new from to more
narrowed whole new more text from to start end w r =
    let inner = w.head ++ (w.middle ++ w.tail) in
    let regroup : w.front ++ (w.head ++ (w.middle ++ (w.tail ++ w.back))) ≡ w.front ++ (inner ++ w.back) = simp append_assoc in
    let sizes : size inner ≡ size w.head + (size w.middle + size w.tail) =
    omega (arith, size-append w.head (w.middle ++ w.tail), size-append w.middle w.tail) in
    let same = same_parts r.front r.middle r.back w.front inner w.back (sym r.was ∙ w.parts ∙ regroup)
    (omega (arith, r.start, w.start_is)) (omega (arith, r.start, r.end, sizes, w.from_is, w.to_is, w.end_is)) in
    let is : w.front ++ ((w.head ++ (more ++ w.tail)) ++ w.back) ≡ (w.front ++ w.head) ++ (more ++ (w.tail ++ w.back)) =
    simp append_assoc in
    record {
      front = w.front ++ w.head;
      middle = w.middle;
      back = w.tail ++ w.back;
      was = w.parts ∙ sym (append_assoc w.front w.head (w.middle ++ (w.tail ++ w.back)));
      start = omega (arith, size-append w.front w.head, w.start_is, w.from_is);
      end = omega (arith, size-append w.front w.head, w.start_is, w.from_is, w.to_is);
      is = r.is ∙ ap (λ x. x ++ (text ++ r.back)) same.front ∙ ap (λ x. w.front ++ (x ++ r.back)) w.is
          ∙ ap (λ x. w.front ++ ((w.head ++ (more ++ w.tail)) ++ x)) same.back ∙ is;
    }

-- so is a part exchanged by a wider one
pub narrowed_parts : (whole new head tail more text : Text) (start from to end : ℕ) → IsPartAt whole head start from
    → IsPartAt whole tail to end → from ≤ to → text ≡ head ++ (more ++ tail) → IsReplaced whole new start end text
    → IsReplaced whole new from to more
narrowed_parts whole new head tail more text start from to end a b order is replaced =
    narrowed whole new more text from to start end (widened_of whole head tail more text start from to end a b order is) replaced

-- all of it exchanged for nothing
pub replaced_all : (old : Text) (from to : ℕ) (text : Text) → text ≡ [] → from ≤ to → to ≤ size old
    → to - from ≡ size old → IsReplaced old [] from to text
replaced_all old from to text none order within all = record {
  front = [];
  middle = old;
  back = [];
  was = sym (append-nil old);
  start = omega (arith, order, within, all);
  end = omega (arith, order, within, all);
  is = sym (append-nil text ∙ none);
}

-- a text put in at the end, and at the beginning
pub put_behind : (old new : Text) (at : ℕ) (text : Text) → at ≡ size old → IsReplaced old new at at text → new ≡ old ++ text
put_behind old new at text is r =
    let middle : r.middle ≡ [] = none_of r.middle (omega (arith, r.start, r.end)) in
    let back : r.back ≡ [] = none_of r.back (omega (arith, ap size r.was, size-append r.front (r.middle ++ r.back), size-append r.middle r.back, r.start, is)) in
    let front : old ≡ r.front =
    r.was ∙ ap (λ m. r.front ++ (m ++ r.back)) middle ∙ ap (λ b. r.front ++ b) back ∙ append-nil r.front in
    r.is ∙ ap (λ b. r.front ++ (text ++ b)) back ∙ ap (λ t. r.front ++ t) (append-nil text) ∙ ap (λ f. f ++ text) (sym front)

pub put_before : (old new : Text) (text : Text) → IsReplaced old new 0 0 text → new ≡ text ++ old
put_before old new text r =
    let front : r.front ≡ [] = none_of r.front r.start in
    let middle : r.middle ≡ [] = none_of r.middle (omega (arith, r.start, r.end)) in
    let rest : old ≡ r.back = r.was ∙ ap (λ f. f ++ (r.middle ++ r.back)) front ∙ ap (λ m. m ++ r.back) middle in
    r.is ∙ ap (λ f. f ++ (text ++ r.back)) front ∙ ap (λ b. text ++ b) (sym rest)

-- what is before a place, with the rest taken out, and what is from it on, taken from a copy
pub cut_of : (whole copy front back : Text) (at len : ℕ) → copy ≡ whole → len ≡ size whole → IsReplaced whole front at len []
    → IsReplaced copy back 0 at [] → IsCutAt whole front back at
cut_of whole copy front back at len same len_is a b =
    let no_back : a.back ≡ [] = none_of a.back (omega (arith, ap size a.was, size-append a.front (a.middle ++ a.back), size-append a.middle a.back, a.end, len_is)) in
    let no_front : b.front ≡ [] = none_of b.front b.start in
    let front_is : front ≡ a.front = a.is ∙ ap (λ t. a.front ++ t) no_back ∙ append-nil a.front in
    let back_is : back ≡ b.back = b.is ∙ ap (λ t. t ++ b.back) no_front in
    let whole_is : whole ≡ b.middle ++ b.back = sym same ∙ b.was ∙ ap (λ t. t ++ (b.middle ++ b.back)) no_front in
    let cut = same_cut a.front (a.middle ++ a.back) b.middle b.back (sym a.was ∙ whole_is) (omega (arith, a.start, b.start, b.end)) in
    record {
      parts = whole_is ∙ ap (λ t. t ++ b.back) (sym cut.front ∙ sym front_is) ∙ ap (λ t. front ++ t) (sym back_is);
      place = ap size front_is ∙ a.start;
    }

-- ---- what a text counts after a change, by what it counted before

-- a text between two others
count-three : (s : Scheme) (a m b : Text) → count s (a ++ (m ++ b)) + three_loss s a m b ≡ count s a + count s m + count s b
count-three s a m b =
    let outer = is_joined s a (m ++ b) in
    let inner = is_joined s m b in
    omega (arith, outer.counts, outer.loss_within, inner.counts, inner.loss_within)

-- a part exchanged for a text: as many more as this has, as many fewer as that had, each by its seams
pub count-replaced : (s : Scheme) (old new : Text) (from to : ℕ) (text : Text) (r : IsReplaced old new from to text)
    → count s new + three_loss s r.front text r.back + count s r.middle
    ≡ count s old + three_loss s r.front r.middle r.back + count s text
count-replaced s old new from to text r =
    let before = ap (count s) r.was in
    let after = ap (count s) r.is in
    omega (arith, before, after, count-three s r.front r.middle r.back, count-three s r.front text r.back)

-- a text put in: as many more as it has, less what its seams lose, and what the seam that it parts had lost
pub count-inserted : (s : Scheme) (old new : Text) (at : ℕ) (text : Text) (r : IsReplaced old new at at text)
    → count s new + three_loss s r.front text r.back ≡ count s old + seam_loss s r.front r.back + count s text
count-inserted s old new at text r =
    let none : r.middle ≡ [] = none_of r.middle (omega (arith, r.start, r.end)) in
    let before = ap (count s) (r.was ∙ ap (λ m. r.front ++ (m ++ r.back)) none) in
    let after = ap (count s) r.is in
    let whole = is_joined s r.front r.back in
    omega (arith, before, after, whole.counts, whole.loss_within, count-three s r.front text r.back)

-- a part taken out
pub count-removed : (s : Scheme) (old new : Text) (from to : ℕ) (r : IsReplaced old new from to [])
    → count s new + seam_loss s r.front r.back + count s r.middle ≡ count s old + three_loss s r.front r.middle r.back
count-removed s old new from to r =
    let before = ap (count s) r.was in
    let after = ap (count s) r.is in
    let whole = is_joined s r.front r.back in
    omega (arith, before, after, whole.counts, whole.loss_within, count-three s r.front r.middle r.back)
