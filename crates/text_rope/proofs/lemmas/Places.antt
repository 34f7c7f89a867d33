-- A chunk of a tree, by a byte or by a count.
use Rattle.text_rope.proofs.lemmas.Common.{◌≡◌, ◌≢◌, ℕ, ◌+◌, ◌-◌, ◌^◌, ◌<◌, ◌≤◌, List, [], ◌∷◌, ◌++◌, length, take, drop, refl, sym, ap, ◌∙◌, arith, append_assoc, append-nil, take-append-drop, Text, size, size-append, count, from_byte_idx, to_byte_idx, seam_loss, is_joined, seam_loss-same, starts_with_feed, starts_with_feed-append, IsBoundary, boundary_left, boundary_right, joined, joined_size, piece_at, joined-append, joined-take, drop-piece, add-one, IsFront, IsStep, Scheme, Front, Step, tells, from_byte_idx-le-count, count-nil, to_byte_idx-le-size, length-append, subst, inl, inr, chars, IsFilled, IsLongEnough, AreLongEnough, boundary_upto, boundary_end}
use Rattle.text_rope.specs.Places.{IsPlaceAt, IsPlaceOf}
use Rattle.std.specs.Prelude.{Option, Some, None, IfSome}
use Rattle.std.proofs.lemmas.List.Elements.{All-head}
use Rattle.text_rope.proofs.lemmas.Trees.{all_back, joined_size-append, chunk_end_right, ends_at, next_size, size-chunk, starts_at}
use Rattle.text_rope.specs.ChunkSizes.{IsFull}
use Rattle.text_rope.specs.declared.chunks.ChunkAt.{ChunkAt}
use Rattle.text_rope.specs.Chunks.{IsChunkAt, IsChunkAtByte, HasChunkAt, IsRound, IsPartAt, IsWithin}
use Rattle.text_rope.specs.ChunkEnds.{IsChunkEnd}
use Rattle.text_rope.specs.Rests.{IsLeafAt, IsLeafPlace, IsRestFrom, IsRestAt}

-- ---- what the text answers by it

-- the chunks of two trees after a text
pub behind-append : (a : Text) (xs ys : List Text) → a ++ joined (xs ++ ys) ≡ (a ++ joined xs) ++ joined ys
behind-append a xs ys = ap (λ r. a ++ r) (joined-append xs ys) ∙ sym (append_assoc a (joined xs) (joined ys))

-- the bytes of a text, and of the chunks after it
pub size-parts : (a : Text) (front : List Text) (chunk : Text) (back : List Text)
    → size a + joined_size (front ++ chunk ∷ back) ≡ size (a ++ joined front) + size chunk + joined_size back
size-parts a front chunk back = omega (
  arith,
  ap size (joined-append front (chunk ∷ back)),
  size-append (joined front) (chunk ++ joined back),
  size-append chunk (joined back),
  size-append a (joined front),
)

-- and those up to a chunk
pub behind-take : (a : Text) (xs : List Text) (i : ℕ) (chunk : Text) → i < length xs → chunk ≡ piece_at xs i
    → a ++ joined (take (i + 1) xs) ≡ (a ++ joined (take i xs)) ++ chunk
behind-take a xs i chunk inside is = ap (λ r. a ++ r) (joined-take xs i inside ∙ ap (λ r. joined (take i xs) ++ r) (sym is))
    ∙ sym (append_assoc a (joined (take i xs)) chunk)

-- a chunk and those after it
pub chunks_at : (xs : List Text) (i : ℕ) (chunk : Text) → i < length xs → chunk ≡ piece_at xs i → drop i xs ≡ chunk ∷ drop (i + 1) xs
chunks_at xs i chunk inside is = rw add-one (drop-piece xs i inside) ∙ ap (λ r. r ∷ drop (i + 1) xs) (sym is)

-- a list in three, by one of its chunks
pub parts_at : (xs : List Text) (i : ℕ) (chunk : Text) → i < length xs → chunk ≡ piece_at xs i
    → xs ≡ take i xs ++ chunk ∷ drop (i + 1) xs
parts_at xs i chunk inside is = sym (take-append-drop i xs) ∙ ap (λ r. take i xs ++ r) (chunks_at xs i chunk inside is)

-- so the chunk is not too long after what is before it
pub short_at : (a : Text) (xs : List Text) (i : ℕ) (chunk : Text) → i < length xs → chunk ≡ piece_at xs i
    → size a + joined_size xs < 2 ^ 63 → size (a ++ joined (take i xs)) + size chunk < 2 ^ 63
short_at a xs i chunk inside is short = omega (
  arith,
  ap joined_size (parts_at xs i chunk inside is),
  size-parts a (take i xs) chunk (drop (i + 1) xs),
  short,
)

-- a chunk of the first of two trees
pub place_left : {s : Scheme} {a : Text} {xs : List Text} {chunk : Text} {before : Front} {at : ℕ} (ys : List Text)
    → IsPlaceAt s a xs chunk before at → IsPlaceAt s a (xs ++ ys) chunk before at
place_left {chunk = chunk} ys own = record {
  front = own.front;
  back = own.back ++ ys;
  parts = ap (λ p. p ++ ys) own.parts ∙ append_assoc own.front (chunk ∷ own.back) ys;
  before_is = own.before_is;
  after = own.after;
  inside = own.inside;
}

-- and of the second
pub place_right : {s : Scheme} {a : Text} {ys : List Text} {chunk : Text} {before : Front} {at : ℕ} (xs : List Text)
    → IsPlaceAt s (a ++ joined xs) ys chunk before at → IsPlaceAt s a (xs ++ ys) chunk before at
place_right {a = a} {chunk = chunk} xs own = record {
  front = xs ++ own.front;
  back = own.back;
  parts = ap (λ p. xs ++ p) own.parts ∙ sym (append_assoc xs own.front (chunk ∷ own.back));
  before_is = rw (behind-append a xs own.front) own.before_is;
  after = own.after;
  inside = own.inside;
}

-- the chunk of a count that the first of two trees reaches, whatever the second has
pub place_of_left : {s : Scheme} {a : Text} {xs : List Text} {chunk : Text} {before : Front} {k : ℕ} (ys : List Text)
    → k ≤ count s (a ++ joined xs) - seam_loss s (a ++ joined xs) (joined ys) → IsPlaceOf s a xs chunk before k
    → IsPlaceOf s a (xs ++ ys) chunk before k
place_of_left {s = s} {a = a} {xs = xs} {chunk = chunk} {k = k} ys reached own =
    let seam = is_joined s (a ++ joined xs) (joined ys) in
    record {
      front = own.front;
      back = own.back ++ ys;
      parts = ap (λ p. p ++ ys) own.parts ∙ append_assoc own.front (chunk ∷ own.back) ys;
      before_is = own.before_is;
      past = own.past;
      answer = ap (λ t. to_byte_idx s t k) (behind-append a xs ys) ∙ seam.to_before k (omega (arith, reached, seam.loss_within))
          ∙ own.answer;
    }

-- and of one that the first does not reach
pub place_of_right : {s : Scheme} {a : Text} {ys : List Text} {chunk : Text} {before : Front} {k : ℕ} (xs : List Text)
    → IsPlaceOf s (a ++ joined xs) ys chunk before k → IsPlaceOf s a (xs ++ ys) chunk before k
place_of_right {s = s} {a = a} {ys = ys} {chunk = chunk} {k = k} xs own =
    let whole = behind-append a xs ys in
    let front = behind-append a xs own.front in
    record {
      front = xs ++ own.front;
      back = own.back;
      parts = ap (λ p. xs ++ p) own.parts ∙ sym (append_assoc xs own.front (chunk ∷ own.back));
      before_is = rw front own.before_is;
      past = rw front own.past;
      answer = rw (whole, front) own.answer;
    }

-- the last chunk of some, where the count is not reached before it
pub place_of_last : (s : Scheme) (a : Text) (xs : List Text) (chunk : Text) (before : Front) (k : ℕ)
    → IsFront s (a ++ joined xs) before → count s (a ++ joined xs) - seam_loss s (a ++ joined xs) chunk < k
    → IsPlaceOf s a (xs ++ chunk ∷ []) chunk before k
place_of_last s a xs chunk before k is past =
    let x = a ++ joined xs in
    let seam = is_joined s x chunk in
    let reached = count s x - seam_loss s x chunk in
    let whole : a ++ joined (xs ++ chunk ∷ []) ≡ x ++ chunk =
    behind-append a xs (chunk ∷ []) ∙ ap (λ r. x ++ r) (append-nil chunk) in
    record {
      front = xs;
      back = [];
      parts = refl;
      before_is = is;
      past = rw is.total past;
      answer = rw (whole, is.total, is.len) (seam.to_behind k (k - reached) (omega (arith, past, seam.loss_within))
          (omega (arith, past, seam.loss_within)));
    }

-- the seam of a text and chunks is that of the first chunk
pub seam_of_chunks : (s : Scheme) (x chunk : Text) (xs : List Text) → chunk ≢ []
    → seam_loss s x (joined (chunk ∷ xs)) ≡ seam_loss s x chunk
seam_of_chunks s x chunk xs some = seam_loss-same s x (chunk ++ joined xs) x chunk refl (starts_with_feed-append chunk (joined xs) some)

-- so is that of a text and two trees
pub seam_of_subtrees : (s : Scheme) (a : Text) (xs ys : List Text) → joined xs ≢ []
    → seam_loss s a (joined (xs ++ ys)) ≡ seam_loss s a (joined xs)
seam_of_subtrees s a xs ys some = seam_loss-same s a (joined (xs ++ ys)) a (joined xs) refl
    (ap starts_with_feed (joined-append xs ys) ∙ starts_with_feed-append (joined xs) (joined ys) some)

-- a text in three, by one of its chunks
pub text_of_place : (texts front : List Text) (chunk : Text) (back : List Text) → texts ≡ front ++ chunk ∷ back
    → joined texts ≡ joined front ++ (chunk ++ joined back)
text_of_place texts front chunk back parts = ap joined parts ∙ joined-append front (chunk ∷ back)

-- what the text answers at a byte, by the chunk that it is in
pub answer_at : {s : Scheme} {texts : List Text} {chunk : Text} {before : Front} {at : ℕ} (step : Step)
    (place : IsPlaceAt s [] texts chunk before at) → chunk ≢ [] → IsStep s (joined place.front) chunk step
    → from_byte_idx s (joined texts) at ≡ step.reached + from_byte_idx s chunk (at - before.len)
answer_at {s = s} {texts = texts} {chunk = chunk} {before = before} {at = at} step place some told =
    let front = joined place.front in
    let own = (tells s front chunk (joined place.back) step some told).from_here at
    (omega (arith, place.after, place.before_is.len))
    (omega (arith, place.inside, place.before_is.len, told.after.len, size-append front chunk)) in
    rw (text_of_place texts place.front chunk place.back place.parts, place.before_is.len) own

-- and whether that byte is a boundary
pub boundary_at : {s : Scheme} {texts : List Text} {chunk : Text} {before : Front} {at : ℕ}
    (place : IsPlaceAt s [] texts chunk before at)
    → (IsBoundary chunk (at - before.len) → IsBoundary (joined texts) at)
    × (IsBoundary (joined texts) at → IsBoundary chunk (at - before.len))
boundary_at {texts = texts} {chunk = chunk} {before = before} {at = at} place =
    let whole = text_of_place texts place.front chunk place.back place.parts in
    let back = joined place.back in
    let outer = boundary_right (joined place.front) (chunk ++ back) at (at - before.len)
    (omega (arith, place.after, place.before_is.len)) in
    let inner = boundary_left chunk back (at - before.len) (omega (arith, place.after, place.inside)) in (
      λ own. rw whole (outer.1 (inner.1 own)),
      λ own. inner.0 (outer.0 (rw whole at own)),
    )

-- nothing is before any place of the empty text
pub from_nil : (s : Scheme) (b : ℕ) → from_byte_idx s [] b ≡ 0
from_nil s b = omega (arith, from_byte_idx-le-count s [] b, count-nil s)

pub to_nil : (s : Scheme) (k : ℕ) → to_byte_idx s [] k ≡ 0
to_nil s k = omega (arith, to_byte_idx-le-size s [] k)

-- a chunk is not too long after what is before it
pub short_of : (texts front : List Text) (chunk : Text) (back : List Text) → texts ≡ front ++ chunk ∷ back
    → joined_size texts < 2 ^ 63 → size (joined front) + size chunk < 2 ^ 63
short_of texts front chunk back parts short = omega (arith, ap joined_size parts, size-parts [] front chunk back, short)

-- past the last, the answer is the length
pub to_past : (s : Scheme) (cs : Text) (k : ℕ) → count s cs < k → to_byte_idx s cs k ≡ size cs
to_past s cs k past =
    let i = k + seam_loss s cs [] - count s cs in
    let beyond = (is_joined s cs []).to_behind k i (omega (arith, past)) (omega (arith, past)) in
    omega (arith, ap (λ t. to_byte_idx s t k) (append-nil cs), beyond, to_nil s i)

-- ---- a chunk as a part of the text

none_left : (xs : List Text) → length xs ≡ 0 → xs ≡ []
none_left [] none = refl
none_left (x ∷ xs) none = absurd (omega (arith, none))

-- the chunk of a byte, with what is known of the text before it
pub located_of : {s : Scheme} {texts : List Text} {chunk lent : Text} {before : Front} {start at : ℕ}
    (place : IsPlaceAt s [] texts chunk before at) → lent ≡ chunk → start ≡ before.len
    → IsChunkAtByte s texts lent start before at
located_of place lent_is start_is = record {
  front = place.front;
  back = place.back;
  parts = rw lent_is place.parts;
  place = omega (arith, place.before_is.len, start_is);
  after = omega (arith, place.after, start_is);
  inside = omega (arith, place.inside, start_is, ap size lent_is);
  before_is = place.before_is;
}

-- without that
pub chunk_of : {s : Scheme} {texts : List Text} {chunk : Text} {start : ℕ} {before : Front} {at : ℕ}
    → IsChunkAtByte s texts chunk start before at → HasChunkAt texts chunk start at
chunk_of is = record {
  front = is.front;
  back = is.back;
  parts = is.parts;
  place = is.place;
  after = is.after;
  inside = is.inside;
}

-- as a part of the joined text
pub in_text : {texts : List Text} {chunk : Text} {start at : ℕ} → HasChunkAt texts chunk start at
    → IsChunkAt (joined texts) chunk start at
in_text {texts = texts} {chunk = chunk} is = record {
  front = joined is.front;
  back = joined is.back;
  parts = text_of_place texts is.front chunk is.back is.parts;
  place = omega (arith, is.place);
  after = is.after;
  inside = is.inside;
}

pub lent_in_text : (texts : List Text) (at : ℕ) (whole : Text) (r : Option ChunkAt) → joined texts ≡ whole
    → IfSome r (λ c. HasChunkAt texts (chars c.text.now) c.start at) → IfSome r (λ c. IsChunkAt whole (chars c.text.now) c.start at)
lent_in_text texts at whole None same is = tt
lent_in_text texts at whole (Some c) same is = rw same at (in_text is)

-- a chunk of filled ones is long enough, or all there is
pub filled_full : {texts : List Text} {chunk : Text} {start at : ℕ} → IsFilled texts → HasChunkAt texts chunk start at
    → IsFull (joined texts) chunk
filled_full {chunk = chunk} (inl full) is =
    let own = all_back IsLongEnough is.front (chunk ∷ is.back) (subst AreLongEnough is.parts full) in
    inl (All-head IsLongEnough chunk is.back own)
filled_full {texts = texts} {chunk = chunk} (inr one) is =
    let lengths = ap length is.parts ∙ length-append is.front (chunk ∷ is.back) in
    let front : is.front ≡ [] = none_left is.front (omega (arith, lengths, one)) in
    let back : is.back ≡ [] = none_left is.back (omega (arith, lengths, one)) in
    inr (sym (ap joined (is.parts ∙ ap (λ f. f ++ chunk ∷ is.back) front ∙ ap (λ b. chunk ∷ b) back) ∙ append-nil chunk))

pub lent_full : (texts : List Text) (at : ℕ) (whole : Text) (r : Option ChunkAt) → joined texts ≡ whole → IsFilled texts
    → IfSome r (λ c. HasChunkAt texts (chars c.text.now) c.start at) → IfSome r (λ c. IsFull whole (chars c.text.now))
lent_full texts at whole None same filled is = tt
lent_full texts at whole (Some c) same filled is = rw same at (filled_full filled is)

-- the chunk of a count, round the byte after it
pub round_of : {s : Scheme} {texts : List Text} {chunk lent : Text} {before : Front} {k : ℕ} (reached : ℕ)
    (place : IsPlaceOf s [] texts chunk before k) → lent ≡ chunk → reached ≡ before.total - seam_loss s (joined place.front) chunk
    → IsRound (joined texts) lent before.len (before.len + to_byte_idx s chunk (k - reached))
round_of {s = s} {texts = texts} {chunk = chunk} {k = k} reached place lent_is reached_is = record {
  front = joined place.front;
  back = joined place.back;
  parts = rw lent_is (text_of_place texts place.front chunk place.back place.parts);
  place = omega (arith, place.before_is.len);
  after = omega arith;
  within = omega (arith, to_byte_idx-le-size s chunk (k - reached), ap size lent_is);
}

-- an empty text at the beginning, and at the end
pub round_start : (whole chunk : Text) (start byte : ℕ) → chunk ≡ [] → start ≡ 0 → byte ≡ 0 → IsRound whole chunk start byte
round_start whole chunk start byte chunk_is start_is byte_is = record {
  front = [];
  back = whole;
  parts = rw chunk_is refl;
  place = omega (arith, start_is);
  after = omega (arith, start_is, byte_is);
  within = omega (arith, start_is, byte_is);
}

pub round_end : (whole chunk : Text) (start byte : ℕ) → chunk ≡ [] → start ≡ size whole → byte ≡ size whole
    → IsRound whole chunk start byte
round_end whole chunk start byte chunk_is start_is byte_is = record {
  front = whole;
  back = [];
  parts = rw chunk_is (sym (append-nil whole));
  place = omega (arith, start_is);
  after = omega (arith, start_is, byte_is);
  within = omega (arith, start_is, byte_is);
}

-- a boundary of the text is one of the chunk that it is in or at the end of
pub boundary_in_chunk : {whole lent : Text} {start at : ℕ} (p j : ℕ) → IsChunkAt whole lent start at → IsBoundary whole p
    → start + j ≡ p → j ≤ size lent → IsBoundary lent j
boundary_in_chunk {lent = lent} p j is boundary place within =
    let rest = (boundary_right is.front (lent ++ is.back) p j (omega (arith, is.place, place))).0 (rw is.parts at boundary) in
    boundary_upto lent is.back j within rest

-- a part of a chunk is one of the text
pub part_of_chunk : {whole lent part : Text} {start at i j : ℕ} (from to : ℕ) → IsChunkAt whole lent start at
    → IsPartAt lent part i j → start + i ≡ from → start + j ≡ to → IsPartAt whole part from to
part_of_chunk {part = part} from to is own from_is to_is =
    let same : is.front ++ ((own.front ++ (part ++ own.back)) ++ is.back) ≡ (is.front ++ own.front) ++ (part ++ (own.back ++ is.back)) =
    simp append_assoc in
    record {
      front = is.front ++ own.front;
      back = own.back ++ is.back;
      parts = is.parts ∙ ap (λ c. is.front ++ (c ++ is.back)) own.parts ∙ same;
      start = omega (arith, size-append is.front own.front, is.place, own.start, from_is);
      end = omega (arith, size-append is.front own.front, is.place, own.start, own.end, to_is);
    }

-- where a part ends is a boundary
pub boundary_of_part : {whole part : Text} {from to : ℕ} → IsPartAt whole part from to → IsBoundary whole to
boundary_of_part {part = part} is = record {
  front = is.front ++ part;
  back = is.back;
  split = is.parts ∙ sym (append_assoc is.front part is.back);
  place = omega (arith, size-append is.front part, is.start, is.end);
}

-- ---- the chunks of a leaf from one on, as a part of the text

-- of the second of two trees
pub leaf_right : {before n : ℕ} {ys chunks : List Text} {index start at : ℕ} (xs : List Text) → n ≡ joined_size xs
    → IsLeafAt (before + n) ys chunks index start at → IsLeafAt before (xs ++ ys) chunks index start at
leaf_right {chunks = chunks} xs len own = record {
  leaf = record {
    front = xs ++ own.leaf.front;
    back = own.leaf.back;
    parts = ap (λ p. xs ++ p) own.leaf.parts ∙ sym (append_assoc xs own.leaf.front (chunks ++ own.leaf.back));
    index_is = own.leaf.index_is;
    place = omega (arith, joined_size-append xs own.leaf.front, own.leaf.place, len);
  };
  after = own.after;
  inside = own.inside;
}

-- the chunks of the leaf from that one on
pub rest_of_leaf : {texts chunks rest : List Text} {index start at : ℕ} → IsLeafAt 0 texts chunks index start at
    → rest ≡ drop index chunks → IsRestAt 0 texts rest start at
rest_of_leaf {chunks = chunks} {index = i} is rest_is =
    let leaf = is.leaf in
    let chunk = piece_at chunks i in
    let others = drop (i + 1) chunks in
    let split = parts_at chunks i chunk leaf.index_is refl in
    record {
      front = leaf.front ++ take i chunks;
      chunk = chunk;
      others = others;
      back = leaf.back;
      chunks_are = rest_is ∙ chunks_at chunks i chunk leaf.index_is refl;
      parts = leaf.parts ∙ ap (λ own. leaf.front ++ (own ++ leaf.back)) split
          ∙ ap (λ own. leaf.front ++ own) (append_assoc (take i chunks) (chunk ∷ others) leaf.back)
          ∙ sym (append_assoc leaf.front (take i chunks) (chunk ∷ (others ++ leaf.back)));
      place = omega (arith, joined_size-append leaf.front (take i chunks), leaf.place);
      after = is.after;
      inside = is.inside;
    }

-- where one of the leaf's chunks starts or ends, one of the tree does
cut_of_leaf : {texts chunks : List Text} {index start p : ℕ} (j : ℕ) (leaf : IsLeafPlace 0 texts chunks index start)
    → joined_size leaf.front + joined_size (take j chunks) ≡ p → IsChunkEnd texts p
cut_of_leaf {chunks = chunks} j leaf at = record {
  front = leaf.front ++ take j chunks;
  back = drop j chunks ++ leaf.back;
  split = leaf.parts ∙ ap (λ own. leaf.front ++ (own ++ leaf.back)) (sym (take-append-drop j chunks))
      ∙ ap (λ own. leaf.front ++ own) (append_assoc (take j chunks) (drop j chunks) leaf.back)
      ∙ sym (append_assoc leaf.front (take j chunks) (drop j chunks ++ leaf.back));
  place = omega (arith, joined_size-append leaf.front (take j chunks), at);
}

pub end_of_leaf : {texts chunks : List Text} {index start p : ℕ} → IsLeafPlace 0 texts chunks index start
    → start + size (piece_at chunks index) ≡ p → IsChunkEnd texts p
end_of_leaf {chunks = chunks} {index = i} leaf end =
    cut_of_leaf (i + 1) leaf (omega (arith, next_size chunks i leaf.index_is, leaf.place, end))

pub start_of_leaf : {texts chunks : List Text} {index start : ℕ} → IsLeafPlace 0 texts chunks index start → IsChunkEnd texts start
start_of_leaf {index = i} leaf = cut_of_leaf i leaf (omega (arith, leaf.place))

-- its text, as the first of the rest
pub rest_chunk : {texts chunks : List Text} {index start at : ℕ} (is : IsLeafAt 0 texts chunks index start at)
    (rest : IsRestAt 0 texts (drop index chunks) start at) → rest.chunk ≡ piece_at chunks index
rest_chunk {chunks = chunks} {index = i} is rest =
    cc (rest.chunks_are, chunks_at chunks i (piece_at chunks i) is.leaf.index_is refl)

-- the chunk that a byte is in where one ends starts there, and that of the byte before ends there
pub starts_there : {texts chunks : List Text} {index start p : ℕ} → IsChunkEnd texts p → IsLeafAt 0 texts chunks index start p
    → start ≡ p
starts_there {texts = texts} {chunks = chunks} {index = i} {start = start} {p = p} end is =
    let rest : IsRestAt 0 texts (drop i chunks) start p = rest_of_leaf is refl in
    let own = rest.chunk ∷ (rest.others ++ rest.back) in
    let there : IsChunkEnd own (p - start) = chunk_end_right rest.front own p (p - start)
    (subst (λ t. IsChunkEnd t p) rest.parts end) (omega (arith, rest.place, rest.after)) in
    omega (arith, rest.after, starts_at own 0 (p - start) there (omega arith) (omega arith) (omega (arith, rest.inside, rest.after)))

pub ends_there : {texts chunks : List Text} {index start p : ℕ} → IsChunkEnd texts p → 0 < p
    → IsLeafAt 0 texts chunks index start (p - 1) → start + size (piece_at chunks index) ≡ p
ends_there {texts = texts} {chunks = chunks} {index = i} {start = start} {p = p} end above is =
    let rest : IsRestAt 0 texts (drop i chunks) start (p - 1) = rest_of_leaf is refl in
    let own = rest.chunk ∷ (rest.others ++ rest.back) in
    let there : IsChunkEnd own (p - start) = chunk_end_right rest.front own p (p - start)
    (subst (λ t. IsChunkEnd t p) rest.parts end) (omega (arith, rest.place, rest.after, above)) in
    let same = rest_chunk is rest in
    let whole = ends_at own 0 (p - start) there (omega arith) (omega (arith, rest.after, above)) (omega (arith, rest.inside, rest.after, above)) in
    omega (arith, rest.after, above, whole, size-chunk rest.chunk [], ap size same)

-- a step on within the leaf, and one back
pub leaf_next : {texts chunks : List Text} {index start p : ℕ} → IsLeafPlace 0 texts chunks index start
    → index + 1 < length chunks → p ≡ start + size (piece_at chunks index) → IsLeafPlace 0 texts chunks (index + 1) p
leaf_next {chunks = chunks} {index = i} leaf more end = record {
  front = leaf.front;
  back = leaf.back;
  parts = leaf.parts;
  index_is = more;
  place = omega (arith, next_size chunks i leaf.index_is, leaf.place, end);
}

before_in_leaf : {texts chunks : List Text} {index start : ℕ} (i : ℕ) (leaf : IsLeafPlace 0 texts chunks index start) → i + 1 ≡ index
    → joined_size leaf.front + joined_size (take i chunks) + size (piece_at chunks i) ≡ start
before_in_leaf {chunks = chunks} i leaf one = omega (
  arith,
  next_size chunks i (omega (arith, leaf.index_is, one)),
  ap (λ j. joined_size (take j chunks)) one,
  leaf.place,
)

pub len_before : {texts chunks : List Text} {index start : ℕ} (i : ℕ) → IsLeafPlace 0 texts chunks index start → i + 1 ≡ index
    → size (piece_at chunks i) ≤ start
len_before i leaf one = omega (arith, before_in_leaf i leaf one)

pub leaf_prev : {texts chunks : List Text} {index start p : ℕ} (i : ℕ) → IsLeafPlace 0 texts chunks index start
    → i + 1 ≡ index → p + size (piece_at chunks i) ≡ start → IsLeafPlace 0 texts chunks i p
leaf_prev i leaf one start_is = record {
  front = leaf.front;
  back = leaf.back;
  parts = leaf.parts;
  index_is = omega (arith, leaf.index_is, one);
  place = omega (arith, before_in_leaf i leaf one, start_is);
}

-- the first of them, round the byte
pub chunk_of_rest : {texts chunks others : List Text} {chunk lent : Text} {start at : ℕ} → IsRestAt 0 texts chunks start at
    → chunks ≡ chunk ∷ others → lent ≡ chunk → HasChunkAt texts lent start at
chunk_of_rest {others = others} {chunk = chunk} {lent = lent} is chunks_are lent_is =
    let same : is.chunk ≡ lent = cc (is.chunks_are, chunks_are, lent_is) in
    record {
      front = is.front;
      back = is.others ++ is.back;
      parts = is.parts ∙ ap (λ c. is.front ++ c ∷ (is.others ++ is.back)) same;
      place = omega (arith, is.place);
      after = is.after;
      inside = omega (arith, is.inside, ap size same);
    }

-- the chunk of a leaf, as one of the text's
pub leaf_has : {texts chunks : List Text} {index start at : ℕ} → IsLeafAt 0 texts chunks index start at
    → HasChunkAt texts (piece_at chunks index) start at
leaf_has {texts = texts} {chunks = chunks} {index = i} {start = start} {at = at} is =
    let rest : IsRestAt 0 texts (drop i chunks) start at = rest_of_leaf is refl in
    record {
      front = rest.front;
      back = rest.others ++ rest.back;
      parts = rest.parts ∙ ap (λ c. rest.front ++ c ∷ (rest.others ++ rest.back)) (rest_chunk is rest);
      place = omega (arith, rest.place);
      after = is.after;
      inside = is.inside;
    }

-- and those after it
pub rest_after : {texts chunks others : List Text} {chunk : Text} {start at p : ℕ} → IsRestAt 0 texts chunks start at
    → chunks ≡ chunk ∷ others → p ≡ start + size chunk → IsRestFrom 0 texts others p
rest_after {others = others} {chunk = chunk} is chunks_are end =
    let same : is.chunk ≡ chunk = cc (is.chunks_are, chunks_are) in
    let rest : is.others ≡ others = cc (is.chunks_are, chunks_are) in
    record {
      front = is.front ++ is.chunk ∷ [];
      back = is.back;
      parts = is.parts ∙ ap (λ o. is.front ++ is.chunk ∷ (o ++ is.back)) rest
          ∙ sym (append_assoc is.front (is.chunk ∷ []) (others ++ is.back));
      place = omega (arith, joined_size-append is.front (is.chunk ∷ []), size-append is.chunk [], is.place, ap size same, end);
    }

-- the text from the first of them on
pub within_from_rest : {texts chunks : List Text} {start at len : ℕ} → IsRestAt 0 texts chunks start at → at < joined_size texts
    → len ≡ joined_size texts → IsWithin (joined texts) start len
within_from_rest {texts = texts} {len = len} is inside len_is = record {
  order = omega (arith, is.after, inside, len_is);
  start = record {
    front = joined is.front;
    back = joined (is.chunk ∷ (is.others ++ is.back));
    split = ap joined is.parts ∙ joined-append is.front (is.chunk ∷ (is.others ++ is.back));
    place = omega (arith, is.place);
  };
  stop = boundary_end (joined texts) len len_is;
}
