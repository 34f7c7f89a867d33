-- One chunk that has changed.
use Rattle.text_rope.proofs.lemmas.Common.{◌≡◌, ◌≢◌, ℕ, suc, take-append-drop, ◌+◌, ◌-◌, ◌^◌, ◌<◌, ◌≤◌, List, [], ◌∷◌, ◌++◌, length, take, drop, sym, ap, ◌∙◌, arith, append_assoc, length-append, Text, size, size-append, IsBoundary, boundary_upto, boundary_right, joined, joined_size, joined-append, piece_at, IsReplaced, size-replaced, summary_of, Summary, IsShift, Seen, refl, append-nil, count, count-le-size, is_joined, seam_loss-same, starts_with_feed, starts_with_feed-append, ends_in_return, ends_in_return-append, count_of, count_of-summary, same_fields, Scheme, Chars, Utf16, Lf, Crlf, Lines, FitsShift}
use Rattle.std.proofs.lemmas.List.{take-set, drop-set}
use Rattle.std.specs.Prelude.{slice_set, Result, Ok, Err, OnOk, OnErr}
use Rattle.text_summary.proofs.lemmas.Callers.{drop-piece}
use Rattle.text_rope.specs.Leaves.{AreSome}
use Rattle.text_rope.specs.Shifts.{IsChangedIn, IsOneChanged}
use Rattle.text_rope.specs.Views.{IsSubtree}
use Rattle.text_rope.specs.declared.chunk.Unplaced.{Unplaced}
use Rattle.text_rope.specs.declared.shifts.Shift.{Shift}
use Rattle.text_rope.proofs.lemmas.Trees.{joined_size-append}

-- ---- some chunks round it

-- a chunk in the place of another
set-round : (chunks : List Text) (i : ℕ) (own : Text) → i < length chunks
    → slice_set chunks i own ≡ take i chunks ++ own ∷ drop (suc i) chunks
set-round chunks i own inside =
    let next : i + 1 ≡ suc i = omega arith in
    sym (take-append-drop i (slice_set chunks i own)) ∙ ap (λ t. t ++ drop i (slice_set chunks i own)) (take-set chunks i own)
    ∙ ap (λ d. take i chunks ++ d) (drop-set chunks i own inside) ∙ ap (λ n. take i chunks ++ own ∷ drop n chunks) next

-- one chunk, by its place
pub changed_at : (chunks : List Text) (i start from to : ℕ) (own text : Text) (shift : Shift) → i < length chunks
    → start ≡ joined_size (take i chunks) → start ≤ from
    → IsReplaced (piece_at chunks i) own (from - start) (to - start) text → IsShift (piece_at chunks i) own shift
    → IsOneChanged chunks (slice_set chunks i own) from to text shift
changed_at chunks i start from to own text shift inside start_is after replaced is = record {
  front = take i chunks;
  chunk = piece_at chunks i;
  own = own;
  back = drop (suc i) chunks;
  was = sym (take-append-drop i chunks) ∙ ap (λ r. take i chunks ++ r) (drop-piece chunks i inside);
  is = set-round chunks i own inside;
  after = omega (arith, start_is, after);
  replaced = rw start_is at replaced;
  shift_is = is;
}

-- the same of an answer that may be a refusal
pub changed_if : {A : Type 0} (chunks : List Text) (i start from to : ℕ) (own text : Text) (shift : Shift)
    (result : Result A Unplaced) → i < length chunks → start ≡ joined_size (take i chunks) → start ≤ from
    → OnOk result (IsReplaced (piece_at chunks i) own (from - start) (to - start) text)
    → OnOk result (IsShift (piece_at chunks i) own shift)
    → OnOk result (IsOneChanged chunks (slice_set chunks i own) from to text shift)
changed_if chunks i start from to own text shift (Ok done) inside start_is after replaced is =
    changed_at chunks i start from to own text shift inside start_is after replaced is
changed_if chunks i start from to own text shift (Err e) inside start_is after replaced is = replaced

-- and a chunk is not empty after it
pub some_after : {A : Type 0} (old new : Text) (shift : Shift) (result : Result A Unplaced) → OnOk result (IsShift old new shift)
    → OnErr result (new ≡ old) → old ≢ [] → new ≢ []
some_after old new shift (Ok done) is same some = is.some_new
some_after old new shift (Err e) is same some = λ none. some (sym same ∙ none)

-- with chunks after it
pub changed_left : (left new right : List Text) (from to : ℕ) (text : Text) (shift : Shift)
    → IsOneChanged left new from to text shift → IsOneChanged (left ++ right) (new ++ right) from to text shift
changed_left left new right from to text shift c = record {
  front = c.front;
  chunk = c.chunk;
  own = c.own;
  back = c.back ++ right;
  was = ap (λ l. l ++ right) c.was ∙ append_assoc c.front (c.chunk ∷ c.back) right;
  is = ap (λ l. l ++ right) c.is ∙ append_assoc c.front (c.own ∷ c.back) right;
  after = c.after;
  replaced = c.replaced;
  shift_is = c.shift_is;
}

-- with chunks before it
pub changed_right : (left right new : List Text) (n from to : ℕ) (text : Text) (shift : Shift) → n ≡ joined_size left → n ≤ from
    → IsOneChanged right new (from - n) (to - n) text shift → IsOneChanged (left ++ right) (left ++ new) from to text shift
changed_right left right new n from to text shift n_is behind c =
    let sizes = joined_size-append left c.front in
    let start : (from - n) - joined_size c.front ≡ from - joined_size (left ++ c.front) = omega (arith, sizes, n_is) in
    let end : (to - n) - joined_size c.front ≡ to - joined_size (left ++ c.front) = omega (arith, sizes, n_is) in
    record {
      front = left ++ c.front;
      chunk = c.chunk;
      own = c.own;
      back = c.back;
      was = ap (λ r. left ++ r) c.was ∙ sym (append_assoc left c.front (c.chunk ∷ c.back));
      is = ap (λ r. left ++ r) c.is ∙ sym (append_assoc left c.front (c.own ∷ c.back));
      after = omega (arith, sizes, n_is, c.after, behind);
      replaced = rw (start, end) at c.replaced;
      shift_is = c.shift_is;
    }

pub right_if : {A : Type 0} (left right new : List Text) (n from to : ℕ) (text : Text) (shift : Shift) (result : Result A Unplaced)
    → n ≡ joined_size left → n ≤ from → OnOk result (IsOneChanged right new (from - n) (to - n) text shift)
    → OnOk result (IsOneChanged (left ++ right) (left ++ new) from to text shift)
right_if left right new n from to text shift (Ok done) n_is behind is =
    changed_right left right new n from to text shift n_is behind is
right_if left right new n from to text shift (Err e) n_is behind is = is

-- the joined text of chunks round one
joined-round : (chunks front back : List Text) (chunk : Text) → chunks ≡ front ++ chunk ∷ back
    → joined chunks ≡ joined front ++ (chunk ++ joined back)
joined-round chunks front back chunk is = ap joined is ∙ joined-append front (chunk ∷ back)

-- the joined text is exchanged as the chunk's is
replaced_whole : (old new : List Text) (from to : ℕ) (text : Text) (shift : Shift) → IsOneChanged old new from to text shift
    → from ≤ to → IsReplaced (joined old) (joined new) from to text
replaced_whole old new from to text shift c order =
    let r = c.replaced in
    let x = joined c.front in
    let y = joined c.back in
    let was : x ++ ((r.front ++ (r.middle ++ r.back)) ++ y) ≡ (x ++ r.front) ++ (r.middle ++ (r.back ++ y)) = simp append_assoc in
    let is : x ++ ((r.front ++ (text ++ r.back)) ++ y) ≡ (x ++ r.front) ++ (text ++ (r.back ++ y)) = simp append_assoc in
    record {
      front = x ++ r.front;
      middle = r.middle;
      back = r.back ++ y;
      was = joined-round old c.front c.back c.chunk c.was ∙ ap (λ t. x ++ (t ++ y)) r.was ∙ was;
      start = omega (arith, size-append x r.front, r.start, c.after);
      end = omega (arith, size-append x r.front, r.end, r.start, c.after, order);
      is = joined-round new c.front c.back c.own c.is ∙ ap (λ t. x ++ (t ++ y)) r.is ∙ is;
    }

pub replaced_if : {A : Type 0} (old new : List Text) (from to : ℕ) (text : Text) (shift : Shift) (result : Result A Unplaced)
    → OnOk result (IsOneChanged old new from to text shift) → from ≤ to
    → OnOk result (IsReplaced (joined old) (joined new) from to text)
replaced_if old new from to text shift (Ok done) c order = replaced_whole old new from to text shift c order
replaced_if old new from to text shift (Err e) c order = c

-- the chunk stands in the text of a summary
pub changed_in : (old new : List Text) (from to : ℕ) (text : Text) (shift : Shift) (whole : Summary)
    → IsOneChanged old new from to text shift → from ≤ to → whole ≡ summary_of (joined old) → joined_size old < 2 ^ 63
    → joined_size old + size text < 2 ^ 63 + (to - from) → IsChangedIn whole new shift
changed_in old new from to text shift whole c order whole_is short room =
    let was = joined-round old c.front c.back c.chunk c.was in
    record {
      x = joined c.front;
      chunk = c.chunk;
      own = c.own;
      y = joined c.back;
      whole_is = rw was at whole_is;
      new_is = joined-round new c.front c.back c.own c.is;
      shift_is = c.shift_is;
      short_old = omega (arith, ap size was, short);
      short_new = omega (
        arith,
        size-replaced (joined old) (joined new) from to text (replaced_whole old new from to text shift c order),
        room,
      );
    }

-- what is known of a tree holds after that
pub subtree_changed : (old new : Seen) (from to : ℕ) (text : Text) (shift : Shift) (whole after : Summary)
    → IsSubtree old whole → IsOneChanged old.texts new.texts from to text shift → from ≤ to → new.height ≡ old.height
    → after ≡ summary_of (joined new.texts)
    → joined_size old.texts + size text < 2 ^ 63 + (to - from) → AreSome new.texts → IsSubtree new after
subtree_changed old new from to text shift whole after subtree c order height after_is room each =
    let sizes = size-replaced (joined old.texts) (joined new.texts) from to text
    (replaced_whole old.texts new.texts from to text shift c order) in
    let many : length new.texts ≡ length old.texts = omega (
      arith,
      ap length c.was,
      ap length c.is,
      length-append c.front (c.chunk ∷ c.back),
      length-append c.front (c.own ∷ c.back),
    ) in
    record {
      summary_is = after_is;
      some = omega (arith, many, subtree.some);
      short = omega (arith, sizes, room);
      each = each;
      low = omega (arith, many, height, subtree.low);
      many = rw (many, height) subtree.many;
    }

-- boundaries of the text of a left subtree, and of a right one
pub boundaries_left : (left right : List Text) (from to : ℕ) → to ≤ joined_size left → from ≤ to
    → IsBoundary (joined (left ++ right)) from × IsBoundary (joined (left ++ right)) to
    → IsBoundary (joined left) from × IsBoundary (joined left) to
boundaries_left left right from to within order both =
    let parts = joined-append left right in
    let start : IsBoundary (joined left ++ joined right) from = rw parts at both.0 in
    let end : IsBoundary (joined left ++ joined right) to = rw parts at both.1 in
    (boundary_upto (joined left) (joined right) from (omega (arith, within, order)) start, boundary_upto (joined left) (joined right) to within end)

pub boundaries_right : (left right : List Text) (n from to : ℕ) → n ≡ joined_size left → n ≤ from → from ≤ to
    → IsBoundary (joined (left ++ right)) from × IsBoundary (joined (left ++ right)) to
    → IsBoundary (joined right) (from - n) × IsBoundary (joined right) (to - n)
boundaries_right left right n from to n_is behind order both =
    let parts = joined-append left right in
    let start : IsBoundary (joined left ++ joined right) from = rw parts at both.0 in
    let end : IsBoundary (joined left ++ joined right) to = rw parts at both.1 in (
      (boundary_right (joined left) (joined right) from (from - n) (omega (arith, n_is, behind))).0 start,
      (boundary_right (joined left) (joined right) to (to - n) (omega (arith, n_is, behind, order))).0 end,
    )

-- and of one chunk
pub boundaries_at : (chunks : List Text) (i start from to : ℕ) → i < length chunks → start ≡ joined_size (take i chunks) → start ≤ from
    → from ≤ to → to ≤ start + size (piece_at chunks i) → IsBoundary (joined chunks) from × IsBoundary (joined chunks) to
    → IsBoundary (piece_at chunks i) (from - start) × IsBoundary (piece_at chunks i) (to - start)
boundaries_at chunks i start from to inside start_is after order within both =
    let chunk = piece_at chunks i in
    let front = take i chunks in
    let back = drop (suc i) chunks in
    let was = sym (take-append-drop i chunks) ∙ ap (λ r. front ++ r) (drop-piece chunks i inside) in
    let whole = joined-round chunks front back chunk was in
    let from_is : IsBoundary (joined front ++ (chunk ++ joined back)) from = rw whole at both.0 in
    let to_is : IsBoundary (joined front ++ (chunk ++ joined back)) to = rw whole at both.1 in
    let from_inner = (boundary_right (joined front) (chunk ++ joined back) from (from - start) (omega (arith, start_is, after))).0 from_is in
    let to_inner = (boundary_right (joined front) (chunk ++ joined back) to (to - start) (omega (arith, start_is, after, order))).0 to_is in (
      boundary_upto chunk (joined back) (from - start) (omega (arith, within, order)) from_inner,
      boundary_upto chunk (joined back) (to - start) (omega (arith, within)) to_inner,
    )

-- ---- the text where both begin and end alike

-- a number of the text: what the change takes off is there to be taken, and what it ends with
pub record IsShifted (whole own out new bytes : ℕ) : Type 0 where
  pub fits : whole + own ≤ bytes
  pub out_le : out ≤ whole + own
  pub is : whole + own - out ≡ new

-- a chunk that is not empty stays so with a text after it
some-append : (a b : Text) → a ≢ [] → a ++ b ≢ []
some-append [] b some is = some refl
some-append (c ∷ cs) b some is = cc

-- so it is with each count
pub shift_of : (s : Scheme) (x old new y : Text) → old ≢ [] → new ≢ [] → starts_with_feed new ≡ starts_with_feed old
    → ends_in_return new ≡ ends_in_return old
    → IsShifted (count s (x ++ (old ++ y))) (count s new) (count s old) (count s (x ++ (new ++ y))) (size (x ++ (old ++ y)) + size (x ++ (new ++ y)))
shift_of s x old new y some some_new starts ends =
    let before = is_joined s x (old ++ y) in
    let after = is_joined s x (new ++ y) in
    let inner = is_joined s old y in
    let inner_new = is_joined s new y in
    let outer = seam_loss-same s x (old ++ y) x (new ++ y) refl
    (starts_with_feed-append old y some ∙ sym starts ∙ sym (starts_with_feed-append new y some_new)) in
    let same = seam_loss-same s old y new y (sym ends) refl in
    record {
      fits = omega (
        arith,
        count-le-size s (x ++ (old ++ y)),
        count-le-size s new,
        size-append x (new ++ y),
        size-append new y,
      );
      out_le = omega (arith, before.counts, inner.counts, before.loss_within, same, inner_new.loss_within);
      is = omega (arith, before.counts, inner.counts, before.loss_within, after.counts, inner_new.counts, outer, same, inner_new.loss_within);
    }

-- how it begins
starts_alike : (x old new y : Text) → old ≢ [] → new ≢ [] → starts_with_feed new ≡ starts_with_feed old
    → starts_with_feed (x ++ (old ++ y)) ≡ starts_with_feed (x ++ (new ++ y))
starts_alike [] old new y some some_new starts =
    starts_with_feed-append old y some ∙ sym starts ∙ sym (starts_with_feed-append new y some_new)
starts_alike (c ∷ cs) old new y some some_new starts =
    starts_with_feed-append (c ∷ cs) (old ++ y) (λ none. cc) ∙ sym (starts_with_feed-append (c ∷ cs) (new ++ y) (λ none. cc))

-- and ends
ends_behind : (old new y : Text) → ends_in_return new ≡ ends_in_return old → ends_in_return (old ++ y) ≡ ends_in_return (new ++ y)
ends_behind old new [] ends = ap ends_in_return (append-nil old) ∙ sym ends ∙ ap ends_in_return (sym (append-nil new))
ends_behind old new (c ∷ cs) ends =
    ends_in_return-append old (c ∷ cs) (λ none. cc) ∙ sym (ends_in_return-append new (c ∷ cs) (λ none. cc))

ends_alike : (x old new y : Text) → old ≢ [] → new ≢ [] → ends_in_return new ≡ ends_in_return old
    → ends_in_return (x ++ (old ++ y)) ≡ ends_in_return (x ++ (new ++ y))
ends_alike x old new y some some_new ends =
    ends_in_return-append x (old ++ y) (some-append old y some) ∙ ends_behind old new y ends
    ∙ sym (ends_in_return-append x (new ++ y) (some-append new y some_new))

-- the chunks begin and end alike where their summaries say so
starts_of : (shift : Shift) (old new : Text) → IsShift old new shift → shift.own.starts_lf ≡ shift.out.starts_lf
    → starts_with_feed new ≡ starts_with_feed old
starts_of shift old new is same = sym (ap (λ s. s.starts_lf) is.own) ∙ same ∙ ap (λ s. s.starts_lf) is.out

ends_of : (shift : Shift) (old new : Text) → IsShift old new shift → shift.own.ends_cr ≡ shift.out.ends_cr
    → ends_in_return new ≡ ends_in_return old
ends_of shift old new is same = sym (ap (λ s. s.ends_cr) is.own) ∙ same ∙ ap (λ s. s.ends_cr) is.out

-- by what is known of the change
pub shifted_count : (s : Scheme) (whole : Summary) (shift : Shift) (fits : FitsShift whole shift)
    → shift.own.starts_lf ≡ shift.out.starts_lf → shift.own.ends_cr ≡ shift.out.ends_cr
    → IsShifted (count_of whole s) (count_of shift.own s) (count_of shift.out s) (count s (fits.x ++ (fits.new ++ fits.y)))
    (size (fits.x ++ (fits.old ++ fits.y)) + size (fits.x ++ (fits.new ++ fits.y)))
shifted_count s whole shift fits starts ends =
    let is = fits.shift_is in
    let old = ap (λ w. count_of w s) fits.whole_is ∙ count_of-summary s (fits.x ++ (fits.old ++ fits.y)) in
    let out = ap (λ w. count_of w s) is.out ∙ count_of-summary s fits.old in
    let own = ap (λ w. count_of w s) is.own ∙ count_of-summary s fits.new in
    rw (old, out, own) (shift_of s fits.x fits.old fits.new fits.y is.some is.some_new (starts_of shift fits.old fits.new is starts)
    (ends_of shift fits.old fits.new is ends))

-- all numbers
pub shifted_numbers : (whole : Summary) (shift : Shift) (x old new y : Text) → whole ≡ summary_of (x ++ (old ++ y))
    → IsShift old new shift → shift.own.starts_lf ≡ shift.out.starts_lf → shift.own.ends_cr ≡ shift.out.ends_cr
    → ◌≡◌ {A = Summary} (record {
      len = whole.len + shift.own.len - shift.out.len;
      chars = whole.chars + shift.own.chars - shift.out.chars;
      utf16 = whole.utf16 + shift.own.utf16 - shift.out.utf16;
      lf = whole.lf + shift.own.lf - shift.out.lf;
      crlf = whole.crlf + shift.own.crlf - shift.out.crlf;
      lines = whole.lines + shift.own.lines - shift.out.lines;
      starts_lf = whole.starts_lf;
      ends_cr = whole.ends_cr;
    }) (summary_of (x ++ (new ++ y)))
shifted_numbers whole shift x old new y whole_is is same_start same_end =
    let starts = starts_of shift old new is same_start in
    let ends = ends_of shift old new is same_end in
    let of = λ (s : Scheme). shift_of s x old new y is.some is.some_new starts ends in
    let len : size (x ++ (old ++ y)) + size new - size old ≡ size (x ++ (new ++ y)) =
    omega (arith, size-append x (old ++ y), size-append old y, size-append x (new ++ y), size-append new y) in
    rw (whole_is, is.out, is.own) (same_fields len (of Chars).is (of Utf16).is (of Lf).is (of Crlf).is (of Lines).is
    (starts_alike x old new y is.some is.some_new starts) (ends_alike x old new y is.some is.some_new ends))
