-- The numbers of texts, one after the other: of pieces, of two texts and of a text that changes, and the answers by a front.
use Rattle.text_summary.proofs.lemmas.Common.{◌≡◌, ℕ, zero, suc, ◌+◌, ◌<◌, ◌≤◌, List, [], ◌∷◌, ◌++◌, length, take, drop, insert, refl, arith, sym, ◌∙◌, ap, append_assoc, add-one, take_more, append-nil, take-append-drop, Text, size, size-append, joined, joined_size, piece_at, ◌≢◌, ◌-◌, Bool, len_utf8_bounds, Scheme, count, seam_loss, starts_with_feed, ends_in_return, size-cons, is_joined, count-le-size, summary_of, count_of, IsUpdate, Update, Summary, from_byte_idx, to_byte_idx, starts_with_feed-append, seam_loss-same, IsFront, IsStep, Front, Step}
use Rattle.str_indices.specs.declared.Scheme.TheVariants.{Chars, Utf16, Lf, Crlf, Lines}

-- the pieces of two lists, one after the other
pub joined-append : (xs ys : List Text) → joined (xs ++ ys) ≡ joined xs ++ joined ys
joined-append [] ys = refl
joined-append (x ∷ xs) ys = ap (λ r. x ++ r) (joined-append xs ys) ∙ sym (append_assoc x (joined xs) (joined ys))

-- those before a place, and those from it on
pub joined-split : (xs : List Text) (i : ℕ) → joined xs ≡ joined (take i xs) ++ joined (drop i xs)
joined-split xs i = ap joined (sym (take-append-drop i xs)) ∙ joined-append (take i xs) (drop i xs)

-- one piece more
pub joined-take : (xs : List Text) (i : ℕ) → i < length xs
    → joined (take (i + 1) xs) ≡ joined (take i xs) ++ piece_at xs i
joined-take xs i inside = ap joined (take_more xs i [] inside) ∙ joined-append (take i xs) (piece_at xs i ∷ [])
    ∙ ap (λ r. joined (take i xs) ++ r) (append-nil (piece_at xs i))

-- a piece, and then those after it
pub drop-piece : (xs : List Text) (i : ℕ) → i < length xs → drop i xs ≡ piece_at xs i ∷ drop (suc i) xs
drop-piece [] i inside = absurd (omega arith)
drop-piece (x ∷ xs) zero inside = refl
drop-piece (x ∷ xs) (suc i) inside = drop-piece xs i (omega arith)

-- so is their joined text
pub joined-drop : (xs : List Text) (i : ℕ) → i < length xs
    → joined (drop i xs) ≡ piece_at xs i ++ joined (drop (i + 1) xs)
joined-drop xs i inside = rw add-one (ap joined (drop-piece xs i inside))

-- the bytes of the pieces, and of one that is put in
pub joined_size-insert : (xs : List Text) (at : ℕ) (text : Text)
    → joined_size (insert xs at text) ≡ joined_size xs + size text
joined_size-insert xs at text =
    let front = joined (take at xs) in
    let back = joined (drop at xs) in
    let parts = ap size (joined-append (take at xs) (text ∷ drop at xs)) ∙ size-append front (text ++ back) in
    omega (arith, ap size (joined-split xs at), size-append front back, size-append text back)

-- the first pieces take no more bytes than all
pub joined_size-take : (xs : List Text) (i : ℕ) → joined_size (take i xs) ≤ joined_size xs
joined_size-take xs i =
    omega (arith, ap size (joined-split xs i), size-append (joined (take i xs)) (joined (drop i xs)))

-- The numbers of texts, one after the other, by those of each.

-- a text of no bytes is empty
pub none_of : (a : Text) → size a ≡ 0 → a ≡ []
none_of [] none = refl
none_of (c ∷ cs) none = absurd (omega (arith, size-cons c cs, len_utf8_bounds c))

-- one of some bytes isn't, and the other way round
pub some_of : (a : Text) → size a ≢ 0 → a ≢ []
some_of a some none = some (ap size none)

pub size-some : (a : Text) → a ≢ [] → 0 < size a
size-some [] some = absurd (some refl)
size-some (c ∷ cs) some = omega (arith, size-cons c cs, len_utf8_bounds c)

-- a summary counts what its text has
pub count_of-summary : (s : Scheme) (text : Text) → count_of (summary_of text) s ≡ count s text
count_of-summary Chars text = refl
count_of-summary s text = refl

-- two summaries with the same fields are the same
pub same_fields : {l c u f r n l' c' u' f' r' n' : ℕ} {st en st' en' : Bool} → l ≡ l' → c ≡ c' → u ≡ u' → f ≡ f' → r ≡ r'
    → n ≡ n' → st ≡ st' → en ≡ en'
    → ◌≡◌ {A = Summary}
    (record { len = l; chars = c; utf16 = u; lf = f; crlf = r; lines = n; starts_lf = st; ends_cr = en })
    (record { len = l'; chars = c'; utf16 = u'; lf = f'; crlf = r'; lines = n'; starts_lf = st'; ends_cr = en' })
same_fields e1 e2 e3 e4 e5 e6 e7 e8 = rw (e1, e2, e3, e4, e5, e6, e7, e8) refl

-- a summary with the length and the counts of a text that also starts and ends as the text does is the text's
pub summary_is : (m : Summary) (text : Text) → m.len ≡ size text → ((s : Scheme) → count_of m s ≡ count s text)
    → m.starts_lf ≡ starts_with_feed text → m.ends_cr ≡ ends_in_return text → m ≡ summary_of text
summary_is m text len counts starts ends = same_fields len (counts Chars) (counts Utf16) (counts Lf) (counts Crlf)
    (counts Lines) starts ends

-- the sum of a number of two texts: what the seam takes is there to be taken
pub record IsSum (front after lost bytes both : ℕ) : Type 0 where
  pub lost_le : lost ≤ front
  pub fits : front - lost + after ≤ bytes
  pub is : front - lost + after ≡ both

-- so it is with each count
pub sum_of : (s : Scheme) (a b : Text)
    → IsSum (count s a) (count s b) (seam_loss s a b) (size a + size b) (count s (a ++ b))
sum_of s a b =
    let seam = is_joined s a b in
    record {
      lost_le = seam.loss_within;
      fits = omega (arith, count-le-size s a, count-le-size s b);
      is = omega (arith, seam.counts, seam.loss_within);
    }

-- a number of a text of which a part is exchanged: what each step of the change needs, and what it ends with
pub record IsExchange (old out own gained lost old_bytes new_bytes new : ℕ) : Type 0 where
  pub gained_fits : old + gained ≤ old_bytes + 2
  pub out_le : out ≤ old + gained
  pub fits : old + gained - out + own ≤ new_bytes
  pub lost_le : lost ≤ old + gained - out + own
  pub is : old + gained - out + own - lost ≡ new

-- the ends that both seams around a part take
abbrev pub lost_round : Scheme → Text → Text → Text → ℕ
lost_round s a m b = seam_loss s a (m ++ b) + seam_loss s m b

-- one each at most
seam_loss-le-one : (s : Scheme) (a b : Text) → seam_loss s a b ≤ 1
seam_loss-le-one Crlf a b = grind arith
seam_loss-le-one Lines a b = grind arith
seam_loss-le-one s a b = omega arith

-- a count of three texts, one after the other
count_round : (s : Scheme) (a m b : Text)
    → count s (a ++ (m ++ b)) + lost_round s a m b ≡ count s a + count s m + count s b
count_round s a m b = omega (arith, (is_joined s a (m ++ b)).counts, (is_joined s m b).counts)

-- so it is with each count
pub exchange_of : (s : Scheme) (a m b t : Text) → IsExchange (count s (a ++ (m ++ b))) (count s m) (count s t)
    (lost_round s a m b) (lost_round s a t b) (size (a ++ (m ++ b))) (size (a ++ (t ++ b))) (count s (a ++ (t ++ b)))
exchange_of s a m b t =
    let old = count_round s a m b in
    let new = count_round s a t b in
    let bytes = size-append a (t ++ b) in
    let rest = size-append t b in
    record {
      gained_fits = omega (arith, count-le-size s (a ++ (m ++ b)), seam_loss-le-one s a (m ++ b), seam_loss-le-one s m b);
      out_le = omega (arith, old);
      fits = omega (arith, old, bytes, rest, count-le-size s a, count-le-size s t, count-le-size s b);
      lost_le = omega (arith, old, new);
      is = omega (arith, old, new);
    }

-- the ends that both seams around a part take, whatever the texts are
abbrev pub IsLost : Scheme → Update → Summary → ℕ → Type 0
IsLost s change part lost = (a m b : Text) → change.ends_cr ≡ ends_in_return a → part ≡ summary_of m
    → change.starts_lf ≡ starts_with_feed b → lost ≡ lost_round s a m b

-- the exchange of a number in a scheme, by the summaries and by what the seams took before and take then
pub exchanged : (s : Scheme) (whole : Summary) (change : Update) (a m b t : Text) → whole ≡ summary_of (a ++ (m ++ b))
    → IsUpdate a m b t change → (gained lost : ℕ) → IsLost s change change.removed gained
    → IsLost s change change.inserted lost
    → IsExchange (count_of whole s) (count_of change.removed s) (count_of change.inserted s) gained lost
    (size (a ++ (m ++ b))) (size (a ++ (t ++ b))) (count s (a ++ (t ++ b)))
exchanged s whole change a m b t whole_is is gained lost gained_is lost_is =
    let old = ap (λ w. count_of w s) whole_is ∙ count_of-summary s (a ++ (m ++ b)) in
    let out = ap (λ w. count_of w s) is.removed ∙ count_of-summary s m in
    let own = ap (λ w. count_of w s) is.inserted ∙ count_of-summary s t in
    rw (
      gained_is a m b is.ends_cr is.removed is.starts_lf,
      lost_is a t b is.ends_cr is.inserted is.starts_lf,
      old,
      out,
      own,
    ) (exchange_of s a m b t)

-- and the sum of two summaries
pub added : (s : Scheme) (front after : Summary) (a b : Text) → front ≡ summary_of a → after ≡ summary_of b
    → IsSum (count_of front s) (count_of after s) (seam_loss s a b) (size a + size b) (count s (a ++ b))
added s front after a b front_is after_is =
    let first = ap (λ w. count_of w s) front_is ∙ count_of-summary s a in
    let second = ap (λ w. count_of w s) after_is ∙ count_of-summary s b in
    rw (first, second) (sum_of s a b)

-- The front of a piece, and the answers of a text by it.

-- a step over b after a, and the answers of a, b and any text after them
pub record Tells (s : Scheme) (a b c : Text) (step : Step) : Type 0 where
  pub from_here : (i : ℕ) → size a ≤ i → i < step.after.len
      → from_byte_idx s (a ++ (b ++ c)) i ≡ step.reached + from_byte_idx s b (i - size a)
  pub to_reached : (k : ℕ) → k ≤ step.reached → to_byte_idx s (a ++ (b ++ c)) k ≡ to_byte_idx s a k
  pub to_here : (k : ℕ) → step.reached < k → to_byte_idx s (a ++ b) k ≡ size a + to_byte_idx s b (k - step.reached)

pub tells : (s : Scheme) (a b c : Text) (step : Step) → b ≢ [] → IsStep s a b step → Tells s a b c step
tells s a b c step some is =
    let seam = is_joined s a b in
    let reached = is.reached in
    let within = seam.loss_within in
    let same = seam_loss-same s a (b ++ c) a b refl (starts_with_feed-append b c some) in
    let sizes = size-append a b in
    record {
      from_here = λ i past inside.
          let place : size a + (i - size a) ≡ i = omega arith in
          let own = rw place at (seam.from_behind (i - size a)) in
          let whole = (is_joined s (a ++ b) c).from_before i (omega (arith, is.after.len)) in
          rw (← append_assoc a b c) (omega (arith, own, whole));
      to_reached = λ k within. (is_joined s a (b ++ c)).to_before k (omega (arith, same));
      to_here = λ k past. seam.to_behind k (k - step.reached) (omega arith) (omega arith);
    }

-- a step over piece i of a list of pieces, and the answers of their joined text
pub record TellsAt (s : Scheme) (texts : List Text) (i : ℕ) (front : Front) (step : Step) : Type 0 where
  pub after : IsFront s (joined (take (i + 1) texts)) step.after
  pub from_here : (b : ℕ) → front.len ≤ b → b < step.after.len
      → from_byte_idx s (joined texts) b ≡ step.reached + from_byte_idx s (piece_at texts i) (b - front.len)
  pub to_reached : (k : ℕ) → k ≤ step.reached → to_byte_idx s (joined texts) k ≡ to_byte_idx s (joined (take i texts)) k
  pub to_here : (k : ℕ) → step.reached < k → to_byte_idx s (joined (take (i + 1) texts)) k
      ≡ front.len + to_byte_idx s (piece_at texts i) (k - step.reached)

pub tells_at : (s : Scheme) (texts : List Text) (i : ℕ) (front : Front) (step : Step) → i < length texts
    → piece_at texts i ≢ [] → IsFront s (joined (take i texts)) front
    → IsStep s (joined (take i texts)) (piece_at texts i) step → TellsAt s texts i front step
tells_at s texts i front step inside some front_is is =
    let before = joined (take i texts) in
    let piece = piece_at texts i in
    let behind = joined (drop (i + 1) texts) in
    let more = joined-take texts i inside in
    let whole : joined texts ≡ before ++ (piece ++ behind) =
    joined-split texts i ∙ ap (λ r. before ++ r) (joined-drop texts i inside) in
    let own = tells s before piece behind step some is in
    record {
      after = rw more is.after;
      from_here = λ b past inside. rw (whole, front_is.len) (own.from_here b (omega (arith, front_is.len)) inside);
      to_reached = λ k within. rw whole (own.to_reached k within);
      to_here = λ k past. rw (more, front_is.len) (own.to_here k past);
    }
