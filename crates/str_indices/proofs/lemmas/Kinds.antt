-- Which bytes a text has, and what follows for its counts where some are missing.
use Rattle.str_indices.proofs.lemmas.Common.{◌≡◌, ℕ, ◌+◌, ◌-◌, ◌%◌, ◌<◌, ◌≤◌, ◌⊎◌, ◌↔◌, ◌≢◌, ◌∙◌, min, max, inl, inr, List, ◌++◌, length, get_or, nat_lt, All, sym, subst, arith, cases_lt, length-append, ltb-true, lt-ltb, get_or-append-add, get_or_append_left, get_or_default, [], ◌∷◌, filter, map, chars, IsUtf8, refl, ap, true, nat_tests, len_utf8, scalar, scalars, encode, encodes, encodes-chars, scalars-chars, length-encode, and_parts, All-head, All-tail, All-cons, sum_by, sum_by-cons, char_set_contains, placed, break_characters, is_break_end, weight, count, Scheme, Chars, Crlf, Lf, Lines, Utf16}
use Rattle.std.proofs.Common.{IsTrue}
use Rattle.std.proofs.lemmas.List.Elements.{All-append}
use Rattle.str_indices.specs.Kinds.{HasNoWideLead, HasAsciiAlone, HasNoPair, HasNoVtFf, HasNoReturn, HasNoWidePair, IsWidePair}
use Rattle.str_indices.proofs.lemmas.Bytes.{by_size, size-chars}
use Rattle.str_indices.proofs.lemmas.Texts.{count_characters, count-units}
use Rattle.str_indices.proofs.lemmas.Laws.{count-Lf-le-count-Crlf, count-Crlf-le-count-Lines}
use Rattle.str_indices.specs.Text.{Text}

-- The greatest byte of a text, the least distance of a byte from VT on, and what holds of each byte of a block.

-- how far a byte is from VT on, counted round from 255 to 0
abbrev pub from_vt : ℕ → ℕ
from_vt b = (b + 245) % 256

-- the greatest of the first n bytes, and 0 of none
pub record IsGreatest (bytes : List ℕ) (n greatest : ℕ) : Type 0 where
  pub above : (k : ℕ) → k < n → get_or bytes k 0 ≤ greatest
  pub least : (m : ℕ) → ((k : ℕ) → k < n → get_or bytes k 0 ≤ m) → greatest ≤ m

-- the least distance of the first n bytes from VT on, and 255 of none
pub record IsLeast (bytes : List ℕ) (n least : ℕ) : Type 0 where
  pub below : (k : ℕ) → k < n → least ≤ from_vt (get_or bytes k 0)
  pub greatest : (m : ℕ) → m ≤ 255 → ((k : ℕ) → k < n → m ≤ from_vt (get_or bytes k 0)) → m ≤ least

-- one byte more
pub greatest_more : (bytes : List ℕ) (n g g' : ℕ) → IsGreatest bytes n g → g' ≡ max g (get_or bytes n 0)
    → IsGreatest bytes (n + 1) g'
greatest_more bytes n g g' is next = record {
  above = λ k before. elim (cases_lt k n) [
    | inl earlier ↦ omega (arith, is.above k earlier)
    | inr last ↦ let here : k ≡ n = omega arith in rw here (omega arith)
  ];
  least = λ m all. omega (arith, is.least m (λ k before. all k (omega arith)), all n (omega arith));
}

pub least_more : (bytes : List ℕ) (n l l' : ℕ) → IsLeast bytes n l → l' ≡ min l (from_vt (get_or bytes n 0))
    → IsLeast bytes (n + 1) l'
least_more bytes n l l' is next = record {
  below = λ k before. elim (cases_lt k n) [
    | inl earlier ↦ omega (arith, is.below k earlier)
    | inr last ↦ let here : k ≡ n = omega arith in rw here (omega arith)
  ];
  greatest = λ m fits all. omega (arith, is.greatest m fits (λ k before. all k (omega arith)), all n (omega arith));
}

-- the greatest of all bytes is below a number exactly where each byte is
pub all_below : (bytes : List ℕ) (n g most : ℕ) → IsGreatest bytes n g → n ≡ length bytes → 0 < most
    → (IsTrue (nat_lt g most) ↔ All (λ b. b < most) bytes)
all_below bytes n g most is whole some = (
  λ below k d within.
      rw (get_or_default bytes k d 0 within) (omega (arith, ltb-true g most below, is.above k (omega arith))),
  λ all. lt-ltb g most (omega (arith, is.least (most - 1) (λ k before. omega (arith, all k 0 (omega arith))))),
)

-- where the greatest of all bytes begins a wide break, or another char of the same first byte, there is such a byte
pub greatest_lead : (bytes : List ℕ) (n g : ℕ) → IsGreatest bytes n g → n ≡ length bytes → (g ≡ 0xC2) ⊎ (g ≡ 0xE2)
    → ¬ (HasNoWideLead bytes)
greatest_lead bytes n g is whole lead = λ none.
    let less = is.least (g - 1) (λ k before. less_of k before (none k 0 (omega arith))) in
    elim lead [
      | inl c2 ↦ omega (arith, less)
      | inr e2 ↦ omega (arith, less)
    ]
  where
    less_of : (k : ℕ) → k < n → (get_or bytes k 0 ≢ 0xC2) × (get_or bytes k 0 ≢ 0xE2) → get_or bytes k 0 ≤ g - 1
    less_of k before other = elim (cases_lt (get_or bytes k 0) g) [
      | inl less ↦ omega (arith, less)
      | inr same ↦
          let equal : get_or bytes k 0 ≡ g = omega (arith, is.above k before) in
          elim lead [
            | inl c2 ↦ absurd (other.0 (equal ∙ c2))
            | inr e2 ↦ absurd (other.1 (equal ∙ e2))
          ]
    ]

-- and the least distance is above one exactly where no byte is within that distance
pub all_past : (bytes : List ℕ) (n l near : ℕ) → IsLeast bytes n l → n ≡ length bytes
    → ((k : ℕ) → get_or bytes k 0 < 256) → near < 244
    → (IsTrue (nat_lt near l) ↔ All (λ b. (b < 11) ⊎ (11 + near < b)) bytes)
all_past bytes n l near is whole fit short = (
  λ past k d within. rw (get_or_default bytes k d 0 within)
      (past_vt (get_or bytes k 0) (omega (arith, ltb-true near l past, is.below k (omega arith)))),
  λ all. lt-ltb near l (omega (
    arith,
    is.greatest (near + 1) (omega arith) (λ k before. distance (get_or bytes k 0) (fit k) (all k 0 (omega arith))),
  )),
)
  where
    past_vt : (b : ℕ) → near < from_vt b → (b < 11) ⊎ (11 + near < b)
    past_vt b far = elim (cases_lt b 11) [
      | inl low ↦ inl low
      | inr high ↦ inr (omega arith)
    ]

    distance : (b : ℕ) → b < 256 → (b < 11) ⊎ (11 + near < b) → near + 1 ≤ from_vt b
    distance b fits (inl low) = omega arith
    distance b fits (inr high) = omega arith

-- if P holds of each byte of two lists together, it holds of each byte of both
pub All-parts : (P : ℕ → Type 0) (front back : List ℕ) → All P (front ++ back) → All P front × All P back
All-parts P front back all = (
  λ k d within. subst P (get_or_append_left front back d k within)
      (all k d (omega (arith, length-append front back))),
  λ k d within. subst P (get_or-append-add front back k d)
      (all (length front + k) d (omega (arith, length-append front back))),
)

-- where it holds of each byte of a block, it holds of the whole exactly where it holds of what is left
pub after_block : (P : ℕ → Type 0) (bytes rest block after : List ℕ) → rest ≡ block ++ after → All P block
    → (All P bytes ↔ All P rest) → (All P bytes ↔ All P after)
after_block P bytes rest block after split here so_far = (
  λ all. (All-parts P block after (subst (All P) split (so_far.0 all))).1,
  λ later. so_far.1 (subst (All P) (sym split) (All-append P block after here later)),
)

-- The bytes that a text lacks, and what follows for its chars and its counts.

-- if R holds of a list of bytes, it holds of both parts of it
abbrev Parts : (List ℕ → Type 0) → Type 0
Parts R = (front back : List ℕ) → R (front ++ back) → R front × R back

-- if a property R of bytes gives a property Q of each char, it gives Q for all chars of a text
each_character : (R : List ℕ → Type 0) (Q : ℕ → Type 0) → Parts R
    → ((c : ℕ) → scalar c ≡ true → R (encode c) → Q c) → (cs : List ℕ) → scalars cs ≡ true → R (encodes cs) → All Q cs
each_character R Q parts one [] are all = λ k d within. absurd (omega arith)
each_character R Q parts one (c ∷ cs) are all =
    let both = and_parts (scalar c) (scalars cs) are in
    let bytes = parts (encode c) (encodes cs) all in
    All-cons Q c cs (one c both.0 bytes.0) (each_character R Q parts one cs both.1 bytes.1)

of_text : (R : List ℕ → Type 0) (Q : ℕ → Type 0) → Parts R → ((c : ℕ) → scalar c ≡ true → R (encode c) → Q c)
    → (bytes : List ℕ) → IsUtf8 bytes → R bytes → All Q (chars bytes)
of_text R Q parts one bytes utf8 all = each_character R Q parts one (chars bytes) (scalars-chars bytes utf8)
    (subst R (sym (encodes-chars bytes utf8)) all)

-- a char without a byte that begins four takes fewer than four
short : (c : ℕ) → scalar c ≡ true → HasNoPair (encode c) → len_utf8 c < 4
short c is all = omega (
  arith,
  length-encode c,
  by_size (λ bs. HasNoPair bs → length bs < 4) c is
      (λ from all. omega arith) (λ from below all. omega arith) (λ from below all. omega arith)
      (λ from below all. absurd (omega (arith, all 0 0 (omega arith)))) all,
)

-- so it takes one UTF-16 code unit
one_unit : (c : ℕ) → scalar c ≡ true → HasNoPair (encode c) → weight c ≡ 1
one_unit c is all = grind (arith, nat_tests, short c is all)

-- and an ASCII one takes one byte
one_byte : (c : ℕ) → scalar c ≡ true → HasAsciiAlone (encode c) → len_utf8 c ≡ 1
one_byte c is all = sym (length-encode c) ∙ by_size (λ bs. HasAsciiAlone bs → length bs ≡ 1) c is
    (λ from all. refl)
    (λ from below all. absurd (omega (arith, all 0 0 (omega arith))))
    (λ from below all. absurd (omega (arith, all 0 0 (omega arith))))
    (λ from below all. absurd (omega (arith, all 0 0 (omega arith)))) all

-- whether a char is a break by two schemes or by neither
abbrev IsAlike : Scheme → Scheme → ℕ → Type 0
IsAlike s r c = char_set_contains (break_characters s) c ≡ char_set_contains (break_characters r) c

-- a byte of LF or CR, or of no break
abbrev IsNarrow : ℕ → Type 0
IsNarrow b = ((b < 0x0B) ⊎ (0x0C < b)) × ((b ≢ 0xC2) × (b ≢ 0xE2))

-- without a byte of another break, a char is a break exactly where it is LF or CR
narrow_alike : (c : ℕ) → scalar c ≡ true → All IsNarrow (encode c) → IsAlike Lines Crlf c
narrow_alike c is = by_size (λ bs. All IsNarrow bs → IsAlike Lines Crlf c) c is
    (λ from all. let here = all 0 0 (omega arith) in grind (arith, nat_tests))
    (λ from below all. let here = all 0 0 (omega arith) in grind (arith, nat_tests))
    (λ from below all. let here = all 0 0 (omega arith) in grind (arith, nat_tests))
    (λ from below all. grind (arith, nat_tests))

-- and without a CR exactly where it is LF
feeds_alike : (c : ℕ) → scalar c ≡ true → HasNoReturn (encode c) → IsAlike Crlf Lf c
feeds_alike c is = by_size (λ bs. HasNoReturn bs → IsAlike Crlf Lf c) c is
    (λ from all. let here = all 0 0 (omega arith) in grind (arith, nat_tests))
    (λ from below all. grind (arith, nat_tests))
    (λ from below all. grind (arith, nat_tests))
    (λ from below all. grind (arith, nat_tests))

-- bytes of no other break than LF and CR, alone or side by side
abbrev HasNoBreakPair : List ℕ → Type 0
HasNoBreakPair bytes = HasNoVtFf bytes × HasNoWidePair bytes

-- no pair of a list is one of its parts
pair_parts : Parts HasNoWidePair
pair_parts front back none = (
  λ k within. subst (λ b. ¬ (IsWidePair b (get_or front (1 + k) 0)))
      (get_or_append_left front back 0 k (omega arith))
      (subst (λ b. ¬ (IsWidePair (get_or (front ++ back) k 0) b))
      (get_or_append_left front back 0 (1 + k) within) (none k (omega (arith, length-append front back)))),
  λ k within.
      let next : 1 + (length front + k) ≡ length front + (1 + k) = omega arith in
      subst (λ b. ¬ (IsWidePair b (get_or back (1 + k) 0))) (get_or-append-add front back k 0)
      (subst (λ b. ¬ (IsWidePair (get_or (front ++ back) (length front + k) 0) b))
      (ap (λ j. get_or (front ++ back) j 0) next ∙ get_or-append-add front back (1 + k) 0)
      (none (length front + k) (omega (arith, length-append front back)))),
)

break_pair_parts : Parts HasNoBreakPair
break_pair_parts front back none =
    let vt_ff = All-parts (λ b. (b < 0x0B) ⊎ (0x0C < b)) front back none.0 in
    let pairs = pair_parts front back none.1 in
    ((vt_ff.0, pairs.0), (vt_ff.1, pairs.1))

-- without them a char is a break exactly where it is LF or CR
pairs_alike : (c : ℕ) → scalar c ≡ true → HasNoBreakPair (encode c) → IsAlike Lines Crlf c
pairs_alike c is = by_size (λ bs. HasNoBreakPair bs → IsAlike Lines Crlf c) c is
    (λ from none. let here = none.0 0 0 (omega arith) in grind (arith, nat_tests))
    (λ from below none.
    let other : c ≢ 0x85 = λ same. none.1 0 (omega arith) (inl (omega arith, omega arith)) in
    grind (arith, nat_tests))
    (λ from below none.
    let line : c ≢ 0x2028 = λ same. none.1 1 (omega arith) (inr (omega arith, inl (omega arith))) in
    let paragraph : c ≢ 0x2029 = λ same. none.1 1 (omega arith) (inr (omega arith, inr (omega arith))) in
    grind (arith, nat_tests))
    (λ from below none. grind (arith, nat_tests))

-- if two sets agree on each char of a text, the text has the same breaks by both
breaks_alike : (more set : List ℕ) (start : ℕ) (t : Text)
    → All (λ c. char_set_contains more c ≡ char_set_contains set c) t
    → filter (is_break_end more) (placed start t) ≡ filter (is_break_end set) (placed start t)
breaks_alike more set start [] alike = refl
breaks_alike more set start (c ∷ cs) alike =
    let one = All-head (λ d. char_set_contains more d ≡ char_set_contains set d) c cs alike in
    let rest = breaks_alike more set (start + len_utf8 c) cs
    (All-tail (λ d. char_set_contains more d ≡ char_set_contains set d) c cs alike) in
    rw (one, rest) refl

-- sums of numbers that are one at each char
sum_by_ones : (w : ℕ → ℕ) (t : Text) → All (λ c. w c ≡ 1) t → sum_by w t ≡ sum_by (λ _. 1) t
sum_by_ones w [] ones = refl
sum_by_ones w (c ∷ cs) ones = omega (
  arith,
  sum_by-cons w c cs,
  sum_by-cons {X = ℕ} (λ _. 1) c cs,
  All-head (λ d. w d ≡ 1) c cs ones,
  sum_by_ones w cs (All-tail (λ d. w d ≡ 1) c cs ones),
)

module _ (bytes : List ℕ) (utf8 : IsUtf8 bytes) where
  -- a text of ASCII has as many chars as bytes
  pub characters_of_ascii : HasAsciiAlone bytes → length bytes ≡ count Chars (chars bytes)
  characters_of_ascii all = omega (
    arith,
    size-chars bytes utf8,
    count_characters (chars bytes),
    sum_by_ones len_utf8 (chars bytes) (of_text HasAsciiAlone (λ c. len_utf8 c ≡ 1) (All-parts (λ b. b < 0x80)) one_byte bytes utf8 all),
  )

  -- a text without a pair has as many UTF-16 code units as chars
  pub units_without_pairs : HasNoPair bytes → count Chars (chars bytes) ≡ count Utf16 (chars bytes)
  units_without_pairs all = omega (
    arith,
    count-units (chars bytes),
    count_characters (chars bytes),
    sum_by_ones weight (chars bytes) (of_text HasNoPair (λ c. weight c ≡ 1) (All-parts (λ b. b < 0xF0)) one_unit bytes utf8 all),
  )

  -- if two sets agree on each char of a text, the text has as many breaks by one as by the other
  as_many : (more set : List ℕ) → All (λ c. char_set_contains more c ≡ char_set_contains set c) (chars bytes)
      → length (map (λ p. p.end) (filter (is_break_end set) (placed 0 (chars bytes))))
      ≡ length (map (λ p. p.end) (filter (is_break_end more) (placed 0 (chars bytes))))
  as_many more set alike =
      ap (λ ps. length (map (λ p. p.end) ps)) (sym (breaks_alike more set 0 (chars bytes) alike))

  -- a text without a CR has as many breaks of LF, CR and CRLF as LFs
  pub crlf_without_returns : HasNoReturn bytes → count Lf (chars bytes) ≡ count Crlf (chars bytes)
  crlf_without_returns all = as_many (break_characters Crlf) (break_characters Lf)
      (of_text HasNoReturn (IsAlike Crlf Lf) (All-parts (λ b. (b < 0x0B) ⊎ (0x0D < b))) feeds_alike bytes utf8 all)

  -- one without a byte of another break has as many of all breaks
  pub lines_without_leads : HasNoVtFf bytes → HasNoWideLead bytes → count Crlf (chars bytes) ≡ count Lines (chars bytes)
  lines_without_leads vt_ff leads = as_many (break_characters Lines) (break_characters Crlf)
      (of_text (All IsNarrow) (IsAlike Lines Crlf) (All-parts IsNarrow) narrow_alike bytes utf8
      (λ k d within. (vt_ff k d within, leads k d within)))

  -- and so has one without the bytes of another break side by side
  pub lines_without_pairs : HasNoVtFf bytes → HasNoWidePair bytes → count Crlf (chars bytes) ≡ count Lines (chars bytes)
  lines_without_pairs vt_ff pairs = as_many (break_characters Lines) (break_characters Crlf)
      (of_text HasNoBreakPair (IsAlike Lines Crlf) break_pair_parts pairs_alike bytes utf8 (vt_ff, pairs))

-- a text with as many breaks of all kinds as LFs has as many of LF, CR and CRLF
pub as_many_breaks : (t : Text) → count Lf t ≡ count Lines t → count Lf t ≡ count Crlf t
as_many_breaks t same = omega (arith, count-Lf-le-count-Crlf t, count-Crlf-le-count-Lines t, same)
