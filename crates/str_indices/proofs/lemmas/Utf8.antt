-- UTF-8 by the rule on four bytes.
use Rattle.str_indices.proofs.lemmas.Common.{◌≡◌, ℕ, zero, suc, ◌<◌, ◌≤◌, ◌⊎◌, ◌↔◌, List, [], ◌∷◌, length, get_or, Bool, arith, nat_tests, true, not, ◌&&◌, ◌||◌, nat_le, nat_lt, ◌+◌, ◌/◌, ◌%◌, ◌++◌, inl, inr, encode, encodes, scalar, scalars, scalar_cases, and_parts, ◌-◌, ◌*◌, refl, subst, cases_lt, IsUtf8, take, sym, ◌∙◌, get_or-take, length-take-le, ap, cases_Bool, take_all}
use Rattle.std.specs.Bool.{IsTrue, IsFalse}
use Rattle.std.specs.Int.{is_in_range}
use Rattle.std.specs.Prelude.{if◌then◌else◌}
use Rattle.std.specs.Str.Lossy.{second_byte_min, second_byte_max, utf8_valid_len, valid_len_up_to}
use Rattle.str_indices.specs.Utf8.{may_follow, leaves_open, after_zeros, follows, is_open, AllFollow, open_start}
use Rattle.str_indices.proofs.lemmas.Bytes.{by_size}
use Rattle.std.proofs.lemmas.Str.{IsUtf8-append, IsUtf8-encode, IsUtf8-nil, IsUtf8-from_is_utf8, utf8_valid_len-IsUtf8, utf8_valid_len-IsValidUpTo}
use Rattle.std.specs.Str.{is_utf8}

-- The rule on four bytes in numbers, by what the three bytes before leave open, and along a list.

-- no char goes on after x, y and z
pub record AllClosed (x y z : ℕ) : Type 0 where
  pub fourth : x < 0xF0
  pub third : y < 0xE0
  pub second : z < 0xC0

-- b is a byte of a char and not its first
pub record IsLater (b : ℕ) : Type 0 where
  pub low : 0x80 ≤ b
  pub high : b ≤ 0xBF

-- a may begin a char of several bytes, and b may be its second
pub record IsLeadPair (a b : ℕ) : Type 0 where
  pub from : 0xC2 ≤ a
  pub to : a ≤ 0xF4
  pub later : IsLater b
  pub not_overlong_of_three : a ≡ 0xE0 → 0xA0 ≤ b
  pub not_surrogate : a ≡ 0xED → b ≤ 0x9F
  pub not_overlong_of_four : a ≡ 0xF0 → 0x90 ≤ b
  pub not_too_great : a ≡ 0xF4 → b ≤ 0x8F

-- the test of what is left open, in numbers
pub leaves_open-AllClosed : (x y z : ℕ) → IsFalse (leaves_open x y z) ↔ AllClosed x y z
leaves_open-AllClosed x y z = (
  λ shut. grind (arith, nat_tests),
  λ closed. grind (arith, nat_tests),
)

-- where no char goes on, a byte follows that begins one
pub may_follow-first : (x y z b : ℕ) → AllClosed x y z → IsTrue (may_follow x y z b) ↔ ((b < 0x80) ⊎ (0xC0 ≤ b))
may_follow-first x y z b closed = (λ may. grind (arith, nat_tests), λ begins. grind (arith, nat_tests))

-- such a second byte is no less than the least
least_second : (a b : ℕ) → IsLeadPair a b → second_byte_min a ≤ b
least_second a b pair = grind (arith, nat_tests)

-- and no greater than the greatest
greatest_second : (a b : ℕ) → IsLeadPair a b → b ≤ second_byte_max a
greatest_second a b pair = grind (arith, nat_tests)

-- a byte between two bounds may follow, if the rule names those
between_bounds : (x y z b low high : ℕ) → x < 0xF0 → y < 0xE0 → 0xC2 ≤ z → z ≤ 0xF4 → low ≤ b → b ≤ high
    → (if nat_le 0xF0 x || nat_le 0xE0 y then is_in_range 0x80 0xBF z && is_in_range 0x80 0xBF b
    else (if nat_lt z 0xC0 then not (is_in_range 0x80 0xBF b) else is_in_range 0xC2 0xF4 z && is_in_range low high b)) ≡ true
between_bounds x y z b low high fourth third from to above below = grind (arith, nat_tests)

-- after the first byte of a char of several, its second follows
pub may_follow-second : (x y z b : ℕ) → x < 0xF0 → y < 0xE0 → 0xC0 ≤ z → IsTrue (may_follow x y z b) ↔ IsLeadPair z b
may_follow-second x y z b fourth third second = (
  λ may. grind (arith, nat_tests),
  λ pair. between_bounds x y z b (second_byte_min z) (second_byte_max z) fourth third pair.from pair.to
      (least_second z b pair) (greatest_second z b pair),
)

-- in a char of three or four bytes the second and the next are bytes that don't begin one
pub may_follow-later : (x y z b : ℕ) → (0xF0 ≤ x) ⊎ (0xE0 ≤ y) → IsTrue (may_follow x y z b) ↔ (IsLater z × IsLater b)
may_follow-later x y z b goes_on = (
  λ may. grind (arith, nat_tests),
  λ later. grind (arith, nat_tests),
)

-- each byte of a list may follow the three before it, and at its end no char goes on
abbrev pub Follow : ℕ → ℕ → ℕ → List ℕ → Type 0
Follow x y z [] = AllClosed x y z
Follow x y z (b ∷ bytes) = IsTrue (may_follow x y z b) × Follow y z b bytes

-- whether the byte at place i + 3 may follow the three before it
abbrev pub follows_in : List ℕ → ℕ → Bool
follows_in all i =
    may_follow (get_or all i 0) (get_or all (suc i) 0) (get_or all (suc (suc i)) 0) (get_or all (suc (suc (suc i))) 0)

-- no char goes on at place i + 3
abbrev pub ClosedIn : List ℕ → ℕ → Type 0
ClosedIn all i = AllClosed (get_or all i 0) (get_or all (suc i) 0) (get_or all (suc (suc i)) 0)

-- a list keeps the rule where it does at each of its places
pub Follow-by_place : (x y z : ℕ) (bytes : List ℕ) → Follow x y z bytes
    ↔ (((i : ℕ) → i < length bytes → IsTrue (follows_in (x ∷ y ∷ z ∷ bytes) i))
    × ClosedIn (x ∷ y ∷ z ∷ bytes) (length bytes))
Follow-by_place x y z [] = (λ closed. (λ i within. absurd (omega arith), closed), λ parts. parts.1)
Follow-by_place x y z (b ∷ bytes) =
    let rest = Follow-by_place y z b bytes in (
      λ all. (elim [ zero ↦ λ within. all.0 | suc i ↦ λ within. (rest.0 all.1).0 i (omega arith) ], (rest.0 all.1).1),
      λ parts. (parts.0 0 (omega arith), rest.1 (λ i within. parts.0 (suc i) (omega arith), parts.1)),
    )

-- The bytes of chars keep the rule on four bytes.

-- if bytes keep the rule after each three that leave no char open, they do with a char before them
Follow-char : (c : ℕ) (bytes : List ℕ) → scalar c ≡ true → ((x y z : ℕ) → AllClosed x y z → Follow x y z bytes)
    → (x y z : ℕ) → AllClosed x y z → Follow x y z (encode c ++ bytes)
Follow-char c bytes s rest x y z closed =
    let range = scalar_cases c s in
    let first = λ (a : ℕ). (may_follow-first x y z a closed).1 in
    let second = λ (a b : ℕ) (wide : 0xC0 ≤ a). (may_follow-second y z a b (omega arith) (omega arith) wide).1 in
    by_size (λ front. Follow x y z (front ++ bytes)) c s
    (λ below. (first c (inl below), rest y z c (omega arith)))
    (λ from below.
    let a = 192 + c / 64 in
    let b = 128 + c % 64 in
    (first a (inr (omega arith)), (second a b (omega arith) (omega arith), rest z a b (omega arith))))
    (λ from below.
    let a = 224 + c / 4096 in
    let b = 128 + c / 64 % 64 in
    let d = 128 + c % 64 in (
      first a (inr (omega arith)),
      (
        second a b (omega arith) (omega arith),
        ((may_follow-later z a b d (inr (omega arith))).1 (omega arith), rest a b d (omega arith)),
      ),
    ))
    (λ from below.
    let a = 240 + c / 262144 in
    let b = 128 + c / 4096 % 64 in
    let d = 128 + c / 64 % 64 in
    let e = 128 + c % 64 in (
      first a (inr (omega arith)),
      (
        second a b (omega arith) (omega arith),
        (
          (may_follow-later z a b d (inr (omega arith))).1 (omega arith),
          ((may_follow-later a b d e (inl (omega arith))).1 (omega arith), rest b d e (omega arith)),
        ),
      ),
    ))

-- the bytes of a text keep the rule after each three that leave no char open
pub Follow-encodes : (cs : List ℕ) → scalars cs ≡ true → (x y z : ℕ) → AllClosed x y z → Follow x y z (encodes cs)
Follow-encodes [] s x y z closed = closed
Follow-encodes (c ∷ cs) s x y z closed =
    let parts = and_parts (scalar c) (scalars cs) s in
    Follow-char c (encodes cs) parts.0 (Follow-encodes cs parts.1) x y z closed

-- Bytes that keep the rule on four bytes are UTF-8.

-- a number that is no surrogate and not too great is a scalar value
is_scalar : (c : ℕ) → (0xD800 ≤ c → 0xE000 ≤ c) → c < 0x110000 → scalar c ≡ true
is_scalar c outside within = grind (arith, nat_tests)

-- c is a char of these bytes
abbrev IsCharOf : ℕ → List ℕ → Type 0
IsCharOf c bytes = (scalar c ≡ true) × (encode c ≡ bytes)

-- the bytes of a char, before UTF-8, are UTF-8
IsUtf8-char : (c : ℕ) (front rest : List ℕ) → IsCharOf c front → IsUtf8 rest → IsUtf8 (front ++ rest)
IsUtf8-char c front rest is utf8 = IsUtf8-append front rest (subst IsUtf8 is.1 (IsUtf8-encode c is.0)) utf8

-- a byte of ASCII is a char
one_byte : (a : ℕ) → a < 0x80 → IsCharOf a (a ∷ [])
one_byte a below =
    let s = is_scalar a (omega arith) (omega arith) in (
      s,
      by_size (λ bytes. bytes ≡ a ∷ []) a s (λ _. refl)
          (λ from _. absurd (omega arith)) (λ from _. absurd (omega arith)) (λ from _. absurd (omega arith)),
    )

-- two bytes that may be a char are one
two_bytes : (a b c : ℕ) → IsLeadPair a b → a < 0xE0 → c ≡ (a - 0xC0) * 64 + (b - 0x80) → IsCharOf c (a ∷ b ∷ [])
two_bytes a b c pair below is =
    let s = is_scalar c (λ low. grind arith) (omega arith) in
    let p : 192 + c / 64 ≡ a = omega arith in
    let q : 128 + c % 64 ≡ b = omega arith in (
      s,
      by_size (λ bytes. bytes ≡ a ∷ b ∷ []) c s (λ short. absurd (omega arith)) (λ _ _ k. p k ∷ q k ∷ [])
          (λ from _. absurd (omega arith)) (λ from _. absurd (omega arith)),
    )

-- and so are three
three_bytes : (a b d c : ℕ) → IsLeadPair a b → 0xE0 ≤ a → a < 0xF0 → IsLater d
    → c ≡ (a - 0xE0) * 4096 + (b - 0x80) * 64 + (d - 0x80) → IsCharOf c (a ∷ b ∷ d ∷ [])
three_bytes a b d c pair above below later is =
    let s = is_scalar c (λ low. grind arith) (omega arith) in
    let p : 224 + c / 4096 ≡ a = omega arith in
    let q : 128 + c / 64 % 64 ≡ b = omega arith in
    let r : 128 + c % 64 ≡ d = omega arith in (
      s,
      by_size (λ bytes. bytes ≡ a ∷ b ∷ d ∷ []) c s (λ short. absurd (omega arith)) (λ _ short. absurd (omega arith))
          (λ _ _ k. p k ∷ q k ∷ r k ∷ []) (λ from _. absurd (omega arith)),
    )

-- and four
four_bytes : (a b d e c : ℕ) → IsLeadPair a b → 0xF0 ≤ a → IsLater d → IsLater e
    → c ≡ (a - 0xF0) * 262144 + (b - 0x80) * 4096 + (d - 0x80) * 64 + (e - 0x80) → IsCharOf c (a ∷ b ∷ d ∷ e ∷ [])
four_bytes a b d e c pair above third fourth is =
    let s = is_scalar c (λ low. grind arith) (grind arith) in
    let p : 240 + c / 262144 ≡ a = omega arith in
    let q : 128 + c / 4096 % 64 ≡ b = omega arith in
    let r : 128 + c / 64 % 64 ≡ d = omega arith in
    let t : 128 + c % 64 ≡ e = omega arith in (
      s,
      by_size (λ bytes. bytes ≡ a ∷ b ∷ d ∷ e ∷ []) c s (λ short. absurd (omega arith)) (λ _ short. absurd (omega arith))
          (λ _ short. absurd (omega arith)) (λ _ _ k. p k ∷ q k ∷ r k ∷ t k ∷ []),
    )

-- the bytes after x, y and z are UTF-8, with those before them of a char that goes on
record Completes (x y z : ℕ) (bytes : List ℕ) : Type 0 where
  pub after_whole : AllClosed x y z → IsUtf8 bytes
  pub after_one : x < 0xF0 → y < 0xC0 → 0xC0 ≤ z → IsUtf8 (z ∷ bytes)
  pub after_two : 0xE0 ≤ y → IsLeadPair y z → IsUtf8 (y ∷ z ∷ bytes)
  pub after_three : 0xF0 ≤ x → IsLeadPair x y → IsLater z → IsUtf8 (x ∷ y ∷ z ∷ bytes)

-- so they are where they keep the rule
completes : (x y z : ℕ) (bytes : List ℕ) → Follow x y z bytes → Completes x y z bytes
completes x y z [] closed = record {
  after_whole = λ _. IsUtf8-nil;
  after_one = λ _ _ first. absurd (omega arith);
  after_two = λ first _. absurd (omega arith);
  after_three = λ first _ _. absurd (omega arith);
}
completes x y z (b ∷ bytes) all =
    let rest = completes y z b bytes all.1 in record {
      after_whole = λ closed. elim ((may_follow-first x y z b closed).0 all.0) [
        | inl ascii ↦ IsUtf8-char b (b ∷ []) bytes (one_byte b ascii) (rest.after_whole (omega arith))
        | inr first ↦ rest.after_one (omega arith) closed.second first
      ];
      after_one = λ before last first.
          let pair = (may_follow-second x y z b before (omega arith) first).0 all.0 in elim (cases_lt z 0xE0) [
            | inl two ↦ IsUtf8-char _ (z ∷ b ∷ []) bytes (two_bytes z b _ pair two refl) (rest.after_whole (omega arith))
            | inr more ↦ rest.after_two more pair
          ];
      after_two = λ first pair.
          let third = ((may_follow-later x y z b (inr first)).0 all.0).1 in elim (cases_lt y 0xF0) [
            | inl three ↦
                let char = three_bytes y z b _ pair first three third refl in
                IsUtf8-char _ (y ∷ z ∷ b ∷ []) bytes char (rest.after_whole (omega arith))
            | inr four ↦ rest.after_three four pair third
          ];
      after_three = λ first pair third.
          let fourth = ((may_follow-later x y z b (inl first)).0 all.0).1 in
          let char = four_bytes x y z b _ pair first third fourth refl in
          IsUtf8-char _ (x ∷ y ∷ z ∷ b ∷ []) bytes char (rest.after_whole (omega arith));
    }

-- bytes that keep the rule after three that leave no char open are UTF-8
pub IsUtf8-Follow : (x y z : ℕ) (bytes : List ℕ) → AllClosed x y z → Follow x y z bytes → IsUtf8 bytes
IsUtf8-Follow x y z bytes closed all = (completes x y z bytes all).after_whole closed

-- The rule on four bytes by place: the bytes up to a place are UTF-8 where each may follow and no char goes on there.

-- whether a byte may follow, with its places counted up
follows-by_place : (bytes : List ℕ) (i : ℕ) → follows bytes i ≡ follows_in (after_zeros bytes) i
follows-by_place bytes i =
    let byte = λ (j : ℕ). get_or (after_zeros bytes) j 0 in
    let one : i + 1 ≡ suc i = omega arith in
    let two : i + 2 ≡ suc (suc i) = omega arith in
    let three : i + 3 ≡ suc (suc (suc i)) = omega arith in
    λ k. may_follow (byte i) (byte (one k)) (byte (two k)) (byte (three k))

-- and where no char goes on
is_open-by_place : (bytes : List ℕ) (i : ℕ) → IsFalse (is_open bytes i) ↔ ClosedIn (after_zeros bytes) i
is_open-by_place bytes i =
    let byte = λ (j : ℕ). get_or (after_zeros bytes) j 0 in
    let one : i + 1 ≡ suc i = omega arith in
    let two : i + 2 ≡ suc (suc i) = omega arith in
    let same : is_open bytes i ≡ leaves_open (byte i) (byte (suc i)) (byte (suc (suc i)))
    = λ k. leaves_open (byte i) (byte (one k)) (byte (two k)) in
    let tells = leaves_open-AllClosed (byte i) (byte (suc i)) (byte (suc (suc i))) in
    (λ shut. tells.0 (sym same ∙ shut), λ closed. same ∙ tells.1 closed)

-- bytes are UTF-8 where each may follow the three before it and no char goes on at the end
pub IsUtf8-follows : (bytes : List ℕ)
    → IsUtf8 bytes ↔ (AllFollow bytes 0 (length bytes) × IsFalse (is_open bytes (length bytes)))
IsUtf8-follows bytes =
    let places = Follow-by_place 0 0 0 bytes in
    let closed : AllClosed 0 0 0 = omega arith in (
      λ utf8.
          let all = places.0 (subst (Follow 0 0 0) utf8.1.1 (Follow-encodes utf8.0 utf8.1.0 0 0 0 closed)) in
          (λ i _ within. follows-by_place bytes i ∙ all.0 i within, (is_open-by_place bytes (length bytes)).1 all.1),
      λ parts. IsUtf8-Follow 0 0 0 bytes closed (places.1 (
        λ i within. sym (follows-by_place bytes i) ∙ parts.0 i (omega arith) within,
        (is_open-by_place bytes (length bytes)).0 parts.1,
      )),
    )

-- a byte read before the end of a front is read in the whole
read_in_front : (bytes : List ℕ) (n i : ℕ) → i < n + 3
    → get_or (after_zeros (take n bytes)) i 0 ≡ get_or (after_zeros bytes) i 0
read_in_front bytes n i before = get_or-take (suc (suc (suc n))) (after_zeros bytes) i 0 (omega arith)

-- so a byte of a front may follow where it may in the whole
follows-take : (bytes : List ℕ) (n i : ℕ) → i < n → follows (take n bytes) i ≡ follows bytes i
follows-take bytes n i before =
    let x = read_in_front bytes n i (omega arith) in
    let y = read_in_front bytes n (i + 1) (omega arith) in
    let z = read_in_front bytes n (i + 2) (omega arith) in
    let b = read_in_front bytes n (i + 3) (omega arith) in
    λ k. may_follow (x k) (y k) (z k) (b k)

-- and a char goes on at its end where one does in the whole
is_open-take : (bytes : List ℕ) (n : ℕ) → is_open (take n bytes) n ≡ is_open bytes n
is_open-take bytes n =
    let x = read_in_front bytes n n (omega arith) in
    let y = read_in_front bytes n (n + 1) (omega arith) in
    let z = read_in_front bytes n (n + 2) (omega arith) in
    λ k. leaves_open (x k) (y k) (z k)

-- a front is UTF-8 where each of its bytes may follow and no char goes on at its end
pub IsUtf8-take_follows : (bytes : List ℕ) (n : ℕ) → n ≤ length bytes
    → IsUtf8 (take n bytes) ↔ (AllFollow bytes 0 n × IsFalse (is_open bytes n))
IsUtf8-take_follows bytes n within =
    let front = take n bytes in
    let rule = subst (λ m. IsUtf8 front ↔ (AllFollow front 0 m × IsFalse (is_open front m))) (length-take-le n bytes within)
    (IsUtf8-follows front) in (
      λ utf8.
          let parts = rule.0 utf8 in
          (λ i from before. sym (follows-take bytes n i before) ∙ parts.0 i from before, sym (is_open-take bytes n) ∙ parts.1),
      λ parts. rule.1 (λ i from before. follows-take bytes n i before ∙ parts.0 i from before, is_open-take bytes n ∙ parts.1),
    )

-- Where bytes stop being UTF-8, by the rule on four bytes.

-- a char goes on where one of four bytes began three bytes before, one of three two before, or one just before
leaves_open-from : (x y z : ℕ) → (0xF0 ≤ x) ⊎ ((0xE0 ≤ y) ⊎ (0xC0 ≤ z)) → IsTrue (leaves_open x y z)
leaves_open-from x y z began = grind (arith, nat_tests)

-- no char goes on where a byte may follow that begins a char of several
closed_before_first : (x y z b : ℕ) → IsTrue (may_follow x y z b) → 0xC0 ≤ b → IsFalse (leaves_open x y z)
closed_before_first x y z b may first =
    let later = λ (began : (0xF0 ≤ x) ⊎ (0xE0 ≤ y)). (may_follow-later x y z b began).0 may in
    let second = λ (fourth : x < 0xF0) (third : y < 0xE0) (above : 0xC0 ≤ z).
    (may_follow-second x y z b fourth third above).0 may in
    (leaves_open-AllClosed x y z).1 (grind (arith, later, second))

-- the three bytes before the first are 0
zeros : (bytes : List ℕ) (j : ℕ) → j < 3 → get_or (after_zeros bytes) j 0 ≡ 0
zeros bytes zero below = refl
zeros bytes (suc zero) below = refl
zeros bytes (suc (suc zero)) below = refl
zeros bytes (suc (suc (suc j))) below = absurd (omega arith)

-- no char goes on at one place, and from there up to another one does
pub record IsOpenFrom (bytes : List ℕ) (at from : ℕ) : Type 0 where
  pub before : from ≤ at
  pub closed : IsFalse (is_open bytes from)
  pub goes_on : (m : ℕ) → from < m → m ≤ at → IsTrue (is_open bytes m)

-- byte b, at j after three bytes 0, begins a char that goes on at `at`
record Reaches (b j at : ℕ) : Type 0 where
  pub from : at ≤ j
  pub to : j < at + 3
  pub two : 0xC0 ≤ b
  pub three : j ≤ at + 1 → 0xE0 ≤ b
  pub four : j ≤ at → 0xF0 ≤ b

-- a char goes on at each place that its first byte reaches
goes_on_within : (bytes : List ℕ) (j m : ℕ) → Reaches (get_or (after_zeros bytes) j 0) j m → IsTrue (is_open bytes m)
goes_on_within bytes j m reaches =
    let all = after_zeros bytes in
    let at = λ (i : ℕ) (is : j ≡ i). ap (λ k. get_or all k 0) is in
    leaves_open-from (get_or all m 0) (get_or all (m + 1) 0) (get_or all (m + 2) 0) (elim (cases_lt m j) [
      | inr last ↦ inl (omega (arith, at m (omega arith)))
      | inl more ↦ elim (cases_lt (m + 1) j) [
        | inr second ↦ inr (inl (omega (arith, at (m + 1) (omega arith))))
        | inl third ↦ inr (inr (omega (arith, at (m + 2) (omega arith))))
      ]
    ])

module _ (bytes : List ℕ) (at : ℕ) (all : AllFollow bytes 0 at) where
  -- a char that goes on at `at` does from its first byte
  open_from_first : (j from : ℕ) → from ≡ j - 3 → Reaches (get_or (after_zeros bytes) j 0) j at → IsOpenFrom bytes at from
  open_from_first j from is reaches =
      let byte = λ (i : ℕ). get_or (after_zeros bytes) i 0 in
      let past : 3 ≤ j = elim (cases_lt j 3) [ inl low ↦ absurd (omega (arith, zeros bytes j low)) | inr high ↦ high ] in
      let place : j ≡ from + 3 = omega arith in
      record {
        before = omega arith;
        closed = closed_before_first (byte from) (byte (from + 1)) (byte (from + 2)) (byte (from + 3))
            (all from (omega arith) (omega arith)) (subst (λ i. 0xC0 ≤ byte i) place reaches.two);
        goes_on = λ m above below. goes_on_within bytes j m (omega arith);
      }

  -- where it begins is its `open_start`
  open_from_start : IsOpenFrom bytes at (open_start bytes at)
  open_from_start =
      let byte = λ (i : ℕ). get_or (after_zeros bytes) i 0 in
      let start = open_start bytes at in
      elim (cases_lt (byte (at + 2)) 0xC0) [
        | inr second ↦ open_from_first (at + 2) start (grind (arith, nat_tests)) (omega arith)
        | inl no_second ↦ elim (cases_lt (byte (at + 1)) 0xE0) [
          | inr third ↦ open_from_first (at + 1) start (grind (arith, nat_tests)) (omega arith)
          | inl no_third ↦ elim (cases_lt (byte at) 0xF0) [
            | inr fourth ↦ open_from_first at start (grind (arith, nat_tests)) (omega arith)
            | inl no_fourth ↦
                let is : at ≡ start = grind (arith, nat_tests) in
                subst (IsOpenFrom bytes at) is record {
                  before = omega arith;
                  closed = (leaves_open-AllClosed (byte at) (byte (at + 1)) (byte (at + 2))).1 (omega arith);
                  goes_on = λ m above below. absurd (omega arith);
                }
          ]
        ]
      ]

  -- if there is a fault at `at`, or the end, no longer front is UTF-8
  no_longer : (at < length bytes → ¬ (IsTrue (follows bytes at))) → (m : ℕ) → open_start bytes at < m → m ≤ length bytes
      → AllFollow bytes 0 m → IsFalse (is_open bytes m) → ⊥
  no_longer fault m above within every shut = elim (cases_lt at m) [
    | inl past ↦ fault (omega arith) (every at (omega arith) past)
    | inr up_to ↦ cc (shut, open_from_start.goes_on m above up_to)
  ]

-- the longest front that is UTF-8 ends where the char begins that goes on at the first fault, or else there
pub valid_len-at_fault : (bytes : List ℕ) (at : ℕ) → at ≤ length bytes → AllFollow bytes 0 at
    → (at < length bytes → ¬ (IsTrue (follows bytes at))) → utf8_valid_len bytes ≡ open_start bytes at
valid_len-at_fault bytes at within all fault =
    let start = open_start bytes at in
    let parts = open_from_start bytes at all in
    let before : start ≤ at = parts.before in
    let front = (IsUtf8-take_follows bytes start (omega arith)).1 (λ i from below. all i from (omega arith), parts.closed) in
    elim (cases_lt start (length bytes)) [
      | inl short ↦ utf8_valid_len-IsValidUpTo bytes start record {
        short = short;
        front = front;
        longest = λ m above utf8. elim (cases_lt m (length bytes)) [
          | inl some ↦
              let rule = (IsUtf8-take_follows bytes m (omega arith)).0 utf8 in
              no_longer bytes at all fault m above (omega arith) rule.0 rule.1
          | inr every ↦
              let rule = (IsUtf8-follows bytes).0 (subst IsUtf8 (take_all m bytes every) utf8) in
              no_longer bytes at all fault (length bytes) short (omega arith) rule.0 rule.1
        ];
      }
      | inr whole ↦
          let is : length bytes ≡ start = omega arith in
          utf8_valid_len-IsUtf8 bytes (subst IsUtf8 (take_all start bytes (omega arith)) front) ∙ is
    ]

-- the longest front up to a length is UTF-8
IsUtf8-valid_front : (bytes : List ℕ) (n : ℕ) → IsUtf8 (take (valid_len_up_to bytes n) bytes)
IsUtf8-valid_front bytes zero = IsUtf8-nil
IsUtf8-valid_front bytes (suc n) = elim (cases_Bool (is_utf8 (take (suc n) bytes))) [
  | inl passes ↦ rw passes (IsUtf8-from_is_utf8 (take (suc n) bytes) passes)
  | inr fails ↦ rw fails (IsUtf8-valid_front bytes n)
]

-- bytes are UTF-8 where the longest front that is UTF-8 is the whole
pub valid_len-whole : (bytes : List ℕ) → IsUtf8 bytes ↔ (utf8_valid_len bytes ≡ length bytes)
unfolding utf8_valid_len
valid_len-whole bytes = (
  utf8_valid_len-IsUtf8 bytes,
  λ whole. subst IsUtf8 (take_all (utf8_valid_len bytes) bytes (omega arith)) (IsUtf8-valid_front bytes (length bytes)),
)
