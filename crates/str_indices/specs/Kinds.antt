-- Kinds of bytes that a text lacks.
--     HasAsciiAlone bytes    each byte is ASCII
--     HasNoPair bytes        no byte begins a char of four bytes, which takes two UTF-16 code units
--     HasNoVtFf bytes        no byte is VT or FF
--     HasNoReturn bytes      no byte is VT, FF or CR
--     HasNoWideLead bytes    no byte begins U+0085, U+2028 or U+2029, nor another char of the same first byte
--     IsWidePair b next      the two bytes of U+0085, or the last two of U+2028 or U+2029
--     HasNoWidePair bytes    no two bytes side by side are such a pair
--     AreKinds kinds bytes   the kinds say of the bytes what their fields mean
use Rattle.std.specs.Prelude.{ℕ, ◌≡◌, ◌+◌, ◌<◌, ◌≢◌, ◌⊎◌, ◌↔◌, List, All, IsTrue, length, slice_index}
use Rattle.str_indices.specs.declared.kinds.Kinds.{Kinds}

-- each byte is ASCII
abbrev pub HasAsciiAlone : List ℕ → Type 0
HasAsciiAlone bytes = All (λ b. b < 0x80) bytes

-- no byte begins a char of four bytes, which takes two UTF-16 code units
abbrev pub HasNoPair : List ℕ → Type 0
HasNoPair bytes = All (λ b. b < 0xF0) bytes

-- no byte is VT or FF
abbrev pub HasNoVtFf : List ℕ → Type 0
HasNoVtFf bytes = All (λ b. (b < 0x0B) ⊎ (0x0C < b)) bytes

-- no byte is VT, FF or CR
abbrev pub HasNoReturn : List ℕ → Type 0
HasNoReturn bytes = All (λ b. (b < 0x0B) ⊎ (0x0D < b)) bytes

-- no byte begins U+0085, U+2028 or U+2029, nor another char of the same first byte
abbrev pub HasNoWideLead : List ℕ → Type 0
HasNoWideLead bytes = All (λ b. (b ≢ 0xC2) × (b ≢ 0xE2)) bytes

-- the two bytes of U+0085, or the last two of U+2028 or U+2029
abbrev pub IsWidePair : ℕ → ℕ → Type 0
IsWidePair b next = ((b ≡ 0xC2) × (next ≡ 0x85)) ⊎ ((b ≡ 0x80) × ((next ≡ 0xA8) ⊎ (next ≡ 0xA9)))

-- no two bytes side by side are such a pair
abbrev pub HasNoWidePair : List ℕ → Type 0
HasNoWidePair bytes = (k : ℕ) → 1 + k < length bytes → ¬ (IsWidePair (slice_index bytes k) (slice_index bytes (1 + k)))

-- the kinds say of the bytes what their fields mean
pub record AreKinds (kinds : Kinds) (bytes : List ℕ) : Type 0 where
  pub is_ascii : IsTrue kinds.is_ascii ↔ HasAsciiAlone bytes
  pub no_pair : IsTrue kinds.no_pair ↔ HasNoPair bytes
  pub no_vt_ff : IsTrue kinds.no_vt_ff ↔ HasNoVtFf bytes
  pub no_return : IsTrue kinds.no_return ↔ HasNoReturn bytes
  pub has_wide_lead : IsTrue kinds.has_wide_lead → ¬ (HasNoWideLead bytes)
