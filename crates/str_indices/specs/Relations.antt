-- Boundaries, ends, cuts and the conversion from UTF-16, as relations that compute nothing. The contract of
-- `laws::boundaries` ties three computations to them: the members of `ends s text` are the p with `IsEnd s text p`,
-- `cut text end` is the front of `IsLongestCut`, and `to_byte_idx Utf16 text units` is the p of `IsGreatestWithin`.
--     IsBoundary text p                p is the size of a beginning of the text
--     IsCrlfMiddle text p              p is a boundary between CR and LF
--     IsEnd s text p                   p is an end of the text in the scheme
--     IsGreatestWeighed w text k p     p is the greatest boundary before which the chars weigh at most k
--     IsGreatestWithin text units p    p is the greatest boundary with at most `units` UTF-16 code units before it
--     IsLongestCut text end front      front is the longest beginning of the text that takes at most `end` bytes
use Rattle.std.specs.Prelude.{ℕ, ◌≡◌, ◌<◌, ◌≤◌, List, [], ◌∷◌, ◌++◌, IsTrue, sum_by, length}
use Rattle.std.specs.Char.{char_set_contains}
use Rattle.str_indices.specs.Text.{Text, size, weight, line_feed, carriage_return}
use Rattle.str_indices.specs.Schemes.{Scheme, Chars, Utf16, break_characters}

-- the text is front and then back, and front takes p bytes
pub record IsBoundary (text : Text) (p : ℕ) : Type 0 where
  pub front : Text
  pub back : Text
  pub split : text ≡ front ++ back
  pub place : size front ≡ p

-- p is a boundary, and c is the char before it
pub record IsEndOf (text : Text) (c p : ℕ) : Type 0 where
  pub front : Text
  pub back : Text
  pub split : text ≡ (front ++ c ∷ []) ++ back
  pub place : size (front ++ c ∷ []) ≡ p

-- p is a boundary, CR is the char before it, and LF the one after it
pub record IsCrlfMiddle (text : Text) (p : ℕ) : Type 0 where
  pub front : Text
  pub back : Text
  pub split : text ≡ (front ++ carriage_return ∷ []) ++ line_feed ∷ back
  pub place : size (front ++ carriage_return ∷ []) ≡ p

-- a char of the set ends at p, and p is no CRLF middle
pub record IsBreakEnd (set : List ℕ) (text : Text) (p : ℕ) : Type 0 where
  pub character : ℕ
  pub end_of : IsEndOf text character p
  pub in_set : IsTrue (char_set_contains set character)
  pub not_middle : ¬ (IsCrlfMiddle text p)

-- p is a boundary above 0
pub record IsCharacterEnd (text : Text) (p : ℕ) : Type 0 where
  pub boundary : IsBoundary text p
  pub above : 0 < p

-- p is an end of the text in the scheme
abbrev pub IsEnd : Scheme → Text → ℕ → Type 0
IsEnd Chars text p = IsCharacterEnd text p
IsEnd Utf16 text p = IsCharacterEnd text p
IsEnd s text p = IsBreakEnd (break_characters s) text p

-- p is a boundary before which the chars weigh at most k, each by w, and no greater boundary is one
pub record IsGreatestWeighed (w : ℕ → ℕ) (text : Text) (k p : ℕ) : Type 0 where
  pub boundary : IsBoundary text p
  pub fits : sum_by w boundary.front ≤ k
  pub greatest : (q : ℕ) (other : IsBoundary text q) → sum_by w other.front ≤ k → q ≤ p

-- p is a boundary before which the text takes at most `units` UTF-16 code units, and no greater boundary is one
abbrev pub IsGreatestWithin : Text → ℕ → ℕ → Type 0
IsGreatestWithin text units p = IsGreatestWeighed weight text units p

-- front begins the text and takes at most `end` bytes, and no other beginning that does is longer
pub record IsLongestCut (text : Text) (end : ℕ) (front : Text) : Type 0 where
  pub back : Text
  pub split : text ≡ front ++ back
  pub fits : size front ≤ end
  pub longest : (other rest : Text) → text ≡ other ++ rest → size other ≤ end → length other ≤ length front
