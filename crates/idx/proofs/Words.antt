-- Lists of words that are no request, by how many they are.
use Rattle.idx.proofs.Common.{◌≡◌, ◌<◌, ◌≤◌, ℕ, List, [], ◌∷◌, length, None, arith, refl, Bor, request_of, texts}

-- three words are no request
pub three_words : (words : List (Bor (List ℕ))) → 3 ≤ length words → length words < 4 → None ≡ request_of (texts words)
unfolding request_of
three_words [] many few = absurd (omega arith)
three_words (name ∷ []) many few = absurd (omega arith)
three_words (name ∷ index ∷ []) many few = absurd (omega arith)
three_words (name ∷ index ∷ chunk ∷ []) many few = refl
three_words (name ∷ index ∷ chunk ∷ lead ∷ rest) many few = absurd (omega arith)

-- and neither are five or more
pub five_words : (words : List (Bor (List ℕ))) → 5 ≤ length words → None ≡ request_of (texts words)
unfolding request_of
five_words [] many = absurd (omega arith)
five_words (name ∷ []) many = absurd (omega arith)
five_words (name ∷ index ∷ []) many = absurd (omega arith)
five_words (name ∷ index ∷ chunk ∷ []) many = absurd (omega arith)
five_words (name ∷ index ∷ chunk ∷ lead ∷ []) many = absurd (omega arith)
five_words (name ∷ index ∷ chunk ∷ lead ∷ more ∷ rest) many = refl
