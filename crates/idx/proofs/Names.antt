-- Names that no row of a table has.
use Rattle.idx.proofs.Common.{◌≡◌, ◌≢◌, ℕ, List, [], ◌∷◌, false, None, refl, ap, arith, bytes_eq, find, option_map, entry_named}
use Rattle.std.specs.Prelude.{⊤}
use Rattle.std.proofs.lemmas.Slice.Eq.{bytes_eq-Decides}

-- no row of the table has the name
abbrev pub NamesNoRow : {A : Type 0} → List ℕ → List (List ℕ × A) → Type 0
NamesNoRow name [] = ⊤
NamesNoRow name (row ∷ rows) = (name ≢ row.0) × NamesNoRow name rows

-- the test of a row's name fails for any other name
bytes_eq-differ : (row name : List ℕ) → name ≢ row → bytes_eq row name ≡ false
bytes_eq-differ row name other = grind (arith, bytes_eq-Decides row name)

-- no row is found under a name that no row has
find-no_row : {A : Type 0} (name : List ℕ) (table : List (List ℕ × A)) → NamesNoRow name table
    → find (λ row. bytes_eq row.0 name) table ≡ None
find-no_row name [] other = refl
find-no_row name (row ∷ rows) other = rw (bytes_eq-differ row.0 name other.0) (find-no_row name rows other.1)

-- a table has nothing under a name that no row has
pub entry_named-no_row : {A : Type 0} (name : List ℕ) (table : List (List ℕ × A)) → NamesNoRow name table
    → entry_named name table ≡ None
entry_named-no_row name table other = ap (option_map (λ row. row.1)) (find-no_row name table other)
