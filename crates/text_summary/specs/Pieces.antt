-- A text in pieces, as the list of the pieces' texts.
--     joined texts              the chars of all pieces in order
--     joined_size texts         how many bytes they take
--     piece_at texts i          piece i
use Rattle.std.specs.Prelude.{ℕ, List, [], ◌∷◌, ◌++◌, slice_index_or}
use Rattle.str_indices.specs.Text.{Text, size}

-- the chars of all pieces in order
abbrev pub joined : List Text → Text
joined [] = []
joined (text ∷ texts) = text ++ joined texts

-- how many bytes they take
abbrev pub joined_size : List Text → ℕ
joined_size texts = size (joined texts)

-- piece i, counted from 0
abbrev pub piece_at : List Text → ℕ → Text
piece_at texts i = slice_index_or texts i []
