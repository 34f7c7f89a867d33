-- A number for each scheme: `number_of counts s` is the number of a scheme.
use Rattle.std.specs.Prelude.{ℕ, slice_index_or}
use Rattle.str_indices.specs.Schemes.{Scheme, place_of}
use Rattle.str_indices.specs.declared.by_scheme.Counts.{Counts}

-- the number of a scheme
abbrev pub number_of : Counts → Scheme → ℕ
number_of counts s = slice_index_or counts.numbers (place_of s) 0
