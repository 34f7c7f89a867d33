-- The schemes in two groups. In the line schemes ends are line breaks; in the char schemes every boundary above
-- 0 is an end.
use Rattle.std.specs.Prelude.{⊤}
use Rattle.str_indices.specs.Schemes.{Scheme, Chars, Utf16}

-- the scheme counts line breaks
abbrev pub IsLineScheme : Scheme → Type 0
IsLineScheme Chars = ⊥
IsLineScheme Utf16 = ⊥
IsLineScheme s = ⊤

-- the scheme counts chars, or their UTF-16 code units
abbrev pub IsCharacterScheme : Scheme → Type 0
IsCharacterScheme Chars = ⊤
IsCharacterScheme Utf16 = ⊤
IsCharacterScheme s = ⊥
