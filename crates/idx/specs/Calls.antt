-- The names of the calls, and their answers.
--     entry_named name table        what a table has under a name
--     counting_named name           the counting call that is built under a name
--     conversion_named name index   the conversion that is built under a name, with its index
--     answer_of call text           the number that answers a call for a text
use Rattle.std.specs.Prelude.{ℕ, List, [], ◌∷◌, Option, find, codes, bytes_eq}
use Rattle.std.specs.Option.{option_map}
use Rattle.str_indices.specs.Text.{Text}
use Rattle.str_indices.specs.Schemes.{count, from_byte_idx, to_byte_idx, surrogates}
use Rattle.str_indices.specs.declared.Scheme.TheVariants.{Chars, Utf16, Lf, Crlf, Lines}
use Rattle.idx.specs.declared.calls.Call.{Call}
use Rattle.idx.specs.declared.calls.Call.TheVariants.{Count, Surrogates, From, To}

-- the counting calls that are built, each with its name
abbrev pub counting_calls : List (List ℕ × Call)
counting_calls =
    (codes "chars.count", Count Chars)
    ∷ (codes "utf16.count", Count Utf16)
    ∷ (codes "utf16.count_surrogates", Surrogates)
    ∷ (codes "lines_lf.count_breaks", Count Lf)
    ∷ (codes "lines_crlf.count_breaks", Count Crlf)
    ∷ (codes "lines.count_breaks", Count Lines)
    ∷ []

-- the conversions that are built, each with its name, and to be given its index
abbrev pub conversions : List (List ℕ × (ℕ → Call))
conversions =
    (codes "chars.from_byte_idx", From Chars)
    ∷ (codes "chars.to_byte_idx", To Chars)
    ∷ (codes "utf16.from_byte_idx", From Utf16)
    ∷ (codes "utf16.to_byte_idx", To Utf16)
    ∷ (codes "lines_lf.from_byte_idx", From Lf)
    ∷ (codes "lines_lf.to_byte_idx", To Lf)
    ∷ (codes "lines_crlf.from_byte_idx", From Crlf)
    ∷ (codes "lines_crlf.to_byte_idx", To Crlf)
    ∷ (codes "lines.from_byte_idx", From Lines)
    ∷ (codes "lines.to_byte_idx", To Lines)
    ∷ []

-- the entry of the table under the name
abbrev pub entry_named : {A : Type 0} → List ℕ → List (List ℕ × A) → Option A
entry_named name table = option_map (λ row. row.1) (find (λ row. bytes_eq row.0 name) table)

-- the counting call that is built under the name
unfoldable pub counting_named : List ℕ → Option Call
counting_named name = entry_named name counting_calls

-- the conversion that is built under the name, with its index
unfoldable pub conversion_named : List ℕ → ℕ → Option Call
conversion_named name index = option_map (λ conversion. conversion index) (entry_named name conversions)

-- the number that answers the call for the text
abbrev pub answer_of : Call → Text → ℕ
answer_of (Count s) text = count s text
answer_of Surrogates text = surrogates text
answer_of (From s index) text = from_byte_idx s text index
answer_of (To s index) text = to_byte_idx s text index
