use Rattle.idx.proofs.Common.{rules, ◌≡◌, ◌<◌, ◌^◌, ℕ, List, true, length, Bool, false, arith, ◌∙◌, Result, Ok, Err, Option, Some, None, OkIff, MatchBool, IsCharBoundary, index_of}
use Rattle.std.specs.Result.{result_ok}
use Rattle.std.specs.Str.{all_ascii_digits}
use Rattle.std.specs.Str.Parse.{digits_value, ParsesUnsigned}
use Rattle.std.proofs.lemmas.Str.Parse.{parse_plain, numerals_by_value, tells_all_ascii_digits}
use Rattle.std.proofs.lemmas.Str.Pattern.{starts_char}
use Rattle.std.proofs.lemmas.Bool.Decides.{not_from_Decides}
use Rattle.std.specs.Str.Pattern.{FindsCharPrefix}
use Rattle.idx.proofs.requests.parse_index.Goals as goal

-- a parse that takes digits alone, up to the greatest `usize`, reads an index
index_of-numeral : {E : Type 0} (word : List ℕ) (parsed : Result ℕ E)
    → OkIff parsed ((all_ascii_digits word ≡ true) × (0 < length word) × (digits_value 10 word < 2 ^ 64))
    (digits_value 10 word)
    → result_ok parsed ≡ index_of word
unfolding index_of
index_of-numeral word (Ok n) reads = grind (arith, reads)
index_of-numeral word (Err error) refuses = grind (arith, refuses)

-- so does a parse of a word that does not begin with a plus sign
index_of-parsed : {E : Type 0} {answer : Option ℕ} (word : List ℕ) (parsed : Result ℕ E) (plus : Bool)
    → answer ≡ result_ok parsed → ParsesUnsigned 64 10 word parsed → plus ≡ false
    → MatchBool plus ((n : ℕ) × FindsCharPrefix 43 word (Some n) × IsCharBoundary word n) (FindsCharPrefix 43 word None)
    → answer ≡ index_of word
index_of-parsed word parsed plus answered parses none found =
    let unsigned = not_from_Decides _ (starts_char 43 word plus found (omega arith) (omega arith)) none in
    answered ∙ index_of-numeral word parsed
    (parse_plain (numerals_by_value _ tells_all_ascii_digits) 64 word parsed parses unsigned)

pub returns : goal.returns
returns c = search (rules, index_of-parsed)
