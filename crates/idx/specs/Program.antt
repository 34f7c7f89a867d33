-- The reads and writes of a run.
use Rattle.std.specs.Prelude.{◌≡◌, ℕ, List, [], ◌∷◌, ◌++◌, Option, Some, IsSome, take, chars, IsUtf8}
use Rattle.std.specs.Fmt.{decimal}
use Rattle.std.specs.Io.KnownBytes.{Consumes, Appends, IsAtEnd}
use Rattle.str_indices.specs.Text.{Text, line_feed}
use Rattle.idx.specs.declared.calls.Call.{Call}
use Rattle.idx.specs.declared.requests.Request.{Request}
use Rattle.idx.specs.Calls.{answer_of}
use Rattle.idx.specs.Requests.{request_of}

-- a number's decimal digits, and a line feed
abbrev pub decimal_line : ℕ → List ℕ
decimal_line n = decimal n ++ line_feed ∷ []

-- the bytes that answer the call for the text, whichever kernel is to answer it
abbrev pub program_text : Call → Text → List ℕ
program_text call text = decimal_line (answer_of call text)

-- the bytes are all that the reader had left, and it is at its end
pub record IsWholeInput (old new : Option (List ℕ)) (bytes : List ℕ) : Type 0 where
  pub consumed : Consumes old new bytes
  pub ended : IsAtEnd new

-- known bytes grow by a beginning of `bytes`
abbrev pub AppendsBeginning : Option (List ℕ) → Option (List ℕ) → List ℕ → Type 0
AppendsBeginning old new bytes = (n : ℕ) × Appends old new (take n bytes)

-- the words are a request, the whole input was read and is UTF-8, and `Written` holds of the bytes that answer them
pub record Answers (words : List (List ℕ)) (old new : Option (List ℕ)) (Written : List ℕ → Type 0) : Type 0 where
  pub request : Request
  pub asked : request_of words ≡ Some request
  pub bytes : List ℕ
  pub whole : IsWholeInput old new bytes
  pub utf8 : IsUtf8 bytes
  pub written : Written (program_text request.call (chars bytes))

-- the words are a request, and the whole input was read and is not UTF-8
pub record IsRefusedInput (words : List (List ℕ)) (old new : Option (List ℕ)) : Type 0 where
  pub asked : IsSome (request_of words)
  pub bytes : List ℕ
  pub whole : IsWholeInput old new bytes
  pub not_utf8 : ¬ IsUtf8 bytes
