-- The words that ask for a call, and for a run of its kernel.
--     texts words             the bytes of each word
--     index_of word           the number that a word writes, if it is an index
--     call_of name index      the call that a name and the word for its index stand for
--     chunk_type_named name   the chunk type that has a name
--     kernel_of chunk lead    the run of a kernel that the words for it stand for
--     request_of words        the request that the words make, if they are one
use Rattle.std.specs.Prelude.{ℕ, Bool, ◌&&◌, if◌then◌else◌, nat_lt, nat_le, List, [], ◌∷◌, Option, Some, None, length, map, codes, bytes_eq}
use Rattle.std.specs.Option.{option_map, option_and_then}
use Rattle.std.specs.Str.{all_ascii_digits}
use Rattle.std.specs.Str.Parse.{digits_value}
use denote.Ref.{Bor}
use Rattle.idx.specs.declared.calls.Call.{Call}
use Rattle.idx.specs.declared.kernels.ChunkType.{ChunkType}
use Rattle.idx.specs.declared.kernels.ChunkType.TheVariants.{Plain, Word, Lanes, Wide}
use Rattle.idx.specs.declared.kernels.Kernel.{Kernel}
use Rattle.idx.specs.declared.requests.Request.{Request}
use Rattle.idx.specs.Calls.{entry_named, counting_named, conversion_named}

-- the bytes of each word
abbrev pub texts : List (Bor (List ℕ)) → List (List ℕ)
texts words = map (λ word. word.now) words

-- the greatest index, which is the greatest `usize`
abbrev pub greatest_index : ℕ
greatest_index = 18446744073709551615

-- whether the word is one or more digits 0 to 9 that write a number of at most the greatest index
abbrev pub is_index : List ℕ → Bool
is_index word = nat_lt 0 (length word) && all_ascii_digits word && nat_le (digits_value 10 word) greatest_index

-- the number that the word writes in decimal, if it is an index
unfoldable pub index_of : List ℕ → Option ℕ
index_of word = if is_index word then Some (digits_value 10 word) else None

-- the call of the name: a conversion with its index, or for a hyphen a counting call, which has none
abbrev pub call_of : List ℕ → List ℕ → Option Call
call_of name index =
    if bytes_eq index (codes "-") then counting_named name else option_and_then (conversion_named name) (index_of index)

-- the chunk types, each with its name
abbrev pub chunk_types : List (List ℕ × ChunkType)
chunk_types = (codes "plain", Plain) ∷ (codes "word", Word) ∷ (codes "lanes", Lanes) ∷ (codes "wide", Wide) ∷ []

-- the chunk type that has the name
unfoldable pub chunk_type_named : List ℕ → Option ChunkType
chunk_type_named name = entry_named name chunk_types

-- the run of a kernel over the chunk type of a name, with a number of leading bytes
abbrev pub kernel_of : List ℕ → List ℕ → Option Kernel
kernel_of chunk lead = option_and_then
    (λ type. option_map (λ number. record { chunk = type; lead = number }) (index_of lead))
    (chunk_type_named chunk)

-- a call, and the run of its kernel that is asked for, if one is
abbrev pub asked : Call → Option Kernel → Request
asked call kernel = record { call = call; kernel = kernel }

-- a call by its kernel: what four words ask for
unfoldable pub kernel_request : List ℕ → List ℕ → List ℕ → List ℕ → Option Request
kernel_request name index chunk lead =
    option_and_then (λ call. option_map (λ kernel. asked call (Some kernel)) (kernel_of chunk lead)) (call_of name index)

-- the request that the words make: a counting call alone, a conversion and its index, or a call by its kernel
unfoldable pub request_of : List (List ℕ) → Option Request
request_of [] = None
request_of (name ∷ []) = option_map (λ call. asked call None) (counting_named name)
request_of (name ∷ index ∷ []) =
    option_map (λ call. asked call None) (option_and_then (conversion_named name) (index_of index))
request_of (name ∷ index ∷ chunk ∷ []) = None
request_of (name ∷ index ∷ chunk ∷ lead ∷ []) = kernel_request name index chunk lead
request_of (name ∷ index ∷ chunk ∷ lead ∷ more ∷ rest) = None
