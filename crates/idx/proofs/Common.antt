-- The names that the proofs here cite most, passed on from one place. Declares nothing.
pub use Rattle.std.proofs.Common.{◌≡◌, ℕ, zero, suc, ◌+◌, ◌-◌, ◌/◌, ◌%◌, ◌^◌, ◌<◌, ◌≤◌, Bool, true, false, ◌≢◌, List, [], ◌∷◌, ◌++◌, length, take, drop, OkIff, slice_set, Some, None, Ok, Err, vec_len, decimal, MatchBool, Option, Result, option_map, find, bytes_eq, IsCharBoundary, sym, refl, ap, ◌∙◌, subst, append_assoc, arith, length-drop, length-set, drop_of_length-le, take_all, take-add, Bor, rules}
pub use Rattle.std.specs.Io.KnownBytes.{Appends, Consumes}
pub use Rattle.idx.specs.Calls.{counting_calls, conversions, entry_named}
pub use Rattle.idx.specs.Requests.{chunk_types}
unfoldable pub use Rattle.idx.specs.Calls.{counting_named, conversion_named}
unfoldable pub use Rattle.idx.specs.Requests.{texts, index_of, chunk_type_named, request_of}
