-- The names that the proofs here cite most, passed on from one place. Declares nothing.
pub use Rattle.std.proofs.Common.{◌≡◌, ℕ, zero, suc, ◌+◌, ◌-◌, ◌*◌, ◌/◌, ◌%◌, ◌^◌, ◌<◌, ◌≤◌, min, max, Bool, true, false, cond, not, ◌&&◌, ◌||◌, ◌≢◌, ◌⊎◌, ◌↔◌, List, [], ◌∷◌, ◌++◌, map, reverse, length, get_or, take, drop, replicate, nat_lt, nat_le, ◌==◌, slice_index, slice_set, bit_and, IsUtf8, fold, All, Contains, sum_by, sum, count_by, filter, chars, IsCharBoundary, sym, refl, ap, ◌∙◌, subst, ap₂, inl, inr, append_assoc, append-nil, add-zero, add-suc, mul-le-mul_right, div-lt_iff_lt-mul, add-mul, add_comm, le_antisymm, div-le_self, div-mul-le_self, add-one, arith, length-append, length-drop, length-set, take-append-drop, drop_of_length-le, length-take, length-take-le, get_or-drop, take_all, drop-cons, get_or-set_other, get_or-take, take-suc, get_or-set_same, take_at, get_or-append-add, ltb-false, ltb-true, le-ltb, lt-ltb, ne_eqb, eqb-true, le-leb, leb-true}
pub use Rattle.std.proofs.Math.Utf8.{scalar, scalars, encodes, scalar_cases}
unfoldable pub use Rattle.std.proofs.Math.Utf8.{encode}
pub use Rattle.std.proofs.lemmas.Bool.{and_from, not_from_false, cond_both, false_from_ne_true, agree_below_at, both_ways, not-true, lt-leb, cases_lt, and_parts, cases_Bool}
pub use Rattle.std.proofs.lemmas.Bool.Decides.{nat_tests}
pub use Rattle.std.proofs.lemmas.List.{take_more, take_more_set, get_or_past, take-replicate, drop-replicate, get_or-map, append_cancel_left, reverse-append, length-map, length-replicate, get_or-replicate, get_or_append_left, drop-append-le, get_or_default, take_rest}
pub use Rattle.std.proofs.lemmas.List.Elements.{All-nil, All-cons, All-head, All-tail, All-map, All-contains, Contains-get_or, Contains-append_right, All-filter, filter_passes}
pub use Rattle.std.proofs.lemmas.List.Folds.{sum_by-replicate}
pub use Rattle.std.proofs.lemmas.List.Sums.{sum_by-cons, sum_by-append, count_by-le-length, sum_by-le-sum_by}
pub use Rattle.std.proofs.lemmas.Nat.{le-div, and_assoc, and_comm, and_mask}
pub use Rattle.std.proofs.lemmas.Simd.{Each1-from_get_or, get_or-zip2, zip2_splat, zip2_splat_left, zip2_of_maps, Each1-zip2, Each1-replicate, Each1-weaker, Each2-of, length-zip2, map-map}
pub use Rattle.std.proofs.lemmas.Str.{IsUtf8-take, length-encode, len_utf8_bounds, IsCharBoundary-after_ascii, encodes-chars, scalars-chars, chars-append, chars-nil, encodes-append, encode_ascii}
pub use Rattle.std.specs.Char.{len_utf8, char_set_contains}
pub use Rattle.std.specs.List.Sorted.{IsStrictlyIncreasing}
pub use Rattle.std.specs.Simd.Lanes.{zip2, Each2, Each1}
pub use Rattle.byte_chunk.specs.Lanes.{is_byte, is_between}
pub use Rattle.byte_chunk.specs.ProbeState.{ProbeState}
pub use Rattle.str_indices.specs.Breaks.{is_crlf, ends_separator, is_separator, is_break, narrow_break_at, next_line_at, separator_at, break_at, breaks_counted_before}
pub use Rattle.str_indices.specs.Bytes.{sum_below, flag, mark, passing_before, is_trailing, is_leading, begins_four_bytes, units_begun, units_before, is_line_feed, is_carriage_return, byte_before, starts_break, break_start, breaks_before, is_middle}
pub use Rattle.str_indices.specs.Joins.{ends_in_return, starts_with_feed, joins_crlf, seam_loss}
pub use Rattle.str_indices.specs.Lanes.{HasLanes, HasLaterLanes, IsChunk, AddsUp, CountsUpTo, FitsIn, IsSteady, CountsOn, SearchesOn}
pub use Rattle.str_indices.specs.Reads.{Reads, leading_bytes, pass_turns, pass_loads}
pub use Rattle.str_indices.specs.Relations.{IsBoundary, IsEndOf, IsCrlfMiddle, IsBreakEnd, IsCharacterEnd, IsEnd, IsGreatestWeighed, IsGreatestWithin, IsLongestCut}
pub use Rattle.str_indices.specs.SchemeGroups.{IsLineScheme, IsCharacterScheme}
pub use Rattle.str_indices.specs.Schemes.{break_characters, is_break_end, is_end, ends, end_count, ends_up_to, end_at, boundaries, weighed, boundary_weighed, units, boundary_at_units, count, from_byte_idx, to_byte_idx, surrogates, Scheme, Chars, Utf16, Lf, Crlf, Lines}
pub use Rattle.str_indices.specs.Starts.{IsGreatestBoundary, IsGreatestEnd, IsSecondUnit, IsInside}
pub use Rattle.str_indices.specs.Text.{size, Placed, placed, line_feed, carriage_return, is_crlf_middle, cut, weight}
pub use Rattle.str_indices.specs.TraitLaws.{flag-le, mark-le, break_start-le, break_at-le}
pub use Rattle.str_indices.specs.Utf8.{AllFollow, AreBefore, AreBytes, AreFour, EndsAt, IsFault, IsWindow, after_zeros, follows, is_open, leaves_open, may_follow, open_start}
