-- The names that the contracts here cite, passed on from one place. Declares nothing.
pub use Rattle.byte_chunk.specs.Lanes.{is_between, is_byte}
pub use Rattle.str_indices.specs.Breaks.{is_crlf, is_separator, narrow_break_at, next_line_at, separator_at, break_at, breaks_counted_before, ends_separator}
pub use Rattle.str_indices.specs.Bytes.{passing_before, is_leading, flag, is_carriage_return, is_middle, mark, byte_before, starts_break, break_start, breaks_before, is_line_feed, sum_below, units_before, begins_four_bytes, is_trailing, units_begun}
pub use Rattle.str_indices.specs.Joins.{joins_crlf, seam_loss}
pub use Rattle.str_indices.specs.Lanes.{HasLanes, IsChunk, FitsIn, IsSteady, AddsUp, CountsUpTo, HasLaterLanes, IsHandedOn, CountsOn, SearchesOn}
pub use Rattle.str_indices.specs.Reads.{IsCountingPass, IsFindingPass, Reads, leading_bytes, pass_turns}
pub use Rattle.str_indices.specs.Relations.{IsBoundary, IsEnd, IsGreatestWithin, IsLongestCut}
pub use Rattle.str_indices.specs.SchemeGroups.{IsLineScheme, IsCharacterScheme}
pub use Rattle.str_indices.specs.Schemes.{count, from_byte_idx, to_byte_idx, Chars, Scheme, Utf16, Lf, Crlf, Lines, ends, surrogates}
pub use Rattle.str_indices.specs.Starts.{IsGreatestBoundary, IsGreatestEnd, IsSecondUnit}
pub use Rattle.str_indices.specs.Text.{cut, size}
pub use Rattle.str_indices.specs.TraitLaws.{break_at-le, break_start-le, mark-le, units_begun-le}
pub use Rattle.str_indices.specs.Utf8.{AllFollow, AreAscii, AreBefore, AreBytes, AreFour, EndsAt, IsFault, IsWindow, after_zeros, follows, is_open, may_follow, open_start}
