-- A text in parts, and what finding a part costs.
--     PartsState                  a text in parts, as contracts see it
--     IsSearched state            the bounds of both searches are at least 1, which is 2 to the power of no look
--     Searched bytes counts old new   at most `bytes` searches by a byte, and `counts` by a count
--     HasPartCounts l e text counts   the counts of a part of a text
--     IsPart text l e part        a part of the text, and what is counted before it
--     HasByte text byte part      a byte is in the part
--     HasLine text l line part    a line begins in the part
use Rattle.std.specs.Prelude.{ℕ, ◌≡◌, ◌+◌, ◌-◌, ◌*◌, ◌^◌, ◌<◌, ◌≤◌, ◌⊎◌, ◌↔◌, List, ◌++◌, IfSome, IsTrue, chars, sum_by}
use Rattle.str_indices.specs.Text.{Text, size}
use Rattle.str_indices.specs.Relations.{IsCrlfMiddle}
use Rattle.str_indices.specs.Schemes.{count, from_byte_idx, weighed}
use Rattle.str_indices.specs.declared.Scheme.TheVariants.{Chars, Lf}
use Rattle.positions.specs.Encodings.{units_of}
use Rattle.positions.specs.declared.encodings.Encoding.{Encoding}
use Rattle.positions.specs.Lines.{scheme_of}
use Rattle.positions.specs.declared.line_type.LineType.{LineType}
use Rattle.positions.specs.declared.parts.PartCounts.{PartCounts}
use Rattle.positions.specs.declared.parts.Part.{Part}

-- a text in parts, as contracts see it: the text, and the pieces that it is kept in; the part of `byte` starts at or before
-- `latest_start byte`; a search by a byte chooses among at most `byte_choices`, one by a count among at most `count_choices`,
-- and each look halves them; the units before a part are found by `unit_searches` searches by a byte, 0 where the part has
-- them; and how many looks and reads there were
pub record PartsState : Type 0 where
  pub text : Text
  pub pieces : List Text
  pub latest_start : ℕ → ℕ
  pub byte_choices : ℕ
  pub count_choices : ℕ
  pub unit_searches : ℕ
  pub looks : ℕ
  pub reads : ℕ

-- the bounds of both searches are at least 1, which is 2 to the power of no look
pub record IsSearched (state : PartsState) : Type 0 where
  pub byte_choices : 0 < state.byte_choices
  pub count_choices : 0 < state.count_choices

-- at most `bytes` searches by a byte and `counts` by a count, each of which reads one part; the text and its pieces
-- stay
pub record Searched (bytes counts : ℕ) (old new : PartsState) : Type 0 where
  pub text : new.text ≡ old.text
  pub pieces : new.pieces ≡ old.pieces
  pub latest_start : new.latest_start ≡ old.latest_start
  pub byte_choices : new.byte_choices ≡ old.byte_choices
  pub count_choices : new.count_choices ≡ old.count_choices
  pub unit_searches : new.unit_searches ≡ old.unit_searches
  pub looks : 2 ^ (new.looks - old.looks) ≤ (old.byte_choices ^ bytes) * (old.count_choices ^ counts)
  pub looks_kept : old.looks ≤ new.looks
  pub reads : new.reads ≤ old.reads + bytes + counts
  pub reads_kept : old.reads ≤ new.reads

-- the counts of a part of a text: its chars, units, LFs and line breaks
pub record HasPartCounts (l : LineType) (e : Encoding) (text : Text) (counts : PartCounts) : Type 0 where
  pub chars : counts.chars ≡ count Chars text
  pub units : counts.units ≡ sum_by (units_of e) text
  pub lf : counts.lf ≡ count Lf text
  pub breaks : counts.breaks ≡ count (scheme_of l) text

-- the text before the part, the part, and the text after it; and the counts of the text before the part and in it
pub record IsPart (text : Text) (l : LineType) (e : Encoding) (part : Part) : Type 0 where
  pub front : Text
  pub back : Text
  pub split : text ≡ front ++ (chars part.text.now ++ back)
  pub start : size front ≡ part.start
  pub lines : part.lines ≡ from_byte_idx (scheme_of l) text part.start
  pub units : IfSome part.units (λ n. n ≡ weighed (units_of e) text part.start)
  pub in_crlf : IsTrue part.in_crlf ↔ IsCrlfMiddle text part.start
  pub counts : IfSome part.counts (HasPartCounts l e (chars part.text.now))

-- the byte is not before the part, and not after it unless the text ends with the part
pub record HasByte (text : Text) (byte : ℕ) (part : Part) : Type 0 where
  pub after : part.start ≤ byte
  pub before : (byte < part.start + size (chars part.text.now)) ⊎ (part.start + size (chars part.text.now) ≡ size text)

-- before the part the line has not begun, or the part is the first; at the part's end it has, or the text ends there
pub record HasLine (text : Text) (l : LineType) (line : ℕ) (part : Part) : Type 0 where
  pub after : (part.lines < line) ⊎ (part.start ≡ 0)
  pub before : (line ≤ from_byte_idx (scheme_of l) text (part.start + size (chars part.text.now)))
      ⊎ (part.start + size (chars part.text.now) ≡ size text)
