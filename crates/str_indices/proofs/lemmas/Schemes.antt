-- What each scheme counts, by the bytes that its module looks for.
use Rattle.str_indices.proofs.lemmas.Common.{◌≡◌, ℕ, ◌+◌, ◌<◌, ◌≤◌, List, length, get_or, refl, arith, sym, ◌∙◌, ap, add-one, chars, IsUtf8, size, cut, count, ends, ends_up_to, from_byte_idx, to_byte_idx, Chars, IsBoundary, passing_before, is_leading, encodes, mark-le, zero, suc, ◌-◌, inl, inr, true, false, ◌++◌, add-zero, add-suc, bit_and, ◌==◌, nat_le, sum_by, len_utf8, encode, scalar, cases_Bool, false_from_ne_true, agree_below_at, lt-leb, eqb-true, sum_by-le-sum_by, and_assoc, length-encode, nat_tests, weight, Utf16, surrogates, boundary_at_units, flag, mark, is_trailing, begins_four_bytes, units_begun, units_before, byte_before, IsSteady, ◌∷◌, min, scalars, and_from, is_line_feed, Lf, Bool, cond, ◌&&◌, ◌||◌, not, char_set_contains, Crlf, break_characters, sum_below, is_carriage_return, starts_break, break_start, breaks_before, is_middle, break_start-le, take, Lines, is_break, break_at, breaks_counted_before}
use Rattle.str_indices.proofs.lemmas.Texts.{member_adjunction, select-rank-le, count_characters, cut-cut, end_count-cut, ends_increase_within, end_at_reached, zero_or_end, size-append, boundary_beside, weighed_at, boundary_weighed_is_greatest, count-units, count-characters-surrogates, weight-le, cut_at_least, end_weight-Lf, rank-le-rank, end_weight, cut_is, end_count_total}
use Rattle.str_indices.proofs.lemmas.Bytes.{first_byte, is_trailing_later, bytes_to_boundary, size-chars, begins_boundary, sum_below-le-sum_below, sum_below-still, by_size, boundary_at_end, begins_at, ends_by_ascii_walk, next_line_feed, sum_below-first, by_width, AddsAtFirst, counted_at, still_behind_cut, adds_breaks, ends_by_walk, breaks_of_cut_text, feed_at_middle, size-cut, walk_to_boundary, boundary_of_cut, cut_boundary, wide_behind_cut}
use Rattle.str_indices.proofs.lemmas.Passes.{pass_after_peeks}
use Rattle.str_indices.proofs.lemmas.Seams.{crlf_has_return, lines_has_return}

-- The chars of a text, from its leading and its trailing bytes.

-- the chars of the text that is cut at the boundary at or before a byte are those that end at or before it
pub chars_of_byte : (cs : List ℕ) (byte end : ℕ) → end ≡ size (cut cs byte)
    → count Chars (cut cs end) ≡ from_byte_idx Chars cs byte
chars_of_byte cs byte end here =
    rw here (ap (count Chars) (cut-cut cs byte) ∙ end_count-cut Chars (λ c cs ds. refl) cs byte)

module _ (bytes : List ℕ) (utf8 : IsUtf8 bytes) where
  -- before a boundary as many bytes begin a char as the cut text has chars
  pub leading_at_boundary : (end : ℕ) → IsBoundary (chars bytes) end
      → passing_before is_leading bytes end ≡ count Chars (cut (chars bytes) end)
  leading_at_boundary end b = bytes_to_boundary (λ b _ _. is_leading b) (λ _. 1)
      (record { first = λ c cs s t. rw (first_byte c (encodes cs) s); later = λ b _ _ t. rw (is_trailing_later b t) })
      bytes utf8 end b ∙ sym (count_characters (cut (chars bytes) end))

  -- where a walk stops at or before the end of the text, it is where the k-th char ends
  pub char_reached : (at k : ℕ) → at ≤ length bytes → passing_before is_leading bytes at ≤ k
      → (at < length bytes → k < passing_before is_leading bytes (at + 1)) → at ≡ to_byte_idx Chars (chars bytes) k
  char_reached at k within at_most stopped =
      let cs = chars bytes in
      let whole = size-chars bytes utf8 in
      let more = ap (passing_before is_leading bytes) (add-one at) in
      let b = begins_boundary bytes utf8 at within (λ inside. grind (arith, more, stopped inside)) in
      let counted = leading_at_boundary at b ∙ end_count-cut Chars (λ c cs ds. refl) cs at in
      let increases = ends_increase_within Chars cs in
      let adjoint = member_adjunction (ends Chars cs) (size cs) increases at in
      end_at_reached Chars cs k at (omega arith)
      (λ inside. omega (arith, stopped (omega arith), mark-le is_leading (get_or bytes at 0)))
      (λ d before.
      let place = select-rank-le (ends Chars cs) (size cs) increases d in
      grind (arith, (adjoint (ends_up_to Chars cs d) (zero_or_end cs at b)).1))

-- the text that is cut at the boundary at or before a byte, and a pass after the peeks to it, for the search
pub ruleset chars_up_to = (chars_of_byte, pass_after_peeks)

-- The UTF-16 code units of a text, from its leading bytes and the first bytes of its chars of four bytes.

-- the mask of a first byte of four, as a range
four_range : (b : ℕ) → b < 256 → begins_four_bytes b ≡ nat_le 240 b
four_range b below = agree_below_at begins_four_bytes (nat_le 240) 256 b refl below

-- the first byte of a char begins four exactly where the char takes four
four_first : (c : ℕ) (rest : List ℕ) → scalar c ≡ true
    → begins_four_bytes (get_or (encode c ++ rest) 0 0) ≡ (len_utf8 c == 4)
four_first c rest s = by_size (λ bs. begins_four_bytes (get_or (bs ++ rest) 0 0) ≡ (length bs == 4)) c s
    (λ ascii. grind (arith, nat_tests, four_range)) (λ from below. grind (arith, nat_tests, four_range))
    (λ from below. grind (arith, nat_tests, four_range)) (λ from below. grind (arith, nat_tests, four_range))
    ∙ ap (λ n. n == 4) (length-encode c)

-- a char of four bytes begins with a leading byte
four_leads : (b : ℕ) → begins_four_bytes b ≡ true → is_trailing b ≡ false
four_leads b four =
    let both = sym (and_assoc 0xC0 b 0xF0) ∙ ap (λ x. bit_and x 0xC0) (eqb-true (bit_and b 0xF0) 0xF0 four) in
    rw both

-- the units of a cut text are its chars and its surrogate pairs
pub units_of_cut : (cs : List ℕ) (end : ℕ)
    → count Utf16 (cut cs end) ≡ count Chars (cut cs end) + surrogates (cut cs end)
units_of_cut cs end = count-characters-surrogates (cut cs end)

-- a text takes at least as many bytes as units
pub count-le-size : (cs : List ℕ) → count Utf16 cs ≤ size cs
count-le-size cs = omega (arith, count-units cs, sum_by-le-sum_by weight len_utf8 cs weight-le)

-- the units are the bytes that begin a char, and those that begin four bytes once more
units_are : (bytes : List ℕ) (n : ℕ)
    → units_before bytes n ≡ passing_before is_leading bytes n + passing_before begins_four_bytes bytes n
units_are bytes zero = refl
units_are bytes (suc n) = omega (arith, units_are bytes n)

-- more bytes show no fewer units
units_before-le-units_before : (bytes : List ℕ) (m n : ℕ) → m ≤ n → units_before bytes m ≤ units_before bytes n
units_before-le-units_before bytes m n le = sum_below-le-sum_below (λ j. units_begun (get_or bytes j 0)) m n le

-- one byte more
pub units_before-next : (bytes : List ℕ) (i : ℕ) → units_before bytes (i + 1)
    ≡ units_before bytes i + (mark is_leading (get_or bytes i 0) + mark begins_four_bytes (get_or bytes i 0))
units_before-next bytes i = rw add-one (omega arith)

-- the units of the text that is cut at the boundary at or before a byte are those of the chars that end at or
-- before it
pub units_of_byte : (cs : List ℕ) (byte end : ℕ) → end ≡ size (cut cs byte)
    → count Utf16 (cut cs end) ≡ from_byte_idx Utf16 cs byte
units_of_byte cs byte end here = rw here (ap (count Utf16) (cut-cut cs byte) ∙ count-units (cut cs byte))

module _ (bytes : List ℕ) (utf8 : IsUtf8 bytes) where
  -- before a boundary as many bytes begin four as the cut text has surrogate pairs
  pairs_at_boundary : (end : ℕ) → IsBoundary (chars bytes) end
      → passing_before begins_four_bytes bytes end ≡ surrogates (cut (chars bytes) end)
  pairs_at_boundary = bytes_to_boundary (λ b _ _. begins_four_bytes b) (mark (λ x. weight x == 2)) (record {
    first = λ c cs s t. rw (four_first c (encodes cs) s) (grind arith);
    later = λ b next after t. rw (four_range b (omega (arith, t.high)), lt-leb 240 b (omega (arith, t.high)));
  }) bytes utf8

  -- among the three bytes before a boundary none begins four
  none_begins_four : (i p : ℕ) → i < p → p < i + 4 → p ≤ length bytes → IsBoundary (chars bytes) p
      → begins_four_bytes (get_or bytes i 0) ≡ false
  none_begins_four i p before near within b = false_from_ne_true (begins_four_bytes (get_or bytes i 0)) (λ four.
      let begins = begins_boundary bytes utf8 i (omega arith) (λ _. four_leads (get_or bytes i 0) four) in
      let at = begins_at bytes utf8 i begins (omega arith) in
      let c = at.character in
      let is_four = sym (four_first c (encodes at.back) at.is_scalar) ∙ ap begins_four_bytes (sym at.byte) ∙ four in
      let long = eqb-true (len_utf8 c) 4 is_four in
      omega (arith, at.place, boundary_beside (λ _. 0) (chars bytes) at.front c at.back at.split p b))

  -- So the last three bytes before it need no look: the bytes before them begin all the chars of four bytes.
  pub pairs_before_last_three : (end : ℕ) → end ≤ length bytes → IsBoundary (chars bytes) end
      → passing_before begins_four_bytes bytes (end - 3) ≡ surrogates (cut (chars bytes) end)
  pairs_before_last_three end within b =
      let last = end - (end - 3) in
      let whole : end - 3 + last ≡ end = omega arith in
      let none = sum_below-still (λ j. mark begins_four_bytes (get_or bytes j 0)) (end - 3) last
      (λ j l. ap flag (none_begins_four (end - 3 + j) end (omega arith) (omega arith) within b)) in
      omega (arith, ap (passing_before begins_four_bytes bytes) whole, pairs_at_boundary end b)

  -- before a boundary the units that the bytes show are those of the chars
  units_at_boundary : (p : ℕ) (b : IsBoundary (chars bytes) p) → units_before bytes p ≡ sum_by weight b.front
  units_at_boundary p b =
      let units = weighed_at weight (chars bytes) p b in
      let pairs = pairs_at_boundary p b in
      omega (
        arith,
        units_are bytes p,
        count-units (cut (chars bytes) p),
        units_of_cut (chars bytes) p,
        leading_at_boundary bytes utf8 p b,
      )

  -- and those of the text that is cut there
  pub units_in_cut : (p : ℕ) → IsBoundary (chars bytes) p → units_before bytes p ≡ count Utf16 (cut (chars bytes) p)
  units_in_cut p b = omega (
    arith,
    units_are bytes p,
    units_of_cut (chars bytes) p,
    pairs_at_boundary p b,
    leading_at_boundary bytes utf8 p b,
  )

  -- no place in a text has more units before it than the text has bytes
  pub units_before-le : (i : ℕ) → i ≤ length bytes → units_before bytes i ≤ length bytes
  units_before-le i within =
      let b = boundary_at_end bytes utf8 in
      let fits = sum_by-le-sum_by weight len_utf8 b.front weight-le in
      let more = units_before-le-units_before bytes i (length bytes) within in
      omega (arith, b.place, units_at_boundary (length bytes) b)

  -- after a byte that begins four stands no leading byte
  leads_or_behind_four : (n : ℕ) → n < length bytes
      → mark is_leading (get_or bytes n 0) + mark begins_four_bytes (byte_before bytes n) ≤ 1
  leads_or_behind_four zero below = omega (arith, mark-le is_leading (get_or bytes 0 0))
  leads_or_behind_four (suc n) below =
      elim (cases_Bool (is_trailing (get_or bytes (suc n) 0))) [
        | inl trails ↦ rw trails (omega (arith, mark-le begins_four_bytes (get_or bytes n 0)))
        | inr leads ↦
            let next = begins_boundary bytes utf8 (suc n) (omega arith) (λ _. leads) in
            rw (leads, none_begins_four n (suc n) (omega arith) (omega arith) (omega arith) next) (omega arith)
      ]

  -- n bytes more show at most n units more, and one more after a byte that begins four
  units_before-step : (i n : ℕ) → i + n ≤ length bytes
      → units_before bytes (i + n) ≤ units_before bytes i + n + mark begins_four_bytes (byte_before bytes (i + n))
  units_before-step i zero within = rw add-zero (omega arith)
  units_before-step i (suc n) within = rw add-suc
      (omega (arith, units_before-step i n (omega arith), leads_or_behind_four (i + n) (omega arith)))

  -- n bytes more show at most n + 1 units more, since the last may begin a char of two
  pub units_before-more : (i n : ℕ) → i + n ≤ length bytes
      → units_before bytes (i + n) ≤ units_before bytes i + n + 1
  units_before-more i n within =
      omega (arith, units_before-step i n within, mark-le begins_four_bytes (byte_before bytes (i + n)))

  -- so they are steady, as code asks for it
  pub units_steady : IsSteady (units_before bytes) (length bytes)
  units_steady = record { fits = units_before-le; near = units_before-more }

  -- a boundary with at most k units before it, and more before the next byte, if there is one, is where the
  -- conversion of k answers
  pub unit_reached : (at k : ℕ) → at ≤ length bytes → units_before bytes at ≤ k
      → (at < length bytes → k < units_before bytes (at + 1)) → at ≡ boundary_at_units (chars bytes) k
  unit_reached at k within at_most stopped =
      let p = boundary_at_units (chars bytes) k in
      let answer = boundary_weighed_is_greatest weight (chars bytes) k in
      let b = begins_boundary bytes utf8 at within
      (λ below. grind (arith, stopped below, units_before-next bytes at, four_leads (get_or bytes at 0))) in
      let reaches = answer.greatest at b (omega (arith, units_at_boundary at b)) in
      let sizes = ap size answer.boundary.split ∙ size-append answer.boundary.front answer.boundary.back in
      let inside : p ≤ length bytes = omega (arith, answer.boundary.place, size-chars bytes utf8) in
      let most : units_before bytes p ≤ k = omega (arith, units_at_boundary p answer.boundary, answer.fits) in
      grind (arith, stopped, units_before-le-units_before bytes (at + 1) p)

-- the text that is cut at the boundary at or before a byte, and a pass after the peeks to it, for the search
pub ruleset units_up_to = (units_of_byte, pass_after_peeks)

-- The line breaks of `Lf` as the bytes that are LF.

-- the line breaks of a cut text are those at or before the cut
line_feeds_of_cut : (cs : List ℕ) (end : ℕ) → count Lf (cut cs end) ≡ from_byte_idx Lf cs end
line_feeds_of_cut cs end = end_count-cut Lf (λ c bs ds. end_weight-Lf c bs ∙ sym (end_weight-Lf c ds)) cs end

module _ (bytes : List ℕ) (utf8 : IsUtf8 bytes) where
  -- before each byte index as many bytes are LF as line breaks are at or before it
  line_feeds_up_to : (end : ℕ) → end ≤ length bytes
      → passing_before is_line_feed bytes end ≡ from_byte_idx Lf (chars bytes) end
  line_feeds_up_to end within = ends_by_ascii_walk Lf (λ b _ _. is_line_feed b) (record {
    first = λ c cs s t.
        ap flag (next_line_feed (c ∷ cs) (and_from (scalar c) (scalars cs) s t)) ∙ sym (end_weight-Lf c cs);
    later = λ b next after trailing. let low = trailing.low in grind (arith, nat_tests);
  }) (λ b next after wide. grind (arith, nat_tests)) bytes utf8 end within

  -- they are the line breaks of the text that is cut there
  pub line_feeds_before : (end : ℕ) → end ≤ length bytes
      → passing_before is_line_feed bytes end ≡ count Lf (cut (chars bytes) end)
  line_feeds_before end within = line_feeds_up_to end within ∙ sym (line_feeds_of_cut (chars bytes) end)

  -- the first byte before which k bytes are LF, or else the text's end, is where line k begins
  pub line_begins : (k at : ℕ) → at ≤ length bytes → (at < length bytes → k ≤ passing_before is_line_feed bytes at)
      → ((d : ℕ) → d < at → passing_before is_line_feed bytes d < k) → at ≡ to_byte_idx Lf (chars bytes) k
  line_begins k at within stopped first =
      let whole = size-chars bytes utf8 in
      end_at_reached Lf (chars bytes) k at (omega arith)
      (λ inside. omega (arith, stopped (omega arith), line_feeds_up_to at within))
      (λ d before. omega (arith, first d before, line_feeds_up_to d (omega arith)))

  -- the line breaks of the text that is cut at a byte index, or at its end where the index is past it, are those at
  -- or before it
  pub line_of_byte : (byte end : ℕ) → end ≡ min byte (length bytes)
      → count Lf (cut (chars bytes) end) ≡ from_byte_idx Lf (chars bytes) byte
  line_of_byte byte end here =
      ap (count Lf) (cut_at_least (chars bytes) byte end (omega (arith, size-chars bytes utf8)))
      ∙ line_feeds_of_cut (chars bytes) byte

-- The line breaks of `Crlf`, from the bytes at which they start.

-- whether LF, CR or CRLF ends with b, which stands before `next`
abbrev ends_break : ℕ → ℕ → ℕ → Bool
ends_break b next _ = is_line_feed b || (is_carriage_return b && not (is_line_feed next))

-- one byte, counted in both ways
one_byte : (before b next after : ℕ) → flag (is_carriage_return before && is_line_feed b) + flag (starts_break before b)
    ≡ flag (ends_break b next after) + flag (is_carriage_return b && is_line_feed next)
one_byte before b next after = grind (arith, nat_tests)

-- as many breaks start before a place as end there or before, and one more where the place stands between CR and LF
starts_and_ends : (bytes : List ℕ) (n : ℕ)
    → breaks_before bytes n ≡ sum_below (counted_at ends_break bytes) n + mark (is_middle bytes) n
starts_and_ends bytes zero = refl
starts_and_ends bytes (suc n) =
    let one = one_byte (byte_before bytes n) (get_or bytes n 0) (get_or bytes (suc n) 0) 0 in
    let next : 1 + n ≡ suc n = omega arith in rw next (omega (arith, starts_and_ends bytes n))

-- a break is counted at the first byte of its last char
crlf_breaks_add : AddsAtFirst ends_break (end_weight Crlf)
crlf_breaks_add = adds_breaks Crlf crlf_has_return ends_break (λ c next after ascii. grind (arith, nat_tests))
    (λ c rest s wide. by_width (λ bs. ends_break (get_or (bs ++ rest) 0 0) (get_or (bs ++ rest) 1 0)
    (get_or (bs ++ rest) 2 0) ≡ char_set_contains (break_characters Crlf) c) c s
    (λ ascii. absurd (omega arith)) (λ first others is. let low = is.low in grind (arith, nat_tests)))
    (λ b next after trailing. let low = trailing.low in grind (arith, nat_tests))

module _ (bytes : List ℕ) (utf8 : IsUtf8 bytes) where
  -- the breaks that start before a byte index are those that end at or before it, and one more between CR and LF
  breaks_up_to : (i : ℕ) → i ≤ length bytes
      → breaks_before bytes i ≡ from_byte_idx Crlf (chars bytes) i + mark (is_middle bytes) i
  breaks_up_to i within =
      let walk = ends_by_ascii_walk Crlf ends_break crlf_breaks_add (λ b next after wide. grind (arith, nat_tests)) in
      omega (arith, starts_and_ends bytes i, walk bytes utf8 i within)

  -- the breaks that start before a byte index are those of the cut text, at whose end nothing follows a CR
  pub breaks_of_cut : (end : ℕ) → end ≤ length bytes → breaks_before bytes end ≡ count Crlf (cut (chars bytes) end)
  breaks_of_cut end within =
      let still = still_behind_cut (break_start bytes) bytes utf8 end within (λ j wide. grind (arith, nat_tests)) in
      let walk = ends_by_walk Crlf ends_break crlf_breaks_add bytes utf8 end in
      let of_cut = breaks_of_cut_text Crlf crlf_has_return bytes utf8 end in
      omega (arith, starts_and_ends bytes (size (cut (chars bytes) end)))

  -- By that count and a test that the place is none between CR and LF: the breaks that end at a byte index or before.
  pub breaks_by_cut : (byte least : ℕ) (whole : Bool) → least ≡ min byte (length bytes)
      → whole ≡ not (is_middle bytes least)
      → count Crlf (cut (chars bytes) least) ≡ from_byte_idx Crlf (chars bytes) byte + cond whole 0 1
  breaks_by_cut byte least whole here tested =
      let flipped : ◌≡◌ {A = ℕ} (cond (not (is_middle bytes least)) 0 1) (mark (is_middle bytes) least) = grind arith in
      let same = cut_at_least (chars bytes) byte least (omega (arith, size-chars bytes utf8)) in
      let seam = breaks_of_cut_text Crlf crlf_has_return bytes utf8 byte in
      let seam_at_least = rw same at (breaks_of_cut_text Crlf crlf_has_return bytes utf8 least) in
      let counts = ap (count Crlf) same in
      rw tested (omega (arith, breaks_of_cut least (omega arith), breaks_up_to least (omega arith)))

  -- The first byte before which k breaks start, or else the text's end, is where line k begins; where it stands
  -- between CR and LF, the line begins after the LF.
  pub crlf_line_begins : (k at : ℕ) → at ≤ length bytes → (at < length bytes → k ≤ breaks_before bytes at)
      → ((d : ℕ) → d < at → breaks_before bytes d < k)
      → at + mark (is_middle bytes) at ≡ to_byte_idx Crlf (chars bytes) k
  crlf_line_begins k at within stopped first =
      let size = size-chars bytes utf8 in
      elim (cases_Bool (is_middle bytes at)) [
        | inr other ↦ rw (other, add-zero) (end_at_reached Crlf (chars bytes) k at (omega arith)
            (λ inside. omega (arith, stopped (omega arith), rw other at (breaks_up_to at within)))
            (λ d before. omega (arith, first d before, breaks_up_to d (omega arith))))
        | inl middle ↦
            let (inside, feed) = feed_at_middle bytes at middle in
            let here = rw middle at (breaks_up_to at within) in
            let behind : mark (is_middle bytes) (suc at) ≡ 0 = rw feed refl in
            let exact = sum_below-first (break_start bytes) (break_start-le bytes) k at first in
            rw (middle, add-one) (end_at_reached Crlf (chars bytes) k (suc at) (omega arith)
            (λ _. omega (arith, stopped inside, breaks_up_to (suc at) (omega arith), behind))
            (λ d before. omega (arith, exact, rank-le-rank (ends Crlf (chars bytes)) d at (omega arith))))
      ]

-- The line breaks of `Lines` as the bytes at which they are counted: at a boundary, in a cut text, and where a line
-- begins.

-- a break is counted at the first byte of its last char
lines_breaks_add : AddsAtFirst is_break (end_weight Lines)
lines_breaks_add = adds_breaks Lines lines_has_return is_break (λ c next after ascii. grind (arith, nat_tests))
    (λ c rest s wide. by_size (λ bs. is_break (get_or (bs ++ rest) 0 0) (get_or (bs ++ rest) 1 0)
    (get_or (bs ++ rest) 2 0) ≡ char_set_contains (break_characters Lines) c) c s (λ ascii. absurd (omega arith))
    (λ from below. grind (arith, nat_tests)) (λ from below. grind (arith, nat_tests))
    (λ from below. grind (arith, nat_tests)))
    (λ b next after trailing. let low = trailing.low in let high = trailing.high in grind (arith, nat_tests))

module _ (bytes : List ℕ) (utf8 : IsUtf8 bytes) where
  -- the breaks of the bytes before a boundary, as a text by itself, are the line breaks of the cut text
  pub breaks_in_cut : (p : ℕ) → IsBoundary (chars bytes) p
      → breaks_counted_before (take p bytes) p ≡ count Lines (cut (chars bytes) p)
  breaks_in_cut p b = walk_to_boundary is_break (end_weight Lines) lines_breaks_add bytes utf8 p b
      ∙ sym (end_count_total Lines (cut (chars bytes) p))

  -- The line breaks of the text that is cut at the boundary at or before a byte: those up to the byte, and one more
  -- where the boundary parts CR from LF.
  pub lines_of_byte : (byte end : ℕ) → end ≡ size (cut (chars bytes) byte) → end ≤ length bytes
      → count Lines (cut (chars bytes) end) ≡ from_byte_idx Lines (chars bytes) byte + flag (is_middle bytes end)
  lines_of_byte byte end here within = rw here
      (ap (count Lines) (cut-cut (chars bytes) byte) ∙ breaks_of_cut_text Lines lines_has_return bytes utf8 byte)

  -- a boundary before a byte of its char parts no CR from LF
  pub moved_is_whole : (byte end : ℕ) → end ≡ size (cut (chars bytes) byte) → end < byte → is_middle bytes end ≡ false
  moved_is_whole byte end here moved = false_from_ne_true (is_middle bytes end) (λ between.
      let (inside, feed) = feed_at_middle bytes end between in
      omega (arith, wide_behind_cut bytes utf8 byte end inside (omega arith) moved))

  -- The boundary at or after the first place before which k breaks are counted is where line k begins; where there is
  -- no such place, the line begins at the text's end.
  pub lines_line_begins : (k reached at : ℕ) → reached ≤ at → at ≤ length bytes
      → IsBoundary (chars bytes) at → ((p : ℕ) → IsBoundary (chars bytes) p → reached ≤ p → at ≤ p)
      → (reached < length bytes → k ≤ breaks_counted_before bytes reached)
      → ((d : ℕ) → d < reached → breaks_counted_before bytes d < k) → at ≡ to_byte_idx Lines (chars bytes) k
  lines_line_begins k reached at from within b least stopped first =
      let cs = chars bytes in
      let whole = size-chars bytes utf8 in
      let walked = ends_by_walk Lines is_break lines_breaks_add bytes utf8 in
      let here = ap (breaks_counted_before bytes) (sym (size-cut cs at b)) ∙ walked at in
      end_at_reached Lines cs k at (omega arith)
      (λ inside. omega (arith, stopped (omega arith), sum_below-le-sum_below (break_at bytes) reached at from))
      (λ d before.
      let fits = (cut_is cs d).at.fits in
      let late = least (size (cut cs d)) (cut_boundary cs d) in
      grind (arith, first (size (cut cs d)), late, walked d))

-- the byte before or at which a text is cut, and where that parts CR from LF, as the search takes it
pub ruleset lines_up_to = (boundary_of_cut, lines_of_byte, moved_is_whole, lt-leb)
