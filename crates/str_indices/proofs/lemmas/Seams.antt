-- Two texts, one after the other: their ends, boundaries and UTF-16 code units, by those of each.
use Rattle.str_indices.proofs.lemmas.Common.{ℕ, List, [], ◌∷◌, ◌++◌, get_or, arith, cond, ◌≡◌, ◌≢◌, ◌+◌, refl, true, sym, ◌∙◌, ◌==◌, char_set_contains, nat_tests, cut, line_feed, carriage_return, Scheme, Chars, Utf16, Lf, Crlf, Lines, break_characters, end_count, ends_up_to, is_break_end, is_end, ends_in_return, starts_with_feed, joins_crlf, seam_loss, ◌-◌, ◌<◌, ◌≤◌, inl, inr, nat_le, len_utf8, cases_lt, len_utf8_bounds, count_by-le-length, size, ends, end_at, ◌⊎◌, ap, append_assoc, le_antisymm, sum_by, sum_by-cons, sum_by-append, weight, units, boundary_at_units, count, IsBoundary}
use Rattle.str_indices.proofs.lemmas.Texts.{total, total_front, total_alone, total_front_alone, total-append, cut_is, ReadsAlone, end_weight, end_weight-Lf, end_count_total, ends_up_to_cut, first_placed, size-cons, size-append, rank, rank_none, rank-le-rank, adjunction, select-le-high, ends_from, ends_from-increases, ends_increase_within, rank_step, rank-append, end_at-select, end_at-past, end_at_reached, cut_before, cut_behind, count-units, weight_is_one_or_two, boundary_weighed_is_greatest}

-- The ends that a seam takes from the texts on its two sides: one where it makes a CRLF.

-- a text of one char ends in CR where that char is CR
pub ends_in_return-one : (c : ℕ) → ends_in_return (c ∷ []) ≡ (c == carriage_return)
ends_in_return-one c = grind (arith, nat_tests)

-- the first of several chars doesn't matter there
pub ends_in_return-cons : (c d : ℕ) (cs : List ℕ) → ends_in_return (c ∷ d ∷ cs) ≡ ends_in_return (d ∷ cs)
ends_in_return-cons c d cs = grind (arith, nat_tests)

-- a text starts with LF where its first char is LF
pub starts_with_feed_is : (cs : List ℕ) → starts_with_feed cs ≡ (get_or cs 0 0 == line_feed)
starts_with_feed_is [] = refl
starts_with_feed_is (c ∷ cs) = grind (arith, nat_tests)

-- two texts end as the second does, if it is not empty
pub ends_in_return-append : (a b : List ℕ) → b ≢ [] → ends_in_return (a ++ b) ≡ ends_in_return b
ends_in_return-append a [] some = absurd (some refl)
ends_in_return-append [] (d ∷ b) some = refl
ends_in_return-append (c ∷ []) (d ∷ b) some = ends_in_return-cons c d b
ends_in_return-append (c ∷ x ∷ a) (d ∷ b) some =
    ends_in_return-cons c x (a ++ d ∷ b) ∙ ends_in_return-append (x ∷ a) (d ∷ b) some

-- and start as the first does, if it is not
pub starts_with_feed-append : (a b : List ℕ) → a ≢ [] → starts_with_feed (a ++ b) ≡ starts_with_feed a
starts_with_feed-append [] b some = absurd (some refl)
starts_with_feed-append (c ∷ a) b some = starts_with_feed_is (c ∷ a ++ b) ∙ sym (starts_with_feed_is (c ∷ a))

-- the scheme's ends are line breaks, and CR is among their chars
pub record HasReturn (s : Scheme) : Type 0 where
  pub breaks : (c : ℕ) (cs : List ℕ)
      → is_end s (first_placed 0 c cs) ≡ is_break_end (break_characters s) (first_placed 0 c cs)
  pub return : char_set_contains (break_characters s) carriage_return ≡ true

-- so it is in `Crlf`
pub crlf_has_return : HasReturn Crlf
crlf_has_return = record { breaks = λ _ _. refl; return = refl }

-- and in `Lines`
pub lines_has_return : HasReturn Lines
lines_has_return = record { breaks = λ _ _. refl; return = refl }

module _ (s : Scheme) (has : HasReturn s) where
  -- the last char before the seam
  end_weight-seam : (c : ℕ) (cs : List ℕ) → end_weight s c cs + cond (joins_crlf (c ∷ []) cs) 1 0 ≡ end_weight s c []
  end_weight-seam c cs = grind (arith, nat_tests, has.breaks c cs, has.breaks c [], has.return)

  -- before a seam that makes a CRLF is one break less than in the text that ends there
  total_front-seam : (front back : List ℕ)
      → total_front (end_weight s) front back + cond (joins_crlf front back) 1 0 ≡ total (end_weight s) front
  total_front-seam [] back = refl
  total_front-seam (c ∷ []) back = omega (arith, end_weight-seam c back)
  total_front-seam (c ∷ d ∷ front) back =
      rw (ends_in_return-cons c d front, has.breaks c (d ∷ front ++ back), has.breaks c (d ∷ front))
      (omega (arith, total_front-seam (d ∷ front) back))

  -- a cut text has the breaks up to the cut, and one more where the cut parts CR from LF
  pub end_count-cut_seam : (cs : List ℕ) (end : ℕ) → end_count s (cut cs end)
      ≡ ends_up_to s cs end + cond (joins_crlf (cut cs end) (cut_is cs end).rest) 1 0
  end_count-cut_seam cs end =
      omega (arith, end_count_total s, ends_up_to_cut s cs end, total_front-seam (cut cs end) (cut_is cs end).rest)

-- where ends are read from the chars alone, no seam takes any
total_front-alone : (s : Scheme) → ReadsAlone s → (front back : List ℕ)
    → total_front (end_weight s) front back ≡ total (end_weight s) front
total_front-alone s alone front back =
    let v = end_weight s in
    let f = λ (c : ℕ). v c [] in
    let reads = λ (c : ℕ) (after : List ℕ). alone c after [] in
    total_front_alone v f reads front back ∙ sym (total_alone v f reads front)

-- in every scheme the ends before a seam are as many fewer as the seam takes
pub total_front-loss : (s : Scheme) (front back : List ℕ)
    → total_front (end_weight s) front back + seam_loss s front back ≡ total (end_weight s) front
total_front-loss Chars front back = omega (arith, total_front-alone Chars (λ c cs ds. refl) front back)
total_front-loss Utf16 front back = omega (arith, total_front-alone Utf16 (λ c cs ds. refl) front back)
total_front-loss Lf front back =
    let alone = λ (c : ℕ) (cs ds : List ℕ). end_weight-Lf c cs ∙ sym (end_weight-Lf c ds) in
    omega (arith, total_front-alone Lf alone front back)
total_front-loss Crlf front back = total_front-seam Crlf crlf_has_return front back
total_front-loss Lines front back = total_front-seam Lines lines_has_return front back

-- the ends that the seam takes depend only on how the first text ends and the second starts
pub seam_loss-same : (s : Scheme) (a b c d : List ℕ) → ends_in_return a ≡ ends_in_return c
    → starts_with_feed b ≡ starts_with_feed d → seam_loss s a b ≡ seam_loss s c d
seam_loss-same Crlf a b c d ends starts = rw (ends, starts) refl
seam_loss-same Lines a b c d ends starts = rw (ends, starts) refl
seam_loss-same s a b c d ends starts = refl

-- a cut text has the ends up to the cut, and what the seam there takes
pub end_count-cut_loss : (s : Scheme) (cs : List ℕ) (end : ℕ)
    → end_count s (cut cs end) ≡ ends_up_to s cs end + seam_loss s (cut cs end) (cut_is cs end).rest
end_count-cut_loss s cs end =
    omega (arith, end_count_total s, ends_up_to_cut s cs end, total_front-loss s (cut cs end) (cut_is cs end).rest)

-- joined, two texts have the ends of both, but for what the seam takes
pub end_count-append : (s : Scheme) (a b : List ℕ)
    → end_count s (a ++ b) + seam_loss s a b ≡ end_count s a + end_count s b
end_count-append s a b = omega (arith, end_count_total s, total-append (end_weight s) a b, total_front-loss s a b)

-- The ends of two texts, one after the other, by those of each: how many are up to a byte index, and which is the k-th.

-- a char weighs the same, whatever follows the next
end_weight-next : (s : Scheme) (c d : ℕ) (cs ds : List ℕ) → end_weight s c (d ∷ cs) ≡ end_weight s c (d ∷ ds)
end_weight-next Chars c d cs ds = refl
end_weight-next s c d cs ds = refl

-- before the end of a text that begins at `start`, its ends are counted, whatever goes on after it
rank-before : (s : Scheme) (start : ℕ) (a b : List ℕ) (byte : ℕ) → byte < start + size a
    → rank (ends_from (is_end s) start (a ++ b)) byte ≡ rank (ends_from (is_end s) start a) byte
rank-before s start [] b byte before =
    let increases = ends_from-increases (is_end s) start start b (start + size b) (omega arith)
    (λ c after same. omega (arith, len_utf8_bounds c)) (omega arith) in
    rank_none start (ends_from (is_end s) start b) (start + size b) byte increases (omega arith)
rank-before s start (c ∷ []) b byte before =
    let sizes = size-cons c [] in
    let rest = rank-before s (start + len_utf8 c) [] b byte (omega arith) in
    grind (arith, nat_tests, rank_step s start c b byte, rank_step s start c [] byte)
rank-before s start (c ∷ d ∷ a) b byte before =
    let sizes = size-cons c (d ∷ a) in
    let rest = rank-before s (start + len_utf8 c) (d ∷ a) b byte (omega arith) in
    let same = end_weight-next s c d (a ++ b) a in
    grind (arith, nat_tests, rank_step s start c (d ∷ a ++ b) byte, rank_step s start c (d ∷ a) byte)

-- a text that begins n bytes later has as many ends up to a byte index n bytes later
rank-later : (s : Scheme) (n start later : ℕ) (cs : List ℕ) (byte : ℕ) → n + start ≡ later
    → rank (ends_from (is_end s) later cs) (n + byte) ≡ rank (ends_from (is_end s) start cs) byte
rank-later s n start later [] byte place = refl
rank-later s n start later (c ∷ cs) byte place =
    let rest = rank-later s n (start + len_utf8 c) (later + len_utf8 c) cs byte (omega arith) in
    grind (arith, nat_tests, rank_step s later c cs (n + byte), rank_step s start c cs byte)

module _ (s : Scheme) (a b : List ℕ) where
  -- before the seam the first text's ends are counted
  pub ends_up_to-before : (i : ℕ) → i < size a → ends_up_to s (a ++ b) i ≡ ends_up_to s a i
  ends_up_to-before i before = rank-before s 0 a b i (omega arith)

  -- after it all of them, but for what the seam takes, and those of the second text
  pub ends_up_to-behind : (j : ℕ)
      → ends_up_to s (a ++ b) (size a + j) + seam_loss s a b ≡ end_count s a + ends_up_to s b j
  ends_up_to-behind j =
      let parts = rank-append s 0 a b (size a) (size a + j) (omega arith) (omega arith) in
      let later = rank-later s (size a) 0 (size a) b j (omega arith) in
      omega (arith, parts, later, total_front-loss s a b, end_count_total s a)

  -- the seam takes no more ends than the first text has
  pub seam_loss-le : seam_loss s a b ≤ end_count s a
  seam_loss-le = omega (arith, total_front-loss s a b, end_count_total s a)

  -- up to as many as the first text keeps, the k-th end is its own
  pub end_at-before : (k : ℕ) → k + seam_loss s a b ≤ end_count s a → end_at s (a ++ b) k ≡ end_at s a k
  end_at-before k within =
      let e = end_at s a k in
      let is = end_at-select s a k in
      let up = ends_increase_within s a in
      let most = select-le-high (ends s a) (size a) up k in
      let own = λ (d : ℕ). adjunction (ends s a) (size a) up d k in
      let seam = ends_up_to-behind 0 in
      let reached : e < size (a ++ b) → k ≤ ends_up_to s (a ++ b) e = λ inside.
      grind (arith, own e, ends_up_to-before e, rank-le-rank (ends s (a ++ b)) (size a + 0) e) in
      let first : (d : ℕ) → d < e → ends_up_to s (a ++ b) d < k = λ d before.
      grind (arith, own d, ends_up_to-before d) in
      sym (end_at_reached s (a ++ b) k e (omega (arith, size-append a b)) reached first)

  -- past them it is one of the second text, or the end
  pub end_at-behind : (k index : ℕ) → end_count s a < k + seam_loss s a b → end_count s a + index ≡ k + seam_loss s a b
      → end_at s (a ++ b) k ≡ size a + end_at s b index
  end_at-behind k index past sum =
      let own_end = end_at s b index in
      let is = end_at-select s b index in
      let up = ends_increase_within s b in
      let most = select-le-high (ends s b) (size b) up index in
      let own = λ (d : ℕ). adjunction (ends s b) (size b) up d index in
      let seam = ends_up_to-behind 0 in
      let reached : size a + own_end < size (a ++ b) → k ≤ ends_up_to s (a ++ b) (size a + own_end) = λ inside.
      grind (arith, own own_end, end_at-past s b index, size-append a b, ends_up_to-behind own_end) in
      let first : (d : ℕ) → d < size a + own_end → ends_up_to s (a ++ b) d < k = λ d before.
      elim (cases_lt d (size a)) [
        | inl front ↦
            let none = rank_none 0 (ends s b) (size b) 0 up (omega arith) in
            omega (arith, rank-le-rank (ends s (a ++ b)) d (size a + 0))
        | inr behind ↦
            let place : size a + (d - size a) ≡ d = omega arith in
            let counts = rw place at (ends_up_to-behind (d - size a)) in
            grind (arith, own (d - size a), count_by-le-length (λ e. nat_le e (d - size a)) (ends s b))
      ] in
      sym (end_at_reached s (a ++ b) k (size a + own_end) (omega (arith, size-append a b)) reached first)

-- The boundaries of two texts, one after the other, and their UTF-16 code units, by those of each.

-- a beginning of two joined texts is one of the first, or goes on from it with a char c of the second
compare_seam : (a b front back : List ℕ) → a ++ b ≡ front ++ back → ((rest : List ℕ) × (a ≡ front ++ rest))
    ⊎ ((c : ℕ) × (rest : List ℕ) × (front ≡ a ++ c ∷ rest) × (b ≡ (c ∷ rest) ++ back))
compare_seam [] b [] back same = inl ([], refl)
compare_seam [] b (c ∷ front) back same = inr (c, front, refl, same)
compare_seam (x ∷ a) b [] back same = inl (x ∷ a, refl)
compare_seam (x ∷ a) b (y ∷ front) back same =
    elim (compare_seam a b front back cc) [
      | inl (rest, is) ↦ inl (rest, cc)
      | inr (c, rest, is, split) ↦ inr (c, rest, cc, split)
    ]

module _ (a b : List ℕ) where
  -- a boundary of the first text is one of both
  abbrev pub IsBoundary-before : (p : ℕ) → IsBoundary a p → IsBoundary (a ++ b) p
  IsBoundary-before p at = record {
    front = at.front;
    back = at.back ++ b;
    split = ap (λ r. r ++ b) at.split ∙ append_assoc at.front at.back b;
    place = at.place;
  }

  -- so is one of the second, in its place
  abbrev pub IsBoundary-behind : (p : ℕ) → IsBoundary b p → IsBoundary (a ++ b) (size a + p)
  IsBoundary-behind p at = record {
    front = a ++ at.front;
    back = at.back;
    split = ap (λ r. a ++ r) at.split ∙ sym (append_assoc a at.front at.back);
    place = size-append a at.front ∙ ap (λ n. size a + n) at.place;
  }

  -- and each boundary of both is one of these
  pub IsBoundary-either : (p : ℕ) → IsBoundary (a ++ b) p
      → IsBoundary a p ⊎ ((own : ℕ) × (p ≡ size a + own) × IsBoundary b own)
  IsBoundary-either p at =
      elim (compare_seam a b at.front at.back at.split) [
        | inl (rest, is) ↦ inl (record { front = at.front; back = rest; split = is; place = at.place })
        | inr (c, rest, is, split) ↦
            let place = sym at.place ∙ ap size is ∙ size-append a (c ∷ rest) in
            inr (size (c ∷ rest), place, record { front = c ∷ rest; back = at.back; split = split; place = refl })
      ]

  -- before the seam the first text's units are counted
  pub units-before : (i : ℕ) → i ≤ size a → units (a ++ b) i ≡ units a i
  units-before i before = ap (sum_by weight) (cut_before a b i before)

  -- after it all of them, and those of the second text
  pub units-behind : (j : ℕ) → units (a ++ b) (size a + j) ≡ count Utf16 a + units b j
  units-behind j = ap (sum_by weight) (cut_behind a b j)
      ∙ sum_by-append weight a (cut b j) ∙ ap (λ n. n + units b j) (sym (count-units a))

  -- up to the units of the first text, an index is one of its own
  pub boundary_at_units-before : (k : ℕ) → k ≤ count Utf16 a → boundary_at_units (a ++ b) k ≡ boundary_at_units a k
  boundary_at_units-before k within =
      let whole = boundary_weighed_is_greatest weight (a ++ b) k in
      let own = boundary_weighed_is_greatest weight a k in
      let p = boundary_at_units (a ++ b) k in
      let q = boundary_at_units a k in
      let at = whole.boundary in
      let not_less = whole.greatest q (IsBoundary-before q own.boundary) own.fits in
      let not_more : p ≤ q = elim (compare_seam a b at.front at.back at.split) [
        | inl (rest, is) ↦
            own.greatest p (record { front = at.front; back = rest; split = is; place = at.place }) whole.fits
        | inr (c, rest, is, split) ↦
            let sums = ap (sum_by weight) is ∙ sum_by-append weight a (c ∷ rest) in
            absurd (omega (arith, whole.fits, count-units a, sum_by-cons weight c rest, weight_is_one_or_two c))
      ] in
      le_antisymm not_more not_less

  -- past them it is one of the second
  pub boundary_at_units-behind : (k index : ℕ) → count Utf16 a + index ≡ k
      → boundary_at_units (a ++ b) k ≡ size a + boundary_at_units b index
  boundary_at_units-behind k index sum =
      let whole = boundary_weighed_is_greatest weight (a ++ b) k in
      let own = boundary_weighed_is_greatest weight b index in
      let p = boundary_at_units (a ++ b) k in
      let q = boundary_at_units b index in
      let at = whole.boundary in
      let fits = sum_by-append weight a own.boundary.front in
      let not_less =
      whole.greatest (size a + q) (IsBoundary-behind q own.boundary) (omega (arith, own.fits, count-units a)) in
      let not_more : p ≤ size a + q = elim (compare_seam a b at.front at.back at.split) [
        | inl (rest, is) ↦ omega (arith, at.place, ap size is, size-append at.front rest)
        | inr (c, rest, is, split) ↦
            let sums = ap (sum_by weight) is ∙ sum_by-append weight a (c ∷ rest) in
            let here : IsBoundary b (size (c ∷ rest)) =
            record { front = c ∷ rest; back = at.back; split = split; place = refl } in
            let within = own.greatest (size (c ∷ rest)) here (omega (arith, whole.fits, count-units a)) in
            omega (arith, at.place, ap size is, size-append a (c ∷ rest))
      ] in
      le_antisymm not_more not_less
