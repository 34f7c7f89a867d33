-- Runs of pieces: the one at a place, those of a list that has changed there, and the summary of the first ones.
use Rattle.piece_text.proofs.lemmas.Common.{◌≡◌, ℕ, zero, suc, ◌+◌, ◌-◌, ◌<◌, ◌≤◌, List, [], ◌∷◌, ◌++◌, length, take, drop, remove, refl, arith, sym, ◌∙◌, ap, append_assoc, append-nil, add-one, take-append-drop, length-take-le, length-drop, take_all, Text, size, size-append, joined, joined_size, piece_at, set, insert, take_at, summary_of, IsSwap, IsRunSwapped, Swapped, Swap}
use Rattle.std.proofs.Common.{subst, get_or, ◌^◌, zero-add, add-zero}
use Rattle.std.proofs.Math.Seq.{drop-append-add, take-append-add, drop-append_seam, take-append_seam, drop-cons}
use Rattle.std.proofs.Math.ListN.{length-append}
use Rattle.std.proofs.lemmas.List.{take-append-le, drop-append-le, drop-drop}
use Rattle.str_indices.specs.declared.Scheme.{Scheme}
use Rattle.text_summary.specs.Fronts.{IsFront, IsFollowed}
use Rattle.text_summary.specs.declared.fronts.Front.{Front}
use Rattle.text_summary.specs.declared.summaries.Summary.{Summary}
use Rattle.piece_text.proofs.lemmas.Joining.{joined-append, joined-split, joined_size-take, drop-piece, cut_list, joined-take}
use Rattle.piece_text.specs.Runs.{IsRun, AreRuns, pieces_in}
use Rattle.piece_text.specs.PieceRanges.{IsRunAt}
use Rattle.piece_text.specs.declared.view.runs.Run.{Run}
use Rattle.text_summary.specs.Summaries.{AreSummaries}

-- a list past its first texts, and up to some of the others
drop_own : (texts own rest : List Text) (p m : ℕ) → texts ≡ own ++ rest → length own ≡ p → drop (p + m) texts ≡ drop m rest
drop_own texts own rest p m split count = rw (split, ← count) (drop-append-add own rest m)

take_own : (texts own rest : List Text) (p m : ℕ) → texts ≡ own ++ rest → length own ≡ p
    → take (p + m) texts ≡ own ++ take m rest
take_own texts own rest p m split count = rw (split, ← count) (take-append-add own rest m)

-- the runs from one on
pub rest_of : (runs : List Run) (texts : List Text) (r : ℕ) → AreRuns runs texts
    → AreRuns (drop r runs) (drop (pieces_in (take r runs)) texts)
rest_of runs texts zero are = are
rest_of [] texts (suc r) are = tt
rest_of (run ∷ runs) texts (suc r) (own, rest, split, is, more) =
    rw (drop_own texts own rest run.pieces (pieces_in (take r runs)) split is.count) (rest_of runs rest r more)

-- they have no more pieces than there are
pub pieces_in-le : (runs : List Run) (texts : List Text) → AreRuns runs texts → pieces_in runs ≤ length texts
pieces_in-le [] texts are = omega arith
pieces_in-le (run ∷ runs) texts (own, rest, split, is, more) =
    omega (arith, ap length split, length-append own rest, is.count, pieces_in-le runs rest more)

-- nor do the first ones
pub pieces_in-take : (runs : List Run) (r : ℕ) → pieces_in (take r runs) ≤ pieces_in runs
pieces_in-take runs zero = omega arith
pieces_in-take [] (suc r) = omega arith
pieces_in-take (run ∷ runs) (suc r) = omega (arith, pieces_in-take runs r)

-- one more
pub pieces_in-more : (runs : List Run) (r : ℕ) (run : Run) → drop r runs ≡ run ∷ drop (suc r) runs
    → pieces_in (take (suc r) runs) ≡ pieces_in (take r runs) + run.pieces
pieces_in-more [] zero run here = absurd cc
pieces_in-more [] (suc r) run here = absurd cc
pieces_in-more (x ∷ xs) zero run here = let same : x ≡ run = cc in omega (arith, ap (λ v. v.pieces) same)
pieces_in-more (x ∷ xs) (suc r) run here = omega (arith, pieces_in-more xs r run here)

-- other runs from one on, for other texts from there on
pub renewed : (runs : List Run) (texts : List Text) (r : ℕ) → AreRuns runs texts → (mid : List Run) (rest : List Text)
    → AreRuns mid rest → AreRuns (take r runs ++ mid) (take (pieces_in (take r runs)) texts ++ rest)
renewed runs texts zero are mid rest others = others
renewed [] texts (suc r) are mid rest others = others
renewed (run ∷ runs) texts (suc r) (own, tail, split, is, more) mid rest others =
    let m = pieces_in (take r runs) in
    let place = ap (λ x. x ++ rest) (take_own texts own tail run.pieces m split is.count)
    ∙ append_assoc own (take m tail) rest in
    (own, take m tail ++ rest, place, is, renewed runs tail r more mid rest others)

-- the run at a place, and those after it
pub record RunIn (runs : List Run) (texts : List Text) (r : ℕ) (run : Run) : Type 0 where
  pub at : IsRunAt texts (pieces_in (take r runs)) run
  pub more : AreRuns (drop (suc r) runs) at.after

pub run_in : (runs : List Run) (texts : List Text) (r : ℕ) (run : Run) → AreRuns runs texts
    → drop r runs ≡ run ∷ drop (suc r) runs → RunIn runs texts r run
run_in runs texts r run are here =
    let m = pieces_in (take r runs) in
    let le : m ≤ length texts = omega (arith, pieces_in-le runs texts are, pieces_in-take runs r) in
    let from : AreRuns (run ∷ drop (suc r) runs) (drop m texts) = rw here at (rest_of runs texts r are) in
    let (own, rest, split, is, more) = from in
    record {
      at = record {
        before = take m texts;
        own = own;
        after = rest;
        split = sym (take-append-drop m texts) ∙ ap (λ x. take m texts ++ x) split;
        place = length-take-le m texts le;
        is = is;
      };
      more = more;
    }

-- a run at a place is within the texts, and what is before it, up to its end and from it on
pub run_end : (texts : List Text) (first : ℕ) (run : Run) (at : IsRunAt texts first run) → first + run.pieces ≤ length texts
run_end texts first run at = omega (
  arith,
  ap length at.split,
  length-append at.before (at.own ++ at.after),
  length-append at.own at.after,
  at.place,
  at.is.count,
)

pub run_before : (texts : List Text) (first : ℕ) (run : Run) (at : IsRunAt texts first run) → take first texts ≡ at.before
run_before texts first run at = rw (at.split, ← at.place) (take-append_seam at.before (at.own ++ at.after))

pub run_upto : (texts : List Text) (first : ℕ) (run : Run) (at : IsRunAt texts first run)
    → take (first + run.pieces) texts ≡ at.before ++ at.own
run_upto texts first run at =
    take_own texts at.before (at.own ++ at.after) first run.pieces at.split at.place
    ∙ ap (λ x. at.before ++ x) (rw (← at.is.count) (take-append_seam at.own at.after))

pub run_behind : (texts : List Text) (first : ℕ) (run : Run) (at : IsRunAt texts first run)
    → drop (first + run.pieces) texts ≡ at.after
run_behind texts first run at =
    drop_own texts at.before (at.own ++ at.after) first run.pieces at.split at.place
    ∙ rw (← at.is.count) (drop-append_seam at.own at.after)

pub run_own : (texts : List Text) (first : ℕ) (run : Run) (at : IsRunAt texts first run)
    → take run.pieces (drop first texts) ≡ at.own
run_own texts first run at =
    rw (at.split, ← at.place, drop-append_seam at.before (at.own ++ at.after), ← at.is.count) (take-append_seam at.own at.after)

-- a run has a piece
pub run_some : (run : Run) (own : List Text) → IsRun run own → 0 < run.pieces
run_some run [] is = absurd (is.some refl)
run_some run (x ∷ xs) is = omega (arith, is.count)

-- no run, which stands for one past the end of a list
abbrev pub no_run : Run
no_run = record { pieces = 0; whole = summary_of [] }

-- the pieces of the first runs, and of one more
pub pieces_in-at : (runs : List Run) (r : ℕ) (d : Run) → r < length runs
    → pieces_in (take (r + 1) runs) ≡ pieces_in (take r runs) + (get_or runs r d).pieces
pieces_in-at runs r d inside = rw add-one (pieces_in-more runs r (get_or runs r d) (drop-cons runs r d inside))

-- of two lists of runs, one after the other
pub pieces_in-append : (xs ys : List Run) → pieces_in (xs ++ ys) ≡ pieces_in xs + pieces_in ys
pieces_in-append [] ys = sym (zero-add (pieces_in ys))
pieces_in-append (x ∷ xs) ys = omega (arith, pieces_in-append xs ys)

-- and of those before a run, it and those after it
pub pieces_in-round : (runs : List Run) (r : ℕ) (d : Run) → r < length runs
    → pieces_in runs ≡ pieces_in (take r runs) + ((get_or runs r d).pieces + pieces_in (drop (suc r) runs))
pieces_in-round runs r d inside =
    let here = ap pieces_in (drop-cons runs r d inside) in
    omega (arith, here, ap pieces_in (take-append-drop r runs), pieces_in-append (take r runs) (drop r runs))

-- one run in the place of another
pub set_at : {X : Type 0} (xs : List X) (r : ℕ) (x : X) → r < length xs → set xs r x ≡ take r xs ++ x ∷ drop (suc r) xs
set_at [] r x inside = absurd (omega arith)
set_at (y ∷ ys) zero x inside = refl
set_at (y ∷ ys) (suc r) x inside = ap (λ v. y ∷ v) (set_at ys r x (omega arith))

pub pieces_in-set : (runs : List Run) (r : ℕ) (d other : Run) → r < length runs
    → pieces_in (set runs r other) + (get_or runs r d).pieces ≡ pieces_in runs + other.pieces
pieces_in-set runs r d other inside = omega (
  arith,
  ap pieces_in (set_at runs r other inside),
  pieces_in-append (take r runs) (other ∷ drop (suc r) runs),
  pieces_in-round runs r d inside,
)

pub pieces_in-remove : (runs : List Run) (r : ℕ) (d : Run) → r < length runs
    → pieces_in (remove runs r) + (get_or runs r d).pieces ≡ pieces_in runs
pieces_in-remove runs r d inside =
    omega (arith, pieces_in-append (take r runs) (drop (suc r) runs), pieces_in-round runs r d inside)

-- and two
halved_list : (runs : List Run) (r : ℕ) (left right : Run) → r < length runs
    → set (insert runs (r + 1) right) r left ≡ take r runs ++ left ∷ right ∷ drop (suc r) runs
halved_list runs r left right inside = rw add-one (cut_list runs r left right inside)

pub pieces_in-halved : (runs : List Run) (r : ℕ) (d left right : Run) → r < length runs
    → left.pieces + right.pieces ≡ (get_or runs r d).pieces
    → pieces_in (set (insert runs (r + 1) right) r left) ≡ pieces_in runs
pieces_in-halved runs r d left right inside parts = omega (
  arith,
  ap pieces_in (halved_list runs r left right inside),
  pieces_in-append (take r runs) (left ∷ right ∷ drop (suc r) runs),
  pieces_in-round runs r d inside,
  parts,
)

-- a run on the way along a list: its place, and the number of the piece after it
pub record Passing (runs : List Run) (texts : List Text) (first r : ℕ) (run : Run) : Type 0 where
  pub at : IsRunAt texts first run
  pub within : first + run.pieces ≤ length texts
  pub some : 0 < run.pieces
  pub next : first + run.pieces ≡ pieces_in (take (r + 1) runs)

pub passing : (runs : List Run) (texts : List Text) (first r : ℕ) (d : Run) → AreRuns runs texts → r < length runs
    → first ≡ pieces_in (take r runs) → Passing runs texts first r (get_or runs r d)
passing runs texts first r d are inside first_is =
    let run = get_or runs r d in
    let here = drop-cons runs r d inside in
    let is = run_in runs texts r run are here in
    rw first_is (record {
      at = is.at;
      within = run_end texts (pieces_in (take r runs)) run is.at;
      some = run_some run is.at.own is.at.is;
      next = sym (pieces_in-at runs r d inside);
    })

-- the runs passed have no more pieces than there are
pub passed : (runs : List Run) (texts : List Text) (first r : ℕ) → AreRuns runs texts → first ≡ pieces_in (take r runs)
    → first ≤ length texts
passed runs texts first r are first_is = omega (arith, pieces_in-le runs texts are, pieces_in-take runs r, first_is)

-- the text before a run and its own, which is what is known after a look at it
pub run_joined : (texts : List Text) (first : ℕ) (run : Run) (at : IsRunAt texts first run)
    → joined (take (first + run.pieces) texts) ≡ joined at.before ++ joined at.own
run_joined texts first run at = ap joined (run_upto texts first run at) ∙ joined-append at.before at.own

-- and how many bytes that is
pub run_bytes : (texts : List Text) (first : ℕ) (run : Run) (at : IsRunAt texts first run)
    → joined_size (take (first + run.pieces) texts) ≡ joined_size (take first texts) + run.whole.len
run_bytes texts first run at = omega (
  arith,
  ap size (run_joined texts first run at),
  size-append (joined at.before) (joined at.own),
  ap joined_size (run_before texts first run at),
  ap (λ w. w.len) at.is.whole,
)

-- some of the pieces take no more bytes than all
pub joined_size-part : (xs : List Text) (m n : ℕ) → joined_size (take n (drop m xs)) ≤ joined_size xs
joined_size-part xs m n = omega (
  arith,
  ap size (joined-split xs m),
  size-append (joined (take m xs)) (joined (drop m xs)),
  joined_size-take (drop m xs) n,
)

-- a look at a run is within the text
pub next_run : (s : Scheme) (texts : List Text) (first : ℕ) (front : Front) (run : Run) (whole : Summary)
    (at : IsRunAt texts first run) → IsFront s (joined (take first texts)) front → whole ≡ run.whole
    → joined_size texts < 2 ^ 63 → IsFollowed s front whole
next_run s texts first front run whole at front_is whole_is short =
    let more = ap size (run_joined texts first run at) ∙ size-append (joined at.before) (joined at.own) in
    record {
      a = joined at.before;
      b = joined at.own;
      front_is = rw (run_before texts first run at) at front_is;
      piece_is = whole_is ∙ at.is.whole;
      some = at.is.some;
      short = omega (arith, more, joined_size-take texts (first + run.pieces));
    }

-- what two lists have in common that differ from a place on up to another
pub record AreSameRound (old new : List Text) (m n n' : ℕ) : Type 0 where
  pub front : take m new ≡ take m old
  pub back : drop n' new ≡ drop n old

pub same_round : (old new before out in_for behind : List Text) (m n n' : ℕ) → old ≡ before ++ (out ++ behind)
    → new ≡ before ++ (in_for ++ behind) → m ≤ length before → length before + length out ≤ n
    → n + length in_for ≡ n' + length out → AreSameRound old new m n n'
same_round old new before out in_for behind m n n' was is le past more =
    let j = n - (length before + length out) in
    let at : length before + (length out + j) ≡ n = omega arith in
    let at' : length before + (length in_for + j) ≡ n' = omega arith in
    let back : drop n old ≡ drop j behind = ap (λ v. drop v old) (sym at)
    ∙ drop_own old before (out ++ behind) (length before) (length out + j) was refl
    ∙ drop_own (out ++ behind) out behind (length out) j refl refl in
    let back' : drop n' new ≡ drop j behind = ap (λ v. drop v new) (sym at')
    ∙ drop_own new before (in_for ++ behind) (length before) (length in_for + j) is refl
    ∙ drop_own (in_for ++ behind) in_for behind (length in_for) j refl refl in
    let front : take m old ≡ take m before = rw was (take-append-le m before (out ++ behind) le) in
    let front' : take m new ≡ take m before = rw is (take-append-le m before (in_for ++ behind) le) in
    record { front = front' ∙ sym front; back = back' ∙ sym back }

-- a run in the place of another, where the texts before and after it stay
pub exchanged : (runs : List Run) (old new : List Text) (r q : ℕ) (run other : Run) → AreRuns runs old
    → drop r runs ≡ run ∷ drop (suc r) runs
    → AreSameRound old new (pieces_in (take r runs)) (pieces_in (take r runs) + run.pieces) (pieces_in (take r runs) + q)
    → IsRun other (take q (drop (pieces_in (take r runs)) new))
    → AreRuns (take r runs ++ other ∷ drop (suc r) runs) new
exchanged runs old new r q run other are here same is =
    let m = pieces_in (take r runs) in
    let was = run_in runs old r run are here in
    let behind : drop q (drop m new) ≡ was.at.after =
    drop-drop q m new ∙ same.back ∙ run_behind old m run was.at in
    let own = take q (drop m new) in
    let split : drop m new ≡ own ++ was.at.after =
    sym (take-append-drop q (drop m new)) ∙ ap (λ x. own ++ x) behind in
    let others : AreRuns (other ∷ drop (suc r) runs) (drop m new) = (own, was.at.after, split, is, was.more) in
    let whole : take m old ++ drop m new ≡ new = ap (λ x. x ++ drop m new) (sym same.front) ∙ take-append-drop m new in
    subst (AreRuns (take r runs ++ other ∷ drop (suc r) runs)) whole
    (renewed runs old r are (other ∷ drop (suc r) runs) (drop m new) others)

-- no run in its place, where no texts are left
pub left_out : (runs : List Run) (old new : List Text) (r : ℕ) (run : Run) → AreRuns runs old
    → drop r runs ≡ run ∷ drop (suc r) runs
    → AreSameRound old new (pieces_in (take r runs)) (pieces_in (take r runs) + run.pieces) (pieces_in (take r runs))
    → AreRuns (take r runs ++ drop (suc r) runs) new
left_out runs old new r run are here same =
    let m = pieces_in (take r runs) in
    let was = run_in runs old r run are here in
    let behind : drop m new ≡ was.at.after = same.back ∙ run_behind old m run was.at in
    let others : AreRuns (drop (suc r) runs) (drop m new) = rw behind was.more in
    let whole : take m old ++ drop m new ≡ new = ap (λ x. x ++ drop m new) (sym same.front) ∙ take-append-drop m new in
    subst (AreRuns (take r runs ++ drop (suc r) runs)) whole
    (renewed runs old r are (drop (suc r) runs) (drop m new) others)

-- two runs in its place
pub halved : (runs : List Run) (texts : List Text) (r h q : ℕ) (run left right : Run) → AreRuns runs texts
    → drop r runs ≡ run ∷ drop (suc r) runs → h + q ≡ run.pieces
    → IsRun left (take h (drop (pieces_in (take r runs)) texts))
    → IsRun right (take q (drop (pieces_in (take r runs) + h) texts))
    → AreRuns (take r runs ++ left ∷ right ∷ drop (suc r) runs) texts
halved runs texts r h q run left right are here parts is_left is_right =
    let m = pieces_in (take r runs) in
    let was = run_in runs texts r run are here in
    let rest = drop h (drop m texts) in
    let same : drop (m + h) texts ≡ rest = sym (drop-drop h m texts) in
    let behind : drop q rest ≡ was.at.after = drop-drop q h (drop m texts) ∙ ap (λ n. drop n (drop m texts)) parts
    ∙ drop-drop run.pieces m texts ∙ run_behind texts m run was.at in
    let split : rest ≡ take q rest ++ was.at.after =
    sym (take-append-drop q rest) ∙ ap (λ x. take q rest ++ x) behind in
    let second : IsRun right (take q rest) = rw same at is_right in
    let others : AreRuns (right ∷ drop (suc r) runs) rest = (take q rest, was.at.after, split, second, was.more) in
    let both : AreRuns (left ∷ right ∷ drop (suc r) runs) (drop m texts) =
    (take h (drop m texts), rest, sym (take-append-drop h (drop m texts)), is_left, others) in
    subst (AreRuns (take r runs ++ left ∷ right ∷ drop (suc r) runs)) (take-append-drop m texts)
    (renewed runs texts r are (left ∷ right ∷ drop (suc r) runs) (drop m texts) both)

-- one run more, of texts that are in none
pub gathered : (runs : List Run) (texts : List Text) (q : ℕ) (run : Run) → AreRuns runs texts
    → IsRun run (take q (drop (pieces_in runs) texts)) → AreRuns (runs ++ run ∷ []) texts
gathered runs texts q run are is =
    let m = pieces_in runs in
    let all : take (length runs) runs ≡ runs = take_all (length runs) runs (omega arith) in
    let rest = drop m texts in
    let last : AreRuns (run ∷ []) rest = (take q rest, drop q rest, sym (take-append-drop q rest), is, tt) in
    subst (AreRuns (runs ++ run ∷ [])) (take-append-drop m texts)
    (rw all at (renewed runs texts (length runs) are (run ∷ []) rest last))

-- texts after the runs may change
pub after_runs : (runs : List Run) (old new : List Text) → AreRuns runs old
    → take (pieces_in runs) new ≡ take (pieces_in runs) old → AreRuns runs new
after_runs runs old new are same =
    let m = pieces_in runs in
    let all : take (length runs) runs ≡ runs = take_all (length runs) runs (omega arith) in
    let kept = rw (all, append-nil runs) at (renewed runs old (length runs) are [] (drop m new) tt) in
    subst (AreRuns runs) (ap (λ x. x ++ drop m new) (sym same) ∙ take-append-drop m new) kept

-- what a change of one piece leaves of the texts round the run that it is in
abbrev pub AreSameAt : List Run → List Text → List Text → ℕ → Run → ℕ → Type 0
AreSameAt runs old new r run q =
    AreSameRound old new (pieces_in (take r runs)) (pieces_in (take r runs) + run.pieces) (pieces_in (take r runs) + q)

pub swapped_at : (runs : List Run) (old new : List Text) (at r : ℕ) (d : Run) (swap : Swap) → IsSwap old new at swap
    → swap.gone ≤ 1 → r < length runs → pieces_in (take r runs) ≤ at → at < pieces_in (take (r + 1) runs)
    → AreSameAt runs old new r (get_or runs r d) ((get_or runs r d).pieces - swap.gone + swap.come)
swapped_at runs old new at r d swap is one inside past within =
    let more = pieces_in-at runs r d inside in
    let m = pieces_in (take r runs) in
    let n = (get_or runs r d).pieces in
    same_round old new is.before is.gone is.come is.after m (m + n) (m + (n - swap.gone + swap.come)) is.was is.is
    (omega (arith, is.place, past)) (omega (arith, is.place, is.gone_count, one, within, more))
    (omega (arith, is.gone_count, is.come_count, one, past, within, more))

-- the runs with another one in that place, or none
pub put_at : (runs : List Run) (old new : List Text) (r q : ℕ) (d other : Run) → AreRuns runs old → r < length runs
    → AreSameAt runs old new r (get_or runs r d) q → IsRun other (take q (drop (pieces_in (take r runs)) new))
    → AreRuns (set runs r other) new
put_at runs old new r q d other are inside same is =
    rw (set_at runs r other inside)
    (exchanged runs old new r q (get_or runs r d) other are (drop-cons runs r d inside) same is)

pub gone_at : (runs : List Run) (old new : List Text) (r : ℕ) (d : Run) → AreRuns runs old → r < length runs
    → AreSameAt runs old new r (get_or runs r d) 0 → AreRuns (remove runs r) new
gone_at runs old new r d are inside same = left_out runs old new r (get_or runs r d) are (drop-cons runs r d inside)
    (record { front = same.front; back = rw add-zero at same.back })

-- two in the place of one
pub halved_at : (runs : List Run) (texts : List Text) (r h : ℕ) (d left right : Run) → AreRuns runs texts
    → r < length runs → h ≤ (get_or runs r d).pieces
    → IsRun left (take h (drop (pieces_in (take r runs)) texts))
    → IsRun right (take ((get_or runs r d).pieces - h) (drop (pieces_in (take r runs) + h) texts))
    → AreRuns (set (insert runs (r + 1) right) r left) texts
halved_at runs texts r h d left right are inside le is_left is_right =
    rw (halved_list runs r left right inside)
    (halved runs texts r h ((get_or runs r d).pieces - h) (get_or runs r d) left right are (drop-cons runs r d inside)
    (omega arith) is_left is_right)

-- some texts of a list from one on, by those of a part of it
window : (xs before mid behind : List Text) (first n j : ℕ) → xs ≡ before ++ (mid ++ behind) → first ≤ length before
    → n ≡ length before - first + (length mid + j) → take n (drop first xs) ≡ drop first before ++ (mid ++ take j behind)
window xs before mid behind first n j split le count =
    let from : drop first xs ≡ drop first before ++ (mid ++ behind) =
    ap (drop first) split ∙ drop-append-le first before (mid ++ behind) le in
    ap (λ k. take k (drop first xs)) count
    ∙ take_own (drop first xs) (drop first before) (mid ++ behind) (length before - first) (length mid + j) from
    (length-drop first before)
    ∙ ap (λ x. drop first before ++ x) (take_own (mid ++ behind) mid behind (length mid) j refl refl)

-- all that a swap in a run stands on
pub record SwappedAt (runs : List Run) (new : List Text) (at r first : ℕ) (run : Run) (swap : Swap) : Type 0 where
  pub gone_le : swap.gone ≤ run.pieces
  pub gone_le_all : swap.gone ≤ pieces_in runs
  pub fits : pieces_in runs - swap.gone + swap.come ≤ length new
  pub within : first + (run.pieces - swap.gone + swap.come) ≤ length new
  pub own : IsRunSwapped run (take (run.pieces - swap.gone + swap.come) (drop first new)) (at - first) swap
  pub put : (other : Run) → IsRun other (take (run.pieces - swap.gone + swap.come) (drop first new))
      → AreRuns (set runs r other) new
  pub none : run.pieces - swap.gone + swap.come ≡ 0 → AreRuns (remove runs r) new
  pub count : (other : Run) → other.pieces ≡ run.pieces - swap.gone + swap.come
      → pieces_in (set runs r other) ≡ pieces_in runs - swap.gone + swap.come
  pub count_none : run.pieces - swap.gone + swap.come ≡ 0 → pieces_in (remove runs r) ≡ pieces_in runs - swap.gone + swap.come

pub swapped_there : (runs items : List Run) (new : List Text) (at r first : ℕ) (run : Run) (swap : Swap) → items ≡ runs
    → Swapped runs new at swap → r < length runs → first ≡ pieces_in (take r runs) → first ≤ at
    → at < pieces_in (take (r + 1) runs) → run ≡ get_or items r run → SwappedAt items new at r first run swap
swapped_there runs items new at r first run swap view swapped inside first_is past within run_is =
    rw view (
    let d = run in
    let is : run ≡ get_or runs r d = run_is ∙ ap (λ v. get_or v r d) view in
    let n = ap (λ v. v.pieces) is in
    let old = swapped.old in
    let sw = swapped.swap_is in
    let place = passing runs old first r d swapped.are inside first_is in
    let all = pieces_in-le runs old swapped.are in
    let round = pieces_in-round runs r d inside in
    let more = pieces_in-at runs r d inside in
    let was_length : length old ≡ length sw.before + (length sw.gone + length sw.after) =
    ap length sw.was ∙ length-append sw.before (sw.gone ++ sw.after)
    ∙ ap (λ k. length sw.before + k) (length-append sw.gone sw.after) in
    let is_length : length new ≡ length sw.before + (length sw.come + length sw.after) =
    ap length sw.is ∙ length-append sw.before (sw.come ++ sw.after)
    ∙ ap (λ k. length sw.before + k) (length-append sw.come sw.after) in
    let same = swapped_at runs old new at r d swap sw swapped.one inside (omega (arith, past, first_is)) within in
    let own_run : IsRun run place.at.own = subst (λ v. IsRun v place.at.own) (sym is) place.at.is in
    let own_is : take run.pieces (drop first old) ≡ place.at.own =
    ap (λ k. take k (drop first old)) n ∙ run_own old first (get_or runs r d) place.at in
    let j = run.pieces - (at - first) - swap.gone in
    let fits : at - first + swap.gone ≤ run.pieces = omega (arith, past, within, more, first_is, swapped.one, n) in
    let was : take run.pieces (drop first old) ≡ drop first sw.before ++ (sw.gone ++ take j sw.after) =
    window old sw.before sw.gone sw.after first run.pieces j sw.was (omega (arith, sw.place, past))
    (omega (arith, sw.place, sw.gone_count, fits, past)) in
    let now : take (run.pieces - swap.gone + swap.come) (drop first new)
    ≡ drop first sw.before ++ (sw.come ++ take j sw.after) =
    window new sw.before sw.come sw.after first (run.pieces - swap.gone + swap.come) j sw.is (omega (arith, sw.place, past))
    (omega (arith, sw.place, sw.come_count, fits, past)) in
    record {
      gone_le = omega (arith, fits);
      gone_le_all = omega (arith, fits, round, n);
      fits = omega (arith, all, was_length, is_length, sw.gone_count, sw.come_count);
      within = omega (arith, place.within, was_length, is_length, sw.gone_count, sw.come_count, n, fits);
      own = record {
        old = take run.pieces (drop first old);
        is = rw own_is own_run;
        swap_is = record {
          before = drop first sw.before;
          gone = sw.gone;
          come = sw.come;
          after = take j sw.after;
          was = was;
          is = now;
          place = omega (arith, length-drop first sw.before, sw.place);
          gone_count = sw.gone_count;
          come_count = sw.come_count;
          out = sw.out;
          own = sw.own;
        };
        short = omega (arith, joined_size-part old first run.pieces, swapped.short);
      };
      put = λ other other_is. put_at runs old new r ((get_or runs r d).pieces - swap.gone + swap.come) d other swapped.are
          inside same (rw (← is, ← first_is) other_is);
      none = λ none.
          let zero_is : (get_or runs r d).pieces - swap.gone + swap.come ≡ 0 = omega (arith, none, n) in
          gone_at runs old new r d swapped.are inside (rw zero_is at same);
      count = λ other count. omega (arith, pieces_in-set runs r d other inside, count, n, fits, round);
      count_none = λ none. omega (arith, pieces_in-remove runs r d inside, none, n, fits, round);
    }
    )

-- a swap in the texts of a run: what stays, and the joined texts
pub record RunSwap (run : Run) (new : List Text) (at : ℕ) (swap : Swap) (is : IsRunSwapped run new at swap) : Type 0 where
  pub before : take at new ≡ is.swap_is.before
  pub after : drop (at + swap.come) new ≡ is.swap_is.after
  pub old_joined : joined is.old
      ≡ joined is.swap_is.before ++ (joined is.swap_is.gone ++ joined is.swap_is.after)
  pub new_joined : joined new ≡ joined is.swap_is.before ++ (joined is.swap_is.come ++ joined is.swap_is.after)
  pub within : at ≤ length new

joined_round : (before mid behind : List Text) → joined (before ++ (mid ++ behind)) ≡ joined before ++ (joined mid ++ joined behind)
joined_round before mid behind =
    joined-append before (mid ++ behind) ∙ ap (λ x. joined before ++ x) (joined-append mid behind)

pub run_swap : (run : Run) (new : List Text) (at : ℕ) (swap : Swap) (is : IsRunSwapped run new at swap)
    → RunSwap run new at swap is
run_swap run new at swap is =
    let sw = is.swap_is in
    record {
      before = ap (take at) sw.is ∙ take_at sw.before (sw.come ++ sw.after) at sw.place;
      after = drop_own new sw.before (sw.come ++ sw.after) at swap.come sw.is sw.place
          ∙ rw (← sw.come_count) (drop-append_seam sw.come sw.after);
      old_joined = ap joined sw.was ∙ joined_round sw.before sw.gone sw.after;
      new_joined = ap joined sw.is ∙ joined_round sw.before sw.come sw.after;
      within = omega (arith, ap length sw.is, length-append sw.before (sw.come ++ sw.after), sw.place);
    }

-- without the last run the texts are in fewer
pub without_last : (runs : List Run) (last : Run) (texts : List Text) → AreRuns (runs ++ last ∷ []) texts → AreRuns runs texts
without_last [] last texts are = tt
without_last (run ∷ runs) last texts (own, rest, split, is, more) = (own, rest, split, is, without_last runs last rest more)

-- and of one that is halved
pub record HalvedAt (runs : List Run) (texts : List Text) (r first : ℕ) (run : Run) (h : ℕ) : Type 0 where
  pub within : first + run.pieces ≤ length texts
  pub both : (left right : Run) → IsRun left (take h (drop first texts))
      → IsRun right (take (run.pieces - h) (drop (first + h) texts)) → AreRuns (set (insert runs (r + 1) right) r left) texts
  pub count : (left right : Run) → left.pieces ≡ h → right.pieces ≡ run.pieces - h
      → pieces_in (set (insert runs (r + 1) right) r left) ≡ pieces_in runs

pub halved_there : (runs items : List Run) (texts : List Text) (r first h : ℕ) (run : Run) → items ≡ runs
    → AreRuns runs texts → r < length runs → first ≡ pieces_in (take r runs) → run ≡ get_or items r run → h ≤ run.pieces
    → HalvedAt items texts r first run h
halved_there runs items texts r first h run view are inside first_is run_is le =
    rw view (
    let d = run in
    let is : run ≡ get_or runs r d = run_is ∙ ap (λ v. get_or v r d) view in
    let own = ap (λ v. v.pieces) is in
    let place = passing runs texts first r d are inside first_is in
    record {
      within = omega (arith, place.within, own);
      both = λ left right is_left is_right. halved_at runs texts r h d left right are inside (omega (arith, own, le))
          (rw (← first_is) is_left) (rw (← is, ← first_is) is_right);
      count = λ left right left_is right_is. pieces_in-halved runs r d left right inside
          (omega (arith, left_is, right_is, own, le));
    }
    )

-- a swap after the runs leaves them as they are
pub swapped_after : (runs : List Run) (new : List Text) (at : ℕ) (swap : Swap) → Swapped runs new at swap
    → pieces_in runs ≤ at → AreRuns runs new
swapped_after runs new at swap swapped past =
    let sw = swapped.swap_is in
    let same = same_round swapped.old new sw.before sw.gone sw.come sw.after (pieces_in runs) (at + length sw.gone)
    (at + length sw.come) sw.was sw.is (omega (arith, sw.place, past)) (omega (arith, sw.place)) (omega arith) in
    after_runs runs swapped.old new swapped.are same.front

-- a piece put in, one taken out, and one cut in two, is such a swap
pub swap_in : (old new : List Text) (at : ℕ) (text : Text) (swap : Swap) → at ≤ length old → new ≡ insert old at text
    → swap.gone ≡ 0 → swap.come ≡ 1 → swap.out ≡ summary_of [] → swap.own ≡ summary_of text → IsSwap old new at swap
swap_in old new at text swap within is gone come out own = record {
  before = take at old;
  gone = [];
  come = text ∷ [];
  after = drop at old;
  was = sym (take-append-drop at old);
  is = is;
  place = length-take-le at old within;
  gone_count = sym gone;
  come_count = sym come;
  out = out;
  own = own ∙ ap summary_of (sym (append-nil text));
}

pub swap_out : (old new : List Text) (at : ℕ) (swap : Swap) → at < length old → new ≡ remove old at
    → swap.gone ≡ 1 → swap.come ≡ 0 → swap.out ≡ summary_of (piece_at old at) → swap.own ≡ summary_of []
    → IsSwap old new at swap
swap_out old new at swap inside is gone come out own = record {
  before = take at old;
  gone = piece_at old at ∷ [];
  come = [];
  after = drop (suc at) old;
  was = sym (take-append-drop at old) ∙ ap (λ x. take at old ++ x) (drop-piece old at inside);
  is = is;
  place = length-take-le at old (omega (arith, inside));
  gone_count = sym gone;
  come_count = sym come;
  out = out ∙ ap summary_of (sym (append-nil (piece_at old at)));
  own = own;
}

pub swap_cut : (old new : List Text) (i : ℕ) (left right : Text) (swap : Swap) → i < length old
    → new ≡ set (insert old (i + 1) right) i left → piece_at old i ≡ left ++ right → swap.gone ≡ 1 → swap.come ≡ 2
    → swap.out ≡ summary_of (piece_at old i) → swap.own ≡ summary_of (piece_at old i) → IsSwap old new i swap
swap_cut old new i left right swap inside is halves gone come out own = record {
  before = take i old;
  gone = piece_at old i ∷ [];
  come = left ∷ right ∷ [];
  after = drop (suc i) old;
  was = sym (take-append-drop i old) ∙ ap (λ x. take i old ++ x) (drop-piece old i inside);
  is = is ∙ rw add-one (cut_list old i left right inside);
  place = length-take-le i old (omega (arith, inside));
  gone_count = sym gone;
  come_count = sym come;
  out = out ∙ ap summary_of (sym (append-nil (piece_at old i)));
  own = own ∙ ap summary_of (halves ∙ ap (λ x. left ++ x) (sym (append-nil right)));
}

-- The summary of some first pieces, and of one more or of a run more.

-- one more
pub piece_summed : (texts : List Text) (i : ℕ) (whole own : Summary) → i < length texts → whole ≡ summary_of (joined (take i texts))
    → own ≡ summary_of (piece_at texts i) → joined_size texts < 2 ^ 63 → AreSummaries whole own
piece_summed texts i whole own inside whole_is own_is short =
    let more = ap size (joined-take texts i inside) ∙ size-append (joined (take i texts)) (piece_at texts i) in
    record {
      a = joined (take i texts);
      b = piece_at texts i;
      front_is = whole_is;
      after_is = own_is;
      short = omega (arith, more, joined_size-take texts (i + 1), short);
    }

-- a run more
pub run_summed : (texts : List Text) (first : ℕ) (run : Run) (whole own : Summary) (at : IsRunAt texts first run)
    → whole ≡ summary_of (joined (take first texts)) → own ≡ run.whole → joined_size texts < 2 ^ 63 → AreSummaries whole own
run_summed texts first run whole own at whole_is own_is short =
    let more = ap size (run_joined texts first run at) ∙ size-append (joined at.before) (joined at.own) in
    record {
      a = joined at.before;
      b = joined at.own;
      front_is = whole_is ∙ ap (λ t. summary_of (joined t)) (run_before texts first run at);
      after_is = own_is ∙ at.is.whole;
      short = omega (arith, more, joined_size-take texts (first + run.pieces), short);
    }
