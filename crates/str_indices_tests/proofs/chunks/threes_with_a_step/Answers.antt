use Rattle.str_indices_tests.proofs.Common.{◌≡◌, ℕ, ◌+◌, ◌-◌, ◌<◌, ◌≤◌, get_or, replicate, ap₂, ◌∙◌, arith, length-replicate, get_or-replicate, get_or-set_other, get_or-zip2, Each1-replicate, Each2-of, zip2}
use Rattle.str_indices_tests.proofs.chunks.threes_with_a_step.Goals as goal

-- a lane of the difference of a chunk of fives and one of twos
lane_of_threes : (n k : ℕ) → k < n → get_or (zip2 (λ a b. a - b) (replicate n 5) (replicate n 2)) k 0 ≡ 3
lane_of_threes n k below =
    get_or-zip2 (λ a b. a - b) (replicate n 5) (replicate n 2) k 0 0 0 (omega (arith, length-replicate {A = ℕ} n 5))
    (omega (arith, length-replicate {A = ℕ} n 2))
    ∙ ap₂ (λ a b. a - b) (get_or-replicate n k 5 0 below) (get_or-replicate n k 2 0 below)

pub sub-requires : goal.sub-requires
sub-requires g c =
    let n = g.T.ByteChunk.SIZE in
    rw (c.splat.ensures, c.splat-2.ensures)
    (Each2-of (λ a. 5 ≤ a) (λ b. b ≤ 2) (λ a b. b ≤ a) (λ a b p q. omega arith) (replicate n 5) (replicate n 2)
    (Each1-replicate (λ a. 5 ≤ a) n 5 (omega arith)) (Each1-replicate (λ b. b ≤ 2) n 2 (omega arith)))

pub inc_nth_from_end_lex_byte-requires-clause-room :
    goal.inc_nth_from_end_lex_byte-requires-clause-room
inc_nth_from_end_lex_byte-requires-clause-room g c =
    let n = g.T.ByteChunk.SIZE in
    let lawful = g.met.T.ByteChunk.lawful in
    rw (c.sub.ensures, c.splat.ensures, c.splat-2.ensures)
    (omega (arith, lane_of_threes n (n - 1 - 1) (omega (arith, lawful.least))))

pub dec_last_lex_byte-requires : goal.dec_last_lex_byte-requires
dec_last_lex_byte-requires g c =
    let n = g.T.ByteChunk.SIZE in
    let lawful = g.met.T.ByteChunk.lawful in
    let lanes = g.T.ByteChunk.lanes c.sub.result in
    let three : get_or lanes (n - 1) 0 ≡ 3 = rw (c.sub.ensures, c.splat.ensures, c.splat-2.ensures)
    (lane_of_threes n (n - 1) (omega (arith, lawful.least))) in
    rw c.inc_nth_from_end_lex_byte.ensures
    (omega (
      arith,
      get_or-set_other lanes (n - 1 - 1) (n - 1) (get_or lanes (n - 1 - 1) 0 + 1) 0
          (omega (arith, lawful.least)),
      three,
    ))
