use Rattle.str_indices_tests.proofs.Common.{◌≡◌, ℕ, zero, suc, ◌+◌, ◌≤◌, ◌∷◌, replicate, refl, ap, arith, Each1-replicate, zip2, Each2-replicate}
use Rattle.str_indices_tests.proofs.chunks.sum_of_ones.Goals as goal

-- one more in each lane
zip2-replicate : (n a b : ℕ) → zip2 (λ x y. x + y) (replicate n a) (replicate n b) ≡ replicate n (a + b)
zip2-replicate zero a b = refl
zip2-replicate (suc n) a b = ap (λ l. (a + b) ∷ l) (zip2-replicate n a b)

pub add-sums-requires : goal.add-sums-requires
add-sums-requires g c =
    rw (c.rounds.invariant, c.splat.ensures)
    (Each2-replicate (λ x y. x + y ≤ 255) g.T.ByteChunk.SIZE c.rounds.counter 1
    (omega (arith, g.met.T.ByteChunk.lawful.fits)))

pub rounds-preserved : goal.rounds-preserved
rounds-preserved g c =
    rw (c.add-sums.ensures, c.rounds.invariant, c.splat.ensures) (zip2-replicate g.T.ByteChunk.SIZE c.rounds.counter 1)

pub sum_bytes-requires : goal.sum_bytes-requires
sum_bytes-requires g c =
    rw c.rounds.invariant (Each1-replicate (λ lane. lane ≤ g.T.ByteChunk.MAX_ACC) g.T.ByteChunk.SIZE c.rounds.counter
    (omega arith))
