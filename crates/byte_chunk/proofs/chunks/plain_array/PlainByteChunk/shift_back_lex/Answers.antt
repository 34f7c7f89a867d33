use Rattle.byte_chunk.proofs.lemmas.{◌≡◌, ℕ, ◌+◌, ◌<◌, ◌≤◌, List, nat_lt, if◌then◌else◌, length, get_or, drop, replicate, ◌++◌, rules, arith, nat_tests, common_steps, length-append, length-drop, length-replicate, get_or-replicate, list_of-calls}
use Rattle.byte_chunk.proofs.chunks.plain_array.PlainByteChunk.shift_back_lex.Goals as goal

-- the lanes of a list whose first n are dropped, with n lanes 0 after the rest
get_or-moved : (n size : ℕ) (xs : List ℕ) (k : ℕ) → length xs ≡ size → n ≤ size → k < size
    → (if nat_lt (k + n) size then get_or xs (k + n) 0 else 0) ≡ get_or (drop n xs ++ replicate n 0) k 0
get_or-moved n size xs k long few below = grind (arith, nat_tests, common_steps, get_or-replicate)

pub returns : goal.returns
returns c =
    let n = c.args.n in
    let lanes = c.args.self.now.0 in
    let lane_of : ℕ → ℕ = λ i. if nat_lt (i + n) 8 then get_or lanes (i + n) 0 else 0 in
    let long : length (drop n lanes ++ replicate n 0) ≡ 8 =
    simp (length-append, length-drop, length-replicate) (omega arith) in
    list_of-calls lane_of 8 (drop n lanes ++ replicate n 0) c.from_fn.result (λ i lane left call. search rules) long
    (λ k below. get_or-moved n 8 lanes k (omega arith) (omega arith) below) c.from_fn.ensures.items
