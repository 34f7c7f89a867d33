use Rattle.byte_chunk.proofs.lemmas.{◌≡◌, ℕ, zero, suc, ◌+◌, ◌-◌, ◌<◌, List, [], ◌∷◌, nat_eq, if◌then◌else◌, get_or, drop, take, ◌++◌, refl, sym, ap, ◌∙◌, rules, arith, nat_tests, drop_more, drop_all, length-take-le, get_or-take, list_of-calls}
use Rattle.byte_chunk.proofs.chunks.plain_array.PlainByteChunk.shift_across.Goals as goal

-- the lanes of a list that starts with x and goes on with the first n of ys
get_or-after : (x : ℕ) (ys : List ℕ) (n k : ℕ) → k < n + 1
    → (if nat_eq k 0 then x else get_or ys (k - 1) 0) ≡ get_or (x ∷ take n ys) k 0
get_or-after x ys n zero below = refl
get_or-after x ys n (suc k) below =
    let before : suc k - 1 ≡ k = omega arith in
    rw (before, get_or-take n ys k 0 (omega arith)) (grind (arith, nat_tests))

pub returns : goal.returns
returns c =
    let these = c.args.self.now.0 in
    let those = c.args.n.0 in
    let last : ℕ = get_or these 7 0 in
    let lane_of : ℕ → ℕ = λ i. if nat_eq i 0 then last else get_or those (i - 1) 0 in
    let end : drop 7 these ≡ last ∷ [] = drop_more these 7 0 (omega arith)
    ∙ ap (λ l. last ∷ l) (drop_all 8 these (omega arith)) in
    list_of-calls lane_of 8 (last ∷ take 7 those) c.from_fn.result (λ i lane left call. search rules)
    (omega (arith, length-take-le 7 those))
    (λ k below. get_or-after last those 7 k below) c.from_fn.ensures.items
    ∙ ap (λ l. l ++ take 7 those) (sym end)
