-- Lists that are made lane by lane: what an array's `map` and `from_fn` give by a closure that its calls leave as it
-- is.
use Rattle.byte_chunk.proofs.lemmas.Common.{◌≡◌, ℕ, zero, suc, ◌+◌, ◌-◌, ◌/◌, ◌%◌, ◌^◌, ◌<◌, ◌≤◌, Fits, w8, List, [], ◌∷◌, map, length, replicate, get_or, inl, inr, refl, sym, ap, ap₂, ◌∙◌, subst, arith, mod-eq_of_lt, cases_lt, length-map, ext_get_or, get_or-map, shr_below, length-zip2, get_or-zip2, zip2, Each1, Each2}
use Rattle.std.specs.Array.{IsMapOf, MapsFrom, IsFromFnResult, IsFromFnResultFrom}
use Rattle.std.specs.Iterator.{ActsAs}
use denote.Param.Members.{Mut}

module _ {F : Type 0} {g : Mut F (ℕ × Unit {0}) ℕ} {closure : F} where
  -- the calls at the n lanes from place i on gave f of each lane
  mapped : (f : ℕ → ℕ) → ActsAs g closure f → (xs ys : List ℕ) (i n : ℕ) → MapsFrom g closure xs ys i n → (k : ℕ)
      → i ≤ k → k < i + n → get_or ys k 0 ≡ f (get_or xs k 0)
  mapped f acts xs ys i zero made k from below = absurd (omega arith)
  mapped f acts xs ys i (suc n) (left, x, y, taken, given, call, rest) k from below =
      let did = acts x y left call in
      elim (cases_lt i k) [
        | inl later ↦ mapped f acts xs ys (i + 1) n (subst (λ c. MapsFrom g c xs ys (i + 1) n) did.0 rest) k
            (omega arith) (omega arith)
        | inr here ↦
            let same : k ≡ i = omega arith in
            ap (λ j. get_or ys j 0) same ∙ given.1 0 ∙ did.1 ∙ ap f (sym (ap (λ j. get_or xs j 0) same ∙ taken.1 0))
      ]

  -- `map` by a closure that acts as f maps the lanes by f
  pub map_of-calls : (f : ℕ → ℕ) (n : ℕ) (xs ys : List ℕ) → ActsAs g closure f → length xs ≡ n
      → IsMapOf g closure xs ys n → ys ≡ map f xs
  map_of-calls f n xs ys acts long made =
      let same : length ys ≡ length xs = made.long ∙ sym long in
      ext_get_or 0 ys (map f xs) (same ∙ sym (length-map xs f)) (λ k below.
      mapped f acts xs ys 0 n made.each k (omega arith) (omega (arith, made.long))
      ∙ sym (get_or-map f xs k 0 0 (omega arith)))

  -- the calls at the n places from i on gave f of each place
  filled : (f : ℕ → ℕ) → ActsAs g closure f → (ys : List ℕ) (i n : ℕ) → IsFromFnResultFrom g closure ys i n → (k : ℕ)
      → i ≤ k → k < i + n → get_or ys k 0 ≡ f k
  filled f acts ys i zero made k from below = absurd (omega arith)
  filled f acts ys i (suc n) (left, y, given, call, rest) k from below =
      let did = acts i y left call in
      elim (cases_lt i k) [
        | inl later ↦ filled f acts ys (i + 1) n (subst (λ c. IsFromFnResultFrom g c ys (i + 1) n) did.0 rest) k
            (omega arith) (omega arith)
        | inr here ↦
            let same : k ≡ i = omega arith in
            ap (λ j. get_or ys j 0) same ∙ given.1 0 ∙ did.1 ∙ ap f (sym same)
      ]

  -- `from_fn` by a closure that gives each lane of zs at its place gives zs
  pub list_of-calls : (f : ℕ → ℕ) (n : ℕ) (zs ys : List ℕ) → ActsAs g closure f → length zs ≡ n
      → ((k : ℕ) → k < n → f k ≡ get_or zs k 0) → IsFromFnResult g closure ys n → ys ≡ zs
  list_of-calls f n zs ys acts long same made =
      ext_get_or 0 ys zs (made.long ∙ sym long) (λ k below.
      filled f acts ys 0 n made.each k (omega arith) (omega (arith, made.long)) ∙ same k (omega (arith, made.long)))

  -- `from_fn` by a closure that gives f of two lists' lanes at its place joins them by f
  pub zip2_of-calls : (f : ℕ → ℕ → ℕ) (n : ℕ) (xs ys zs : List ℕ)
      → ActsAs g closure (λ k. f (get_or xs k 0) (get_or ys k 0)) → length xs ≡ n → length ys ≡ n
      → IsFromFnResult g closure zs n → zs ≡ zip2 f xs ys
  zip2_of-calls f n xs ys zs acts long long' made =
      list_of-calls _ n (zip2 f xs ys) zs acts (length-zip2 f xs ys (long ∙ sym long') ∙ long) (λ k below.
      sym (get_or-zip2 f xs ys k 0 0 0 (omega arith) (omega arith))) made

-- if P holds of each two lanes, it holds of those at place k
pub Each2-get_or : (P : ℕ → ℕ → Type 0) (xs ys : List ℕ) (k : ℕ) → k < length xs → k < length ys → Each2 P xs ys
    → P (get_or xs k 0) (get_or ys k 0)
Each2-get_or P [] ys k in_xs in_ys each = absurd (omega arith)
Each2-get_or P (x ∷ xs) [] k in_xs in_ys each = absurd (omega arith)
Each2-get_or P (x ∷ xs) (y ∷ ys) zero in_xs in_ys each = each.0
Each2-get_or P (x ∷ xs) (y ∷ ys) (suc k) in_xs in_ys each = Each2-get_or P xs ys k (omega arith) (omega arith) each.1

-- if P holds of a and b, it holds of each two lanes that are a and b
pub Each2-replicate : (P : ℕ → ℕ → Type 0) (n a b : ℕ) → P a b → Each2 P (replicate n a) (replicate n b)
Each2-replicate P zero a b holds = tt
Each2-replicate P (suc n) a b holds = (holds, Each2-replicate P n a b holds)

-- a byte shifted right by n bits has no bit above the low 8 - n
low_bits : (n byte : ℕ) → n ≤ 8 → byte < 256 → byte / 2 ^ n % 2 ^ (8 - n) ≡ byte / 2 ^ n
low_bits n byte few small =
    let all : 8 - n + n ≡ 8 = omega arith in
    mod-eq_of_lt (shr_below byte (8 - n) n (rw all small))

-- so it is with each byte of a list
pub low_bits_of_each : (n : ℕ) (bytes : List ℕ) → n ≤ 8 → Each1 (Fits w8) bytes
    → map (λ lane. lane % 2 ^ (8 - n)) (map (λ lane. lane / 2 ^ n) bytes) ≡ map (λ lane. lane / 2 ^ n) bytes
low_bits_of_each n [] few fits = refl
low_bits_of_each n (byte ∷ bytes) few (here, rest) =
    ap₂ (λ lane lanes. lane ∷ lanes) (low_bits n byte few here.fits) (low_bits_of_each n bytes few rest)
