-- How high a tree is, and what changes and questions cost.
use Rattle.std.proofs.Math.Pow.{pow_mono}
use Rattle.std.specs.Prelude.{min}
use Rattle.text_rope.specs.Work.{WorkState, Costs, IsHeightOf, TakesLog}
use Rattle.text_rope.proofs.lemmas.Common.{◌≡◌, ℕ, zero, suc, ◌+◌, ◌-◌, ◌*◌, ◌/◌, ◌^◌, ◌<◌, ◌≤◌, inl, inr, arith, max, min_chunk, cases_lt, mul-le-mul, DifferByAtMost, fewest, length, refl, sym, ◌∙◌, ap}
use Rattle.std.proofs.Common.{pow-add}
use Rattle.std.proofs.Math.Nat.{one-mul, pow-zero, pow-suc, pow-le-pow_right}
use Rattle.text_rope.specs.Looks.{Asks}
use Rattle.text_rope.specs.States.{RopeState}

-- ---- how many chunks a tree of a height has, and what its changes cost

-- more for a greater height
pub fewest-suc : (h : ℕ) → fewest h + 1 ≤ fewest (suc h)
fewest-suc zero = omega arith
fewest-suc (suc zero) = omega arith
fewest-suc (suc (suc h)) = omega (arith, fewest-suc h, fewest-suc (suc h))

-- and at most twice as many
pub fewest-twice : (h : ℕ) → fewest (suc h) ≤ 2 * fewest h
fewest-twice zero = omega arith
fewest-twice (suc h) = omega (arith, fewest-suc h)

same_height : (l nl nr : ℕ) → fewest l ≤ nl → fewest l ≤ nr → fewest (suc l) ≤ nl + nr
same_height l nl nr left right = omega (arith, fewest-twice l)

one_higher : (r nl nr : ℕ) → fewest (suc r) ≤ nl → fewest r ≤ nr → fewest (suc (suc r)) ≤ nl + nr
one_higher r nl nr left right = omega arith

-- a branch has enough chunks where both trees have
pub fewest-branch : (l r nl nr h : ℕ) → h ≡ max l r + 1 → fewest l ≤ nl → fewest r ≤ nr → DifferByAtMost 1 l r
    → fewest h ≤ nl + nr
fewest-branch l r nl nr h is left right near =
    elim (cases_lt l r) [
      | inl less ↦
          let r_is : r ≡ suc l = omega (arith, near.left, near.right) in
          let h_is : h ≡ suc (suc l) = omega arith in
          rw h_is (omega (arith, one_higher l nr nl (rw r_is at right) left))
      | inr more ↦ elim (cases_lt r l) [
        | inl less ↦
            let l_is : l ≡ suc r = omega (arith, near.left, near.right) in
            let h_is : h ≡ suc (suc r) = omega arith in
            rw h_is (one_higher r nl nr (rw l_is at left) right)
        | inr same ↦
            let l_is : r ≡ l = omega arith in
            let h_is : h ≡ suc l = omega arith in
            rw h_is (same_height l nl nr left (rw l_is at right))
      ]
    ]

-- half of a number, squared
square-le : (a b : ℕ) → 2 * b ≤ a → 4 * (b * b) ≤ a * a
square-le a b le = omega (arith, mul-le-mul le le)

-- the square of one more doubles with each level, so the height is at most twice the logarithm
pub fewest-square : (h : ℕ) → 2 * 2 ^ h ≤ (fewest h + 1) * (fewest h + 1)
fewest-square zero = omega arith
fewest-square (suc zero) = omega arith
fewest-square (suc (suc h)) = omega (
  arith,
  fewest-square h,
  square-le (fewest (suc h) + fewest h + 1) (fewest h + 1) (omega (arith, fewest-suc h)),
)

-- more for each greater height
fewest-le : (a b : ℕ) → a ≤ b → fewest a ≤ fewest b
fewest-le a zero le = let same : a ≡ 0 = omega arith in rw same (omega arith)
fewest-le a (suc b) le =
    elim (cases_lt a (suc b)) [
      | inl less ↦ omega (arith, fewest-le a b (omega arith), fewest-suc b)
      | inr same ↦ let is : a ≡ suc b = omega arith in rw is (omega arith)
    ]

-- the number of looks is at most twice the logarithm
pub few_looks : (looks height n : ℕ) → looks ≤ height + 1 → fewest height ≤ n → 2 ^ looks ≤ (n + 1) * (n + 1)
few_looks zero height n le many =
    let one : 1 ≤ n + 1 = omega arith in
    let square : 1 * 1 ≤ (n + 1) * (n + 1) = mul-le-mul one one in
    omega (arith, square)
few_looks (suc l) height n le many =
    let few : fewest l + 1 ≤ n + 1 = omega (arith, fewest-le l height (omega arith)) in
    omega (arith, fewest-square l, mul-le-mul few few)

-- no text is long enough for a higher tree
pub height-most : (h n : ℕ) → fewest h ≤ n → n < 2 ^ 63 → h ≤ 126
height-most h n many short =
    elim (cases_lt h 127) [
      | inl less ↦ omega arith
      | inr more ↦
          let high : 2 ^ 127 ≤ 2 ^ h = pow_mono more in
          let few : fewest h + 1 ≤ 2 ^ 63 = omega arith in
          absurd (omega (arith, fewest-square h, high, mul-le-mul few few))
    ]

-- a tree of a height has as many bytes
pub height_of_bytes : (h n bytes : ℕ) → fewest h ≤ n → n ≤ bytes → IsHeightOf h bytes
height_of_bytes h n bytes many few =
    let le : fewest h + 1 ≤ bytes + 1 = omega arith in
    record { low = omega (arith, fewest-square h, mul-le-mul le le) }

-- so has one beside more bytes
height_wider : (h n bytes : ℕ) → IsHeightOf h n → n ≤ bytes → IsHeightOf h bytes
height_wider h n bytes is le =
    let wide : n + 1 ≤ bytes + 1 = omega arith in
    record { low = omega (arith, is.low, mul-le-mul wide wide) }

-- a tree without chunks
pub height_none : (bytes : ℕ) → IsHeightOf 0 bytes
height_none bytes =
    let one : 1 ≤ bytes + 1 = omega arith in
    let square : 1 * 1 ≤ (bytes + 1) * (bytes + 1) = mul-le-mul one one in
    record { low = omega (arith, square) }

-- a cost by the height of a tree
pub takes_log : (h n bytes times chunks more : ℕ) (old new : WorkState) → fewest h ≤ n → n ≤ bytes
    → Costs old new (times * (h + 3) + 64 * (more / min_chunk)) (chunks + 3 * (more / min_chunk)) → TakesLog times chunks bytes more old new
takes_log h n bytes times chunks more old new many few costs =
    record { height = h; is = height_of_bytes h n bytes many few; costs = costs }

-- by the heights of two
pub takes_both : (a b n m : ℕ) (old new : WorkState) → IsHeightOf a n → IsHeightOf b m
    → Costs old new (6 * ((a - b) + (b - a)) + 3) (16 * (1 - min a b)) → TakesLog 6 16 (n + m) 0 old new
takes_both a b n m old new of_a of_b costs =
    elim (cases_lt a b) [
      | inl less ↦ record {
        height = b;
        is = height_wider b m (n + m) of_b (omega arith);
        costs = record {
          nodes_at_most = omega (arith, less, costs.nodes_at_most);
          chunks_at_most = omega (arith, costs.chunks_at_most);
          nodes_kept = costs.nodes_kept;
          chunks_kept = costs.chunks_kept;
        };
      }
      | inr not_less ↦ record {
        height = a;
        is = height_wider a n (n + m) of_a (omega arith);
        costs = record {
          nodes_at_most = omega (arith, not_less, costs.nodes_at_most);
          chunks_at_most = omega (arith, costs.chunks_at_most);
          nodes_kept = costs.nodes_kept;
          chunks_kept = costs.chunks_kept;
        };
      }
    ]

-- a change in place that was tried first, and two changes of one text
takes_of : (h a b bytes more : ℕ) (old middle new : WorkState) → IsHeightOf h bytes → a ≤ h → b ≤ h
    → Costs old middle (1 * (a + 3) + 64 * (0 / min_chunk)) (1 + 3 * (0 / min_chunk))
    → Costs middle new (53 * (b + 3) + 64 * (more / min_chunk)) (240 + 3 * (more / min_chunk)) → TakesLog 54 241 bytes more old new
takes_of h a b bytes more old middle new is a_low b_low first then = record {
  height = h;
  is = is;
  costs = record {
    nodes_at_most = omega (arith, a_low, b_low, first.nodes_at_most, then.nodes_at_most);
    chunks_at_most = omega (arith, first.chunks_at_most, then.chunks_at_most);
    nodes_kept = omega (arith, first.nodes_kept, then.nodes_kept);
    chunks_kept = omega (arith, first.chunks_kept, then.chunks_kept);
  };
}

pub takes_further : (bytes more : ℕ) (old middle new : WorkState) → TakesLog 1 1 bytes 0 old middle
    → TakesLog 53 240 bytes more middle new → TakesLog 54 241 bytes more old new
takes_further bytes more old middle new a b = elim (cases_lt a.height b.height) [
  | inl less ↦ takes_of b.height a.height b.height bytes more old middle new b.is (omega (arith, less)) (omega arith) a.costs b.costs
  | inr not_less ↦
      takes_of a.height a.height b.height bytes more old middle new a.is (omega arith) (omega (arith, not_less)) a.costs b.costs
]

twice_of : (h a b bytes : ℕ) (old middle new : WorkState) → IsHeightOf h bytes → a ≤ h → b ≤ h
    → Costs old middle (53 * (a + 3) + 64 * (0 / min_chunk)) (240 + 3 * (0 / min_chunk))
    → Costs middle new (54 * (b + 3) + 64 * (0 / min_chunk)) (241 + 3 * (0 / min_chunk)) → TakesLog 107 481 bytes 0 old new
twice_of h a b bytes old middle new is a_low b_low first then = record {
  height = h;
  is = is;
  costs = record {
    nodes_at_most = omega (arith, a_low, b_low, first.nodes_at_most, then.nodes_at_most);
    chunks_at_most = omega (arith, first.chunks_at_most, then.chunks_at_most);
    nodes_kept = omega (arith, first.nodes_kept, then.nodes_kept);
    chunks_kept = omega (arith, first.chunks_kept, then.chunks_kept);
  };
}

pub takes_twice : (bytes : ℕ) (old middle new : WorkState) → TakesLog 53 240 bytes 0 old middle → TakesLog 54 241 bytes 0 middle new
    → TakesLog 107 481 bytes 0 old new
takes_twice bytes old middle new a b = elim (cases_lt a.height b.height) [
  | inl less ↦ twice_of b.height a.height b.height bytes old middle new b.is (omega (arith, less)) (omega arith) a.costs b.costs
  | inr not_less ↦
      twice_of a.height a.height b.height bytes old middle new a.is (omega arith) (omega (arith, not_less)) a.costs b.costs
]

-- the cost of a change of a text is one of a longer text, with more that comes in
pub takes_wider : (n m more most : ℕ) (old new : WorkState) → n ≤ m → more ≤ most → TakesLog 54 241 n more old new
    → TakesLog 54 241 m most old new
takes_wider n m more most old new le within takes = record {
  height = takes.height;
  is = height_wider takes.height n m takes.is le;
  costs = record {
    nodes_at_most = omega (arith, takes.costs.nodes_at_most, within);
    chunks_at_most = omega (arith, takes.costs.chunks_at_most, within);
    nodes_kept = takes.costs.nodes_kept;
    chunks_kept = takes.costs.chunks_kept;
  };
}

-- and so is that of a join
pub takes_join : (m most : ℕ) (old new : WorkState) → TakesLog 6 16 m 0 old new → TakesLog 54 241 m most old new
takes_join m most old new takes = record {
  height = takes.height;
  is = takes.is;
  costs = record {
    nodes_at_most = omega (arith, takes.costs.nodes_at_most);
    chunks_at_most = omega (arith, takes.costs.chunks_at_most);
    nodes_kept = takes.costs.nodes_kept;
    chunks_kept = takes.costs.chunks_kept;
  };
}

-- ---- what questions cost together

-- none and one of equal factors
power_none : (m : ℕ) → m ^ 0 ≡ 1
power_none m = pow-zero m

pub power_one : (m : ℕ) → m ^ 1 ≡ m
power_one m = pow-suc m 0 ∙ ap (λ n. n * m) (pow-zero m) ∙ one-mul m

sub_same : (n : ℕ) → n - n ≡ 0
sub_same n = omega arith

-- none
pub none_asked : (state : RopeState) → Asks 0 state state
none_asked state = let still : 2 ^ (state.looks - state.looks) ≡ 1 = ap (λ n. 2 ^ n) (sub_same state.looks) in record {
  texts = refl;
  looks = omega (arith, power_none ((length state.texts + 1) * (length state.texts + 1)), still);
  looks_kept = omega arith;
  reads = omega arith;
  reads_kept = omega arith;
}

-- and no looks
pub no_looks : (looks n : ℕ) → 2 ^ (looks - looks) ≤ (n + 1) * (n + 1)
no_looks looks n = let still : 2 ^ (looks - looks) ≡ 1 = ap (λ k. 2 ^ k) (sub_same looks) in omega (arith, still)

-- a way down the tree, and a read
pub one_asked : {old middle new : RopeState} → middle.texts ≡ old.texts
    → 2 ^ (middle.looks - old.looks) ≤ (length old.texts + 1) * (length old.texts + 1) → old.looks ≤ middle.looks
    → middle.reads ≡ old.reads → new ≡ record middle { reads = middle.reads + 1 } → Asks 1 old new
one_asked {old} {middle} {new} texts looks kept reads is =
    let m = (length old.texts + 1) * (length old.texts + 1) in
    let now : new.looks ≡ middle.looks = ap (λ v. v.looks) is in
    record {
      texts = ap (λ v. v.texts) is ∙ texts;
      looks = rw (now, power_one m) looks;
      looks_kept = omega (arith, now, kept);
      reads = omega (arith, ap (λ v. v.reads) is, reads);
      reads_kept = omega (arith, ap (λ v. v.reads) is, reads);
    }

-- some questions, and then others
pub asked_after : {j k : ℕ} {a b c : RopeState} → Asks j a b → Asks k b c → Asks (j + k) a c
asked_after {j} {k} {a} {b} {c} first next =
    let n = length a.texts in
    let m = (n + 1) * (n + 1) in
    let pieces : length b.texts ≡ n = ap length first.texts in
    let looks : 2 ^ (c.looks - b.looks) ≤ m ^ k = rw pieces at next.looks in
    let together : (b.looks - a.looks) + (c.looks - b.looks) ≡ c.looks - a.looks =
    omega (arith, first.looks_kept, next.looks_kept) in
    record {
      texts = next.texts ∙ first.texts;
      looks = rw (sym together, pow-add 2 (b.looks - a.looks) (c.looks - b.looks), pow-add m j k)
          (mul-le-mul first.looks looks);
      looks_kept = omega (arith, first.looks_kept, next.looks_kept);
      reads = omega (arith, first.reads, next.reads);
      reads_kept = omega (arith, first.reads_kept, next.reads_kept);
    }

-- fewer than so many
pub asked_within : {j k : ℕ} {a b : RopeState} → j ≤ k → Asks j a b → Asks k a b
asked_within {j} {k} {a} {b} le asks =
    let n = length a.texts in
    let some : 0 < (n + 1) * (n + 1) = omega arith in
    let more = pow-le-pow_right some le in
    record {
      texts = asks.texts;
      looks = omega (arith, asks.looks, more);
      looks_kept = asks.looks_kept;
      reads = omega (arith, asks.reads);
      reads_kept = asks.reads_kept;
    }
