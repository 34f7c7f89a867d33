-- The reads of a pass, and the place at which it stops.
use Rattle.str_indices.proofs.lemmas.Common.{◌≡◌, ℕ, ◌+◌, ◌-◌, ◌*◌, ◌/◌, ◌≤◌, min, arith, add-mul, le-div, div-mul-le_self, ProbeState, Reads, div-le_self, leading_bytes, pass_turns, pass_loads, ◌<◌, ◌∙◌, ap, inl, inr, add-zero, cases_lt, nat_le, nat_tests, sum_below, ◌%◌, div-lt_iff_lt-mul, mul-le-mul_right}
use Rattle.str_indices.proofs.lemmas.Bytes.{sum_below-le-sum_below}
use mir.Val.{bool_byte}
use Rattle.std.proofs.Math.Nat.{div-add-mod}

-- How many whole chunks fit between two places.

-- from one place on and from the next on fit no more than from the first
pub div-add-le : (size from at to : ℕ) → 4 ≤ size → from ≤ at → at ≤ to
    → (at - from) / size + (to - at) / size ≤ (to - from) / size
div-add-le size from at to least le le' = grind (arith, le-div, div-mul-le_self, add-mul)

-- the groups of some chunks up to one of them have no more than all
pub groups_within : (k chunks group weight : ℕ) → k < chunks / group → (k + 1) * group * weight ≤ chunks * weight
groups_within k chunks group weight more =
    let few = mul-le-mul_right {m = k + 1} {n = chunks / group} group (omega (arith, more)) in
    mul-le-mul_right {m = (k + 1) * group} {n = chunks} weight (omega (arith, few, div-mul-le_self chunks group))

-- the groups of some chunks, once they are counted up, and what is left over are all of them
pub groups_and_rest : {k : ℕ} (chunks group : ℕ) → k ≤ chunks / group → chunks / group ≤ k
    → k * group + chunks % group ≡ chunks
groups_and_rest {k} chunks group few many =
    let done : k ≡ chunks / group = omega (arith, few, many) in rw done (omega (arith, div-add-mod chunks group))

-- of two parts of some chunks the first ends at a place, and the second where all of them do
module _ (from m n size : ℕ) {chunks middle : ℕ} (all : m + n ≡ chunks) (there : from + m * size ≡ middle) where
  pub parts_end : middle + n * size ≡ from + chunks * size
  parts_end = omega (arith, ap (λ k. k * size) all)

  -- and within what all of them are within
  pub parts_within : (end : ℕ) → from + chunks * size ≤ end → middle + n * size ≤ end
  parts_within end within = omega (arith, within, parts_end)

-- fewer bytes than a round has make a round that can be summed
pub round_fits : (bytes size most weight limit : ℕ) → 4 ≤ size → bytes < most * size → most * weight ≤ limit
    → bytes / size * weight ≤ limit
round_fits bytes size most weight limit least less room =
    let few = (div-lt_iff_lt-mul {k = size} {x = bytes} {y = most} (omega arith)).1 less in
    omega (arith, room, mul-le-mul_right {m = bytes / size} {n = most} weight (omega (arith, few)))

-- chunks that count no more than four in a lane are four at most
pub few_chunks : (chunks most : ℕ) → 0 < most → chunks * most ≤ 4 → chunks ≤ 4
few_chunks chunks most some few = elim (cases_lt 4 chunks) [
  | inl more ↦ absurd (omega (arith, few, mul-le-mul_right {m = 5} {n = chunks} most more))
  | inr fits ↦ fits
]

-- The reads of one turn or load, and of the parts of a pass together.

-- nothing was read
pub nothing : (p : ProbeState) (first : ℕ) → Reads p p first 0 0 0
nothing p first = search arith

-- one turn, and the peeks that it pays
pub byte_made : {old turned new : ProbeState} → turned ≡ record old { turns = old.turns + 1 } → Reads turned new 0 0 0 2
    → Reads old new 0 1 0 0
byte_made {old} is peeks = let paid = rw is at peeks in grind arith

-- one load, and the peeks that it pays
pub chunk_made : {old loaded new : ProbeState} (first at : ℕ) → first ≤ at
    → loaded ≡ record old { loads = old.loads + 1; low = min old.low at } → Reads loaded new 0 0 0 4
    → Reads old new first 0 1 0
chunk_made {old} first at behind is peeks = let paid = rw is at peeks in grind arith

-- four loads, and the peeks that they pay
pub group_made : {old loaded new : ProbeState} {at : ℕ} → Reads old loaded at 0 4 0 → loaded.loads ≡ old.loads + 4
    → loaded.peeks ≡ old.peeks → Reads loaded new 0 0 0 3 → Reads old new at 0 4 0
group_made reads four none peeks = grind arith

-- four loads and peeks, more loads, and peeks again
pub group_and_more : {old loaded opened skipped new : ProbeState} {at to l : ℕ} → at ≤ to → Reads old loaded at 0 4 0
    → loaded.loads ≡ old.loads + 4 → loaded.peeks ≡ old.peeks → Reads loaded opened 0 0 0 3 → Reads opened skipped to 0 l 0
    → Reads skipped new 0 0 0 3 → Reads old new at 0 (4 + l) 0
group_and_more le reads four none peeks more peeks' = grind arith

-- one part after another
pub then_ : {old seen new : ProbeState} {first t l s t' l' s' : ℕ} → Reads old seen first t l s
    → Reads seen new first t' l' s' → Reads old new first (t + t') (l + l') (s + s')
then_ a b = grind arith

-- reads within some bounds are within greater ones
pub weaken : {old new : ProbeState} {first t l s first' t' l' s' : ℕ} → Reads old new first t l s → first' ≤ first
    → t ≤ t' → l ≤ l' → s ≤ s' → Reads old new first' t' l' s'
weaken a le_first le_turns le_loads le_spare = search arith

-- a load after others
pub chunk_read : {old seen new : ProbeState} {from at l l' : ℕ} → from ≤ at → Reads old seen from 0 l 0
    → Reads seen new at 0 l' 0 → Reads old new from 0 (l + l') 0
chunk_read le so_far more = grind arith

module _ {old seen new : ProbeState} {from at : ℕ} where
  -- more chunks, from where whole chunks end
  pub group_joined : {size group to : ℕ} → to ≡ at + group * size → 4 ≤ size → from ≤ at
      → Reads old seen from 0 ((at - from) / size) 0 → Reads seen new at 0 group 0
      → Reads old new from 0 ((to - from) / size) 0
  group_joined {size} {group} {to} there least le so_far more =
      grind (arith, le-div ((at - from) / size + group) (to - from) size, div-mul-le_self, add-mul)

  module _ {size to : ℕ} (least : 4 ≤ size) (le : from ≤ at) (le' : at ≤ to)
      (so_far : Reads old seen from 0 ((at - from) / size) 0) where
    -- whole chunks, and then those from where they end
    pub chunks_joined : Reads seen new at 0 ((to - at) / size) 0 → Reads old new from 0 ((to - from) / size) 0
    chunks_joined more = grind (arith, div-add-le size from at to)

  -- and with four more at most
  pub four_joined : {size to : ℕ} → 4 ≤ size → from ≤ at → at ≤ to → Reads old seen from 0 ((at - from) / size) 0
      → Reads seen new at 0 ((to - at) / size + 4) 0 → Reads old new from 0 ((to - from) / size + 4) 0
  four_joined {size} {to} least le le' so_far more = grind (arith, div-add-le size from at to)

  -- whole chunks and four more at most, and then those from where the whole ones end and one more at most
  pub loads_to_place : {size to l l' : ℕ} → 4 ≤ size → from ≤ at → at ≤ to → Reads old seen from 0 l 0
      → Reads seen new at 0 l' 0 → l ≤ (at - from) / size + 4 → l' ≤ (to - at) / size + 1
      → Reads old new from 0 ((to - from) / size + 5) 0
  loads_to_place {size} {to} least le le' so_far rest few few' = grind (arith, div-add-le size from at to)

-- where nothing was loaded, no place bounds the loads
pub unloaded : {old new : ProbeState} {first t s : ℕ} (first' : ℕ) → Reads old new first t 0 s → Reads old new first' t 0 s
unloaded first' a = grind arith

-- four chunks after whole chunks and some peeks, up to an end that they do not reach past
pub group_to_end : {start old seen new : ProbeState} (from at size n : ℕ) → 4 ≤ size → from ≤ at → at + 4 * size ≤ n
    → Reads start old 0 0 0 3 → Reads old seen from 0 ((at - from) / size) 0 → Reads seen new at 0 4 0
    → Reads start new from 0 ((n - from) / size) 3
group_to_end from at size n least low within peeks so_far four =
    let joined = group_joined {from = from} {at = at} {size = size} {group = 4} {to = at + 4 * size} (omega arith) least low so_far four in
    weaken (then_ (unloaded from peeks) joined) (omega arith) (omega arith)
    (omega (arith, div-add-le size from (at + 4 * size) n least (omega (arith, low)) within)) (omega arith)

-- a walk over the first bytes, groups of chunks from there on, and single chunks up to the end
pub passes_joined : {start walked grouped new : ProbeState} (first at n size : ℕ) → 4 ≤ size → first ≤ at → at ≤ n
    → Reads start walked 0 first 0 0 → Reads walked grouped first 0 ((at - first) / size) 3
    → Reads grouped new at 0 ((n - at) / size) 0 → Reads start new first first ((n - first) / size) 3
passes_joined {start} {walked} {grouped} {new} first at n size least low high walk groups chunks =
    let singles : Reads grouped new first 0 ((n - at) / size) 0 =
    weaken chunks low (omega arith) (omega arith) (omega arith) in
    weaken (then_ (then_ (unloaded first walk) groups) singles) (omega arith) (omega arith)
    (omega (arith, div-add-le size first at n least low high)) (omega arith)

-- and turns alone after them
pub turns_joined : {start seen new : ProbeState} {first t l s t' : ℕ} → Reads start seen first t l s
    → Reads seen new 0 t' 0 0 → Reads start new first (t + t') l s
turns_joined {first = first} so_far turns =
    weaken (then_ so_far (unloaded first turns)) (omega arith) (omega arith) (omega arith) (omega arith)

-- four chunks before others, and after them
pub four_more : (from to size : ℕ) → 4 ≤ size → from + 4 * size ≤ to → 4 + (to - (from + 4 * size)) / size ≤ (to - from) / size
four_more from to size least le =
    grind (arith, le-div ((to - (from + 4 * size)) / size + 4) (to - from) size, div-mul-le_self, add-mul)

pub four_after : (from to size : ℕ) → 4 ≤ size → from ≤ to → (to - from) / size + 4 ≤ (to + 4 * size - from) / size
four_after from to size least le =
    grind (arith, le-div ((to - from) / size + 4) (to + 4 * size - from) size, div-mul-le_self, add-mul)

-- more bytes have no fewer chunks
pub chunks_rise : (bytes more size : ℕ) → 4 ≤ size → bytes ≤ more → bytes / size ≤ more / size
chunks_rise bytes more size least le = grind (arith, le-div (bytes / size) more size, div-mul-le_self)

-- chunks up to a place, from where a pass begins to where it goes on, are no more than those up to it from the start
pub chunks_to_place : (first at place size : ℕ) → 4 ≤ size → first ≤ at → at ≤ place
    → (at - first) / size + (place - at) / size ≤ place / size
chunks_to_place first at place size least low high =
    omega (arith, div-add-le size first at place least low high, chunks_rise (place - first) place size least (omega arith))

-- at most a chunk of bytes more has at most one chunk more
pub one_chunk_more : (bytes place size : ℕ) → 4 ≤ size → bytes ≤ place + size → bytes / size ≤ place / size + 1
one_chunk_more bytes place size least near =
    grind (arith, le-div (bytes / size - 1) place size, div-mul-le_self, add-mul)

-- fewer loads, where the loads themselves are fewer
pub fewer_loads : {old new : ProbeState} {first t l s : ℕ} (l' : ℕ) → new.loads ≤ old.loads + l' → Reads old new first t l s
    → Reads old new first t l' s
fewer_loads l' few a = grind arith

-- The bounds of a whole pass: the reads of leading bytes, chunks and the rest of a text, added.

-- a pass that counts in n bytes: leading bytes, then chunks, then the rest
pub counting_pass : {size n : ℕ} (lead : ℕ) {old led chunked new : ProbeState} {first at t t' : ℕ} → 4 ≤ size
    → first ≡ min lead n → Reads old led 0 t 0 0 → Reads led chunked first 0 ((at - first) / size) 0
    → Reads chunked new 0 t' 0 0 → at ≤ n → t + t' ≤ pass_turns size lead n
    → Reads old new (leading_bytes lead n) (pass_turns size lead n) (pass_loads size lead n) 0
counting_pass lead least here leads chunks rests within few = grind (arith, le-div, div-mul-le_self)

module _ {old peeked new : ProbeState} (size lead end n : ℕ) (least : 4 ≤ size) (le : end ≤ n)
    (peeks : Reads old peeked 0 0 0 3) where
  -- after up to three peeks, a pass that counts in `end` bytes keeps within the bounds of one over n bytes
  pub pass_after_peeks :
      Reads peeked new (leading_bytes lead end) (pass_turns size lead end) (pass_loads size lead end) 0
      → Reads old new (leading_bytes lead n) (pass_turns size lead n) (pass_loads size lead n) 3
  pass_after_peeks pass = grind (arith, le-div, div-mul-le_self, div-le_self 0 size)

-- a search from a place on: chunks that cannot reach the index, groups of at most four, single chunks, and the last one
pub search_from : {p passed grouped chunked new : ProbeState} {size from sure group at place t l : ℕ} → 4 ≤ size
    → from ≤ sure → sure ≤ group → group ≤ at → at ≤ place → Reads p passed from 0 ((sure - from) / size) 0
    → Reads passed grouped sure 0 ((group - sure) / size + l) 0 → l ≤ 4
    → Reads grouped chunked group 0 ((at - group) / size + 1) 0 → Reads chunked new 0 t 0 0
    → Reads p new from t ((place - from) / size + 5) 0
search_from {size = size} {from = from} {sure = sure} {group = group} {at = at} {place = place} least le le' le'' before
    surely groups few chunks rest =
    let looked = chunk_read le surely groups in
    let fewer = div-add-le size from sure group least le le' in
    let loads = loads_to_place least (omega (arith, le, le')) le'' looked chunks (omega (arith, fewer, few)) (omega arith) in
    grind (arith, loads, rest, div-add-le size from at place least (omega (arith, le, le', le'')) before)

-- The byte that takes a count above k.

-- the place of a walk before byte i: the byte that takes the count above k, or i
pub record IsWalked (f : ℕ → ℕ) (k place i : ℕ) : Type 0 where
  pub to_high : place ≤ i
  pub at_most : sum_below f place ≤ k
  pub stopped : place < i → k < sum_below f (place + 1)

-- one byte more, which takes the count to `count`: the place moves on if that is at most k
pub walked_on : (f : ℕ → ℕ) (k place i count step : ℕ) → IsWalked f k place i → count ≡ sum_below f (i + 1)
    → step ≡ bool_byte (nat_le count k) → IsWalked f k (place + step) (i + 1)
walked_on f k place i count step h counted is = elim (cases_lt place i) [
  | inl found ↦
      let more = sum_below-le-sum_below f (place + 1) (i + 1) (omega arith) in
      let none : step ≡ 0 = grind (arith, nat_tests, is, h.stopped found, more, counted) in
      rw (none, add-zero) (record { to_high = omega arith; at_most = h.at_most; stopped = λ inside. h.stopped found })
  | inr past ↦
      let here : place ≡ i = omega (arith, h.to_high) in
      grind (arith, nat_tests, is, here, h.at_most, counted)
]

-- the count before a place, however the place is written
pub counted_there : (f : ℕ → ℕ) (at : ℕ) {place count : ℕ} → at ≡ place → count ≡ f at → count ≡ f place
counted_there f at there counted = counted ∙ ap f there
