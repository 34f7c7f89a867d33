use Rattle.byte_chunk.proofs.lemmas.{ℕ, ◌-◌, ◌<◌, ◌≤◌, get_or, rules, arith, serving, zip2_of-calls, Each2-get_or}
use Rattle.byte_chunk.proofs.chunks.plain_array.PlainByteChunk.sub.Goals as goal

pub from_fn-requires : goal.from_fn-requires
from_fn-requires c =
    let these = c.args.self.now.0 in
    let those = c.args.other.0 in
    let enough : (i : ℕ) → i < 8 → get_or those i 0 ≤ get_or these i 0 =
    λ i below. Each2-get_or (λ a b. b ≤ a) these those i (omega arith) (omega arith) c.requires in
    grind (serving, enough)

pub returns : goal.returns
returns c =
    zip2_of-calls (λ a b. a - b) 8 c.args.self.now.0 c.args.other.0 c.from_fn.result (λ i lane left call. search rules)
    (omega arith) (omega arith) c.from_fn.ensures.items
