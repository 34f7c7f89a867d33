use Rattle.text_rope.proofs.lemmas.{◌≡◌, ◌+◌, ◌≤◌, [], Text, Front, IsFront}
use Rattle.text_rope.specs.Places.{IsPlaceOf, FallsShort}
use Rattle.text_rope.proofs.queries.place_of_by_scheme.Given as goal

-- the count is not reached before the part, and a chunk of the part that answers for it there answers for it in the tree
abbrev pub invariant-down : goal.invariant-down
invariant-down l = record {
  reaches : FallsShort l.s l.front l.part.texts l.k;
  place : (chunk : Text) (before : Front)
      → ((a : Text) → IsFront l.s a l.front → IsPlaceOf l.s a l.part.texts chunk before l.k)
      → IsPlaceOf l.s [] l.subtree.texts chunk before l.k;
  texts : l.v.texts ≡ l.fn.v.texts;
  looks : l.v.looks + l.part.height ≤ l.fn.v.looks + l.subtree.height;
  looks_kept : l.fn.v.looks ≤ l.v.looks;
  reads : l.v.reads ≡ l.fn.v.reads;
}
