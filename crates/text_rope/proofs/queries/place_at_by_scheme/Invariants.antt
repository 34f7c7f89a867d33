use Rattle.text_rope.proofs.lemmas.{◌≡◌, ◌+◌, ◌<◌, ◌≤◌, [], Text, joined_size, Front, IsFront}
use Rattle.text_rope.specs.Places.{IsPlaceAt, StandsBefore}
use Rattle.text_rope.proofs.queries.place_at_by_scheme.Given as goal

-- the byte is in the part, and so a chunk of the part that it is in is one of the tree
abbrev pub invariant-down : goal.invariant-down
invariant-down l = record {
  before : StandsBefore l.s l.front l.part.texts;
  after : l.front.len ≤ l.at;
  inside : l.at < l.front.len + joined_size l.part.texts;
  place : (chunk : Text) (before : Front)
      → ((a : Text) → IsFront l.s a l.front → IsPlaceAt l.s a l.part.texts chunk before l.at)
      → IsPlaceAt l.s [] l.subtree.texts chunk before l.at;
  texts : l.v.texts ≡ l.fn.v.texts;
  looks : l.v.looks + l.part.height ≤ l.fn.v.looks + l.subtree.height;
  looks_kept : l.fn.v.looks ≤ l.v.looks;
  reads : l.v.reads ≡ l.fn.v.reads;
}
