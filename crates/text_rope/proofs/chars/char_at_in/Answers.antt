use Rattle.std.proofs.Common.{true≢false}
use Rattle.text_rope.proofs.lemmas.{in_text, ◌∙◌, boundary_from_round, boundary_in_round, first_in_chunk, first_some, refl, round_at, sym}
use Rattle.text_rope.proofs.chars.char_at_in.Goals as goal

pub first_after-requires : goal.first_after-requires
first_after-requires c = c.is_boundary.ensures.0 c.if-is_boundary.true

pub returns-then-is_boundary-clause-char : goal.returns-then-is_boundary-clause-char
returns-then-is_boundary-clause-char c =
    first_in_chunk c.first_after.result (in_text c.in_ok-chunk.ensures.chunk) c.first_after.ensures.some

pub returns-then-is_boundary-clause-some : goal.returns-then-is_boundary-clause-some
returns-then-is_boundary-clause-some c =
    let own = c.is_boundary.ensures.0 c.if-is_boundary.true in (
      λ _. (boundary_from_round (round_at (in_text c.in_ok-chunk.ensures.chunk)) own, c.in_ok-chunk.ensures.some.0 refl),
      λ _. first_some c.first_after.result (in_text c.in_ok-chunk.ensures.chunk) c.first_after.ensures.none,
    )

pub returns-else-is_boundary-clause-some : goal.returns-else-is_boundary-clause-some
returns-else-is_boundary-clause-some c = (
  λ none. absurd cc,
  λ is.
      let own = boundary_in_round (round_at (in_text c.in_ok-chunk.ensures.chunk)) is.0 in
      absurd (true≢false (sym (c.is_boundary.ensures.1 own) ∙ c.if-is_boundary.false)),
)
