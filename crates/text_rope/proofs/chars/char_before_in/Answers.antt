use Rattle.std.proofs.Common.{true≢false}
use Rattle.text_rope.proofs.lemmas.{in_text, ◌∙◌, ◌<◌, arith, asked_within, boundary_from_round, boundary_in_round, last_in_chunk, last_some, none_asked, round_behind, sym}
use Rattle.text_rope.proofs.chars.char_before_in.Goals as goal

pub returns-then-byte_idx-eq0-clause-cost : goal.returns-then-byte_idx-eq0-clause-cost
returns-then-byte_idx-eq0-clause-cost c = asked_within (omega arith) (none_asked c.args.v.now)

pub last_before-requires : goal.last_before-requires
last_before-requires c = c.is_boundary.ensures.0 c.if-is_boundary.true

pub returns-then-is_boundary-clause-char : goal.returns-then-is_boundary-clause-char
returns-then-is_boundary-clause-char c =
    let above : 0 < c.args.byte_idx = omega (arith, c.if-byte_idx-eq0.false) in
    let round = round_behind c.args.byte_idx above (in_text c.in_ok-chunk.ensures.chunk) in
    last_in_chunk c.last_before.result round c.last_before.ensures.some

pub returns-then-is_boundary-clause-some : goal.returns-then-is_boundary-clause-some
returns-then-is_boundary-clause-some c =
    let above : 0 < c.args.byte_idx = omega (arith, c.if-byte_idx-eq0.false) in
    let round = round_behind c.args.byte_idx above (in_text c.in_ok-chunk.ensures.chunk) in
    let own = c.is_boundary.ensures.0 c.if-is_boundary.true in
    let after : c.in_ok-chunk.chunk.start < c.args.byte_idx = omega (arith, c.in_ok-chunk.ensures.chunk.after, above) in (
      λ _. (boundary_from_round round own, above),
      λ _. last_some c.last_before.result after c.last_before.ensures.none,
    )

pub returns-else-is_boundary-clause-some : goal.returns-else-is_boundary-clause-some
returns-else-is_boundary-clause-some c = (
  λ none. absurd cc,
  λ is.
      let round = round_behind c.args.byte_idx is.1 (in_text c.in_ok-chunk.ensures.chunk) in
      let own = boundary_in_round round is.0 in
      absurd (true≢false (sym (c.is_boundary.ensures.1 own) ∙ c.if-is_boundary.false)),
)
