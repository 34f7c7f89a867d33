use Rattle.piece_text.proofs.lemmas.{◌≡◌, ◌<◌, ◌-◌, ◌∙◌, ap, sym, arith, length, inr, refl, take, true, false, take_all, joined, inside_of, boundary_of_piece, boundary_of_joined, no_edge, edge_of, edge_boundary, no_boundary_past, joined-cut}
use Rattle.piece_text.proofs.list.PieceText.split.Goals.{then-at-len-via-then-at-len, then-at-len-via-else-at-len+then-not-is_boundary_in}
use Rattle.piece_text.proofs.list.PieceText.split.Goals as goal

-- where the piece starts at the byte, that is an edge
pub returns-then-start-byte_idx-clause-ok : goal.returns-then-start-byte_idx-clause-ok
returns-then-start-byte_idx-clause-ok c =
    let place = sym c.piece_round-at.ensures.start ∙ c.if-start-byte_idx.true in
    inr (edge_of c.args.self.now c.piece_round-at.result.0 c.args.byte_idx place, refl)

-- so it is a boundary
pub returns-then-start-byte_idx-clause-not_boundary : goal.returns-then-start-byte_idx-clause-not_boundary
returns-then-start-byte_idx-clause-not_boundary c =
    let place = sym c.piece_round-at.ensures.start ∙ c.if-start-byte_idx.true in
    let edge = edge_of c.args.self.now c.piece_round-at.result.0 c.args.byte_idx place in
    (λ is. absurd cc, λ no. absurd (no (edge_boundary c.args.self.now c.args.byte_idx edge)))

-- past the end, and inside a char of the piece, is no boundary
pub returns-then-at-len-clause-not_boundary : goal.returns-then-at-len-clause-not_boundary
returns-then-at-len-clause-not_boundary c =
    let texts = c.args.self.now in
    let count = ap length c.self.view_is in
    let round = c.piece_round-at.ensures in
    let i = c.piece_round-at.result.0 in
    let start = c.piece_round-at.result.1 in (
      λ is at. elim c.then-at-len.branch [
        | then-at-len-via-then-at-len w ↦
            let all : take i texts ≡ texts =
            take_all i texts (omega (arith, w.if-at-len.true, c.len.ensures, c.self.inside.pieces.ok.0, count)) in
            no_boundary_past (joined texts) c.args.byte_idx
            (omega (arith, rw all at round.start, round.past, c.if-start-byte_idx.false)) at
        | then-at-len-via-else-at-len+then-not-is_boundary_in w ↦
            let inside : i < length texts =
            omega (arith, round.piece, c.len.ensures, c.self.inside.pieces.ok.0, count, w.if-at-len.false) in
            let inner = inside_of texts i start c.args.byte_idx round.start round.past round.within inside
            (λ same. absurd (omega (arith, c.if-start-byte_idx.false))) in
            let passes = w.is_boundary_in.ensures.1
            (boundary_of_piece texts i (c.args.byte_idx - start) c.args.byte_idx inner at) in
            let clash : true ≡ false = sym passes ∙ w.if-not-is_boundary_in.true in cc
      ],
      λ no. refl,
    )

pub returns-clause-text : goal.returns-clause-text
returns-clause-text c = joined-cut c.args.self.now c.cut.new.self _ c.in_ok-cut.ensures.ok

-- a boundary of the piece is one of the joined text
pub returns-clause-not_boundary : goal.returns-clause-not_boundary
returns-clause-not_boundary c =
    let texts = c.args.self.now in
    let count = ap length c.self.view_is in
    let round = c.piece_round-at.ensures in
    let i = c.piece_round-at.result.0 in
    let start = c.piece_round-at.result.1 in
    let inside : i < length texts =
    omega (arith, round.piece, c.len.ensures, c.self.inside.pieces.ok.0, count, c.if-at-len.false) in
    let inner = inside_of texts i start c.args.byte_idx round.start round.past round.within inside
    (λ same. absurd (omega (arith, c.if-start-byte_idx.false))) in
    let own = c.is_boundary_in.ensures.0 c.if-not-is_boundary_in.false in
    (λ is. absurd cc, λ no. absurd (no (boundary_of_joined texts i (c.args.byte_idx - start) c.args.byte_idx inner own)))

pub returns-in_err-cut-clause-not_boundary : goal.returns-in_err-cut-clause-not_boundary
returns-in_err-cut-clause-not_boundary c =
    let texts = c.args.self.now in
    let count = ap length c.self.view_is in
    let round = c.piece_round-at.ensures in
    let i = c.piece_round-at.result.0 in
    let start = c.piece_round-at.result.1 in
    let inside : i < length texts =
    omega (arith, round.piece, c.len.ensures, c.self.inside.pieces.ok.0, count, c.if-at-len.false) in
    let inner = inside_of texts i start c.args.byte_idx round.start round.past round.within inside
    (λ same. absurd (omega (arith, c.if-start-byte_idx.false))) in
    let own = c.is_boundary_in.ensures.0 c.if-not-is_boundary_in.false in
    (λ is. absurd (let clash = rw is at c.from_residual.ensures.1 in cc), λ no. absurd (no (boundary_of_joined texts i (c.args.byte_idx - start) c.args.byte_idx inner own)))

-- and no edge, so that an edge takes no memory
pub returns-in_err-cut-clause-no_memory : goal.returns-in_err-cut-clause-no_memory
returns-in_err-cut-clause-no_memory c =
    let texts = c.args.self.now in
    let count = ap length c.self.view_is in
    let round = c.piece_round-at.ensures in
    let i = c.piece_round-at.result.0 in
    let start = c.piece_round-at.result.1 in
    let inside : i < length texts =
    omega (arith, round.piece, c.len.ensures, c.self.inside.pieces.ok.0, count, c.if-at-len.false) in
    let inner = inside_of texts i start c.args.byte_idx round.start round.past round.within inside
    (λ same. absurd (omega (arith, c.if-start-byte_idx.false))) in
    λ is. no_edge texts i (c.args.byte_idx - start) c.args.byte_idx inner
