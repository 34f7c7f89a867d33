use Rattle.piece_text.proofs.lemmas.{◌≡◌, subst, took_count}
use Rattle.piece_text.specs.Parts.{Asks}
use Rattle.piece_text.proofs.parts.PiecePartsParts.part_of_line.Goals as goal

pub returns-clause-cost : goal.returns-clause-cost
returns-clause-cost c =
    let view : c.self.inside.pieces ≡ c.args.self.now = c.self.view_is in
    took_count (subst (λ v. Asks v c.part_at_line.new.p) view c.part_at_line.ensures.cost)
