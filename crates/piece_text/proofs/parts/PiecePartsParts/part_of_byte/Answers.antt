use Rattle.piece_text.proofs.lemmas.{◌≡◌, subst, took_byte}
use Rattle.piece_text.specs.Parts.{Asks}
use Rattle.piece_text.proofs.parts.PiecePartsParts.part_of_byte.Goals as goal

pub returns-clause-cost : goal.returns-clause-cost
returns-clause-cost c =
    let view : c.self.inside.pieces ≡ c.args.self.now = c.self.view_is in
    took_byte (subst (λ v. Asks v c.part_at_byte.new.p) view c.part_at_byte.ensures.cost)
