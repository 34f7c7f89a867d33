use Rattle.positions.proofs.lemmas.Callers.{greatest_in_part}
use Rattle.str_indices.specs.declared.Scheme.TheVariants.{Lf}
use Rattle.piece_text.proofs.lemmas.{◌+◌, ap, sym, drop, take, joined, piece_at, split_at_place, place_round}
use Rattle.piece_text.proofs.parts.char_start_in.Goals as goal

pub returns-clause-answer : goal.returns-clause-answer
returns-clause-answer c =
    let texts = c.args.p.now.texts in
    let place = c.piece_round-placed.ensures.place in
    let placed = c.piece_round-placed.result in
    let own = ap (λ o. o.len) place.is.own_is in
    let text = rw c.piece_round-placed.ensures.texts at c.text.ensures.text in
    greatest_in_part (joined texts) (joined (take placed.piece texts)) (piece_at texts placed.piece) (joined (drop (placed.piece + 1) texts))
    placed.before.len (split_at_place Lf texts placed place.is) (sym place.is.before_is.len) c.args.byte c.char_start.result place.after
    (place_round Lf texts placed c.args.byte place) (rw text at c.char_start.ensures)
