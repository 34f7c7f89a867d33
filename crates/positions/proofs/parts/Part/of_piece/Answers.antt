use Rattle.text_summary.proofs.lemmas.Callers.{some_of, size-some}
use Rattle.positions.proofs.lemmas.{◌≡◌, ◌≢◌, [], refl, sym, ap, ◌∙◌, arith, chars, size, piece_is_part}
use Rattle.positions.proofs.parts.Part.of_piece.Goals as goal

pub step-requires : goal.step-requires
step-requires c = rw c.scheme.ensures c.requires.followed

pub returns-clause-part : goal.returns-clause-part
returns-clause-part c = λ front back is.
    let piece = chars c.args.text.now in
    let followed = c.requires.followed in
    let own = c.requires.summary in
    let same : size followed.b ≡ size piece = sym (ap (λ o. o.len) followed.piece_is) ∙ ap (λ o. o.len) own in
    let some : piece ≢ [] = some_of piece (λ none. omega (arith, same, none, size-some followed.b followed.some)) in
    let told = rw c.scheme.ensures at (c.step.ensures front piece (rw c.scheme.ensures is) own some) in
    piece_is_part c.args.lines _ front piece back c.args.before.now refl is some c.args.encoding _ c.args.summary.now refl refl
    c.step.result told refl c.units_in.ensures.bytes c.units_in.ensures.some.0 c.is_between.ensures own c.part_counts.result refl
    (c.part_counts.ensures piece own)
