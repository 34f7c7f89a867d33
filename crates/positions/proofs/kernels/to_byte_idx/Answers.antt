use Rattle.positions.proofs.lemmas.{[], ◌∙◌, sym, ap, refl, chars, to_byte_idx, to_byte_idx-zero, IsCharBoundary-from_boundary}
use Rattle.positions.proofs.kernels.to_byte_idx.Goals as goal

pub returns-then-idx-eq0-clause-answer : goal.returns-then-idx-eq0-clause-answer
returns-then-idx-eq0-clause-answer g c = sym (to_byte_idx-zero c.args.scheme (chars c.args.text.now))
    ∙ ap (to_byte_idx c.args.scheme (chars c.args.text.now)) (sym c.if-idx-eq0.true)

pub returns-then-idx-eq0-clause-boundary : goal.returns-then-idx-eq0-clause-boundary
returns-then-idx-eq0-clause-boundary g c = IsCharBoundary-from_boundary c.args.text.now c.utf8.text 0
    (record { front = []; back = chars c.args.text.now; split = refl; place = refl })
