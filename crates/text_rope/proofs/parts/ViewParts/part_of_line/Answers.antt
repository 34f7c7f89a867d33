use Rattle.text_rope.proofs.lemmas.{◌≡◌, ◌+◌, ◌-◌, ◌*◌, ◌^◌, ◌≤◌, ◌∙◌, length, ap, arith, chunk_has_line, took_count}
use Rattle.text_rope.proofs.parts.ViewParts.part_of_line.Goals as goal

pub returns-clause-round : goal.returns-clause-round
returns-clause-round c =
    let l = c.args.lines in
    let texts = c.args.self.now.texts in
    let place = c.place_of-place in
    let part = c.part_in.ensures in
    let same : c.read-text.new.self.texts ≡ texts = ap (λ v. v.texts) c.read-text.ensures.state ∙ place.ensures.texts in
    let is = rw same at part.part in
    let found = rw (c.scheme.ensures, c.in-Some.ensures) at place.ensures.place in
    chunk_has_line l c.args.encoding texts place.result.chunk.now place.result.before c.args.line c.part_in.result is found part.some
    part.text part.start

pub returns-clause-cost : goal.returns-clause-cost
returns-clause-cost c =
    let old = c.args.self.now in
    let place = c.place_of-place.ensures in
    let read = c.read-text.ensures.state in
    let texts : c.read-text.new.self.texts ≡ old.texts = ap (λ v. v.texts) read ∙ place.texts in
    let looks : 2 ^ (c.read-text.new.self.looks - old.looks) ≤ (length old.texts + 1) * (length old.texts + 1) =
    rw (ap (λ v. v.looks) read) (rw c.in-Some.ensures at place.looks) in
    took_count texts looks (omega (arith, ap (λ v. v.looks) read, place.looks_kept))
    (omega (arith, ap (λ v. v.reads) read, place.reads)) (omega (arith, ap (λ v. v.reads) read, place.reads))
