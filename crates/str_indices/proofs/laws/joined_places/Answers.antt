use Rattle.str_indices.proofs.lemmas.{◌≡◌, ◌+◌, ◌-◌, arith, chars, length, chars-append, size, size-chars, is_joined}
use Rattle.str_indices.proofs.laws.joined_places.Goals as goal

pub returns-clause-from_before : goal.returns-clause-from_before
returns-clause-from_before c s before =
    let a = c.args.a.now in
    rw (chars-append a c.args.b.now c.utf8.a)
    ((is_joined s (chars a) (chars c.args.b.now)).from_before c.args.i (omega (arith, size-chars a c.utf8.a)))

pub returns-clause-from_behind : goal.returns-clause-from_behind
returns-clause-from_behind c s behind =
    let a = c.args.a.now in
    let place : size (chars a) + (c.args.i - length a) ≡ c.args.i = omega (arith, size-chars a c.utf8.a) in
    rw (chars-append a c.args.b.now c.utf8.a)
    (rw place at ((is_joined s (chars a) (chars c.args.b.now)).from_behind (c.args.i - length a)))

pub returns-clause-to_before : goal.returns-clause-to_before
returns-clause-to_before c s within =
    let a = c.args.a.now in
    rw (chars-append a c.args.b.now c.utf8.a)
    ((is_joined s (chars a) (chars c.args.b.now)).to_before c.args.k within)

pub returns-clause-to_behind : goal.returns-clause-to_behind
returns-clause-to_behind c s past =
    let a = c.args.a.now in
    rw (chars-append a c.args.b.now c.utf8.a, ← size-chars a c.utf8.a)
    ((is_joined s (chars a) (chars c.args.b.now)).to_behind c.args.k _ past (omega arith))
