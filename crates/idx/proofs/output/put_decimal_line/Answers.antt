use Rattle.idx.proofs.Common.{◌∙◌, ◌+◌, ◌-◌, ◌/◌, ◌%◌, ◌∷◌, ◌++◌, drop, ap, arith, drop_of_length-le, length-set, decimal}
use Rattle.idx.proofs.Digits.{decimal_last, decimal_first, one_place_fewer, drop-set_before}
use Rattle.idx.proofs.output.put_decimal_line.Goals as goal

pub loop-rest-init : goal.loop-rest-init
loop-rest-init c =
    let buffer = c.args.buffer.now in
    let feed = drop-set_before buffer 21 10 (omega arith) (omega arith) in
    let nothing = drop_of_length-le buffer {i = 21} (omega arith) in (
      omega arith,
      omega arith,
      length-set buffer 20 10
          ∙ c.told-buffer,
      omega arith,
      ap (λ end. decimal c.args.n ++ end) (feed ∙ ap (λ end. 10 ∷ end) nothing),
    )

pub loop-rest-preserved : goal.loop-rest-preserved
loop-rest-preserved c =
    let l = c.loop-rest in
    let room = one_place_fewer l.start l.rest c.loop-rest-test.true l.invariant.3 in
    let digit = drop-set_before l.buffer l.start (48 + l.rest % 10) l.invariant.0 (omega arith) in
    let line = ap (λ end. decimal (l.rest / 10) ++ end) digit
    ∙ decimal_last l.rest (drop l.start l.buffer) c.loop-rest-test.true (omega arith) ∙ l.invariant.4 in
    (omega arith, omega arith, length-set l.buffer (l.start - 1) _ ∙ l.invariant.2, room.1, line)

pub returns-clause-line : goal.returns-clause-line
returns-clause-line c =
    let l = c.loop-rest in
    drop-set_before l.buffer l.start (48 + l.rest) l.invariant.0 (omega arith)
    ∙ decimal_first l.rest (drop l.start l.buffer) (omega arith) ∙ l.invariant.4
