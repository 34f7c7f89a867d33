-- The digits of what is left, before those that stand in the buffer, make the line, and there is room for them.
use Rattle.idx.proofs.Common.{◌≡◌, ◌<◌, ◌≤◌, ◌^◌, ◌++◌, length, drop, decimal}
use Rattle.idx.specs.Program.{decimal_line}
use Rattle.idx.proofs.output.put_decimal_line.Given as goal

abbrev pub invariant-loop-rest : goal.invariant-loop-rest
invariant-loop-rest l = (1 ≤ l.start) × (l.start ≤ 20) × (length l.buffer ≡ 21) × (l.rest < 10 ^ l.start)
    × (decimal l.rest ++ drop l.start l.buffer ≡ decimal_line l.fn.n)

abbrev pub decreases-loop-rest : goal.decreases-loop-rest
decreases-loop-rest l = l.rest
