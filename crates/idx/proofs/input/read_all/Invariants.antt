-- The list holds what the reader gave, and each turn lengthens it, up to 2 ^ 63 at most.
use Rattle.idx.proofs.Common.{◌-◌, ◌^◌, ◌<◌, length, vec_len, Consumes}
use Rattle.idx.proofs.input.read_all.Given as goal

abbrev pub invariant-loop-bytes : goal.invariant-loop-bytes
invariant-loop-bytes g l = (0 < length l.buffer)
    × Consumes (g.R.Read.remaining l.initial.input) (g.R.Read.remaining l.input) l.bytes.items

abbrev pub decreases-loop-bytes : goal.decreases-loop-bytes
decreases-loop-bytes g l = 2 ^ 63 - vec_len l.bytes
