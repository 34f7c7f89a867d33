use Rattle.byte_chunk.proofs.counters.Counter.zero.Given as goal

abbrev pub ghost-of : goal.ghost-of
ghost-of a = 0
