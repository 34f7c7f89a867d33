use Rattle.byte_chunk.proofs.counters.Counter.set.Given as goal

abbrev pub ghost-of : goal.ghost-of
ghost-of g a = g.n
