use Rattle.byte_chunk.proofs.counters.Counter.place.Given as goal

abbrev pub ghost-set : goal.ghost-set
ghost-set a = a._at
