use Rattle.byte_chunk.proofs.lemmas.{◌+◌}
use Rattle.byte_chunk.proofs.counters.Counter.tick.Given as goal

abbrev pub ghost-set : goal.ghost-set
ghost-set a = a.self.now + 1
