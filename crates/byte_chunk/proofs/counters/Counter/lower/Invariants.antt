use Rattle.byte_chunk.proofs.lemmas.{min}
use Rattle.byte_chunk.proofs.counters.Counter.lower.Given as goal

abbrev pub ghost-set : goal.ghost-set
ghost-set a = min a.self.now a._at
