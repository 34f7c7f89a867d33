use Rattle.text_rope.proofs.lemmas.{located_of}
use Rattle.text_rope.proofs.chunks.chunk_at_byte_in.Goals as goal

pub returns-clause-located : goal.returns-clause-located
returns-clause-located c =
    rw (← c.in-Some.ensures, c.lend.ensures.before) (located_of c.place_at-place.ensures.place c.lend.ensures.text c.lend.ensures.start)
