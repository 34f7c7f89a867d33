use Rattle.text_rope.proofs.lemmas.{◌∙◌, ap, sym, chars, string_bytes, size, size-chars}
use Rattle.text_rope.proofs.chunk.Chunk.own_text.Goals as goal

pub returns-clause-len : goal.returns-clause-len
returns-clause-len c = sym (size-chars c.as_str.result.now c.as_str.utf8)
    ∙ ap (λ b. size (chars b)) c.as_str.ensures.value ∙ ap (λ s. size (chars (string_bytes s))) c.deref.ensures
    ∙ ap size c.self.view_is
