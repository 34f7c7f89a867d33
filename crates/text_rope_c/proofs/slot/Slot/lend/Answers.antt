use Rattle.std.proofs.Common.{ap, refl, ◌∙◌}
use Rattle.text_rope_c.specs.Lends.{with_text}
use Rattle.text_rope_c.proofs.slot.Slot.lend.Goals as goal

pub returns : goal.returns
returns c =
    let told = c.is_null.ensures.told.1 in (
      (refl, λ _. tt, ap (with_text c.is_null.new.self) c.as_mut.ensures.value ∙ told),
      record { stays = tt; some = c.as_mut.ensures.value ∙ ap (λ s. s.text) told; none = tt },
    )
