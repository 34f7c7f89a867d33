use Rattle.std.proofs.Common.{rules, ◌≢◌}
use Rattle.str_indices.proofs.lemmas.{after_block}
use Rattle.str_indices.proofs.kinds.no_wide_lead.Goals as goal

pub loop-block-preserved : goal.loop-block-preserved
loop-block-preserved c =
    let so_far = c.loop-block.invariant in (
      search rules,
      tt,
      after_block (λ b. (b ≢ 0xC2) × (b ≢ 0xE2)) _ _ _ _ c.in-Some.ensures.steps.1.0
          (c.no_lead_in-in-loop-block.ensures.0 c.if-not-no_lead_in.false) so_far.2,
    )
