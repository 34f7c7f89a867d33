use Rattle.std.proofs.Common.{◌↔◌}
use Rattle.std.specs.Slice.Iter.{chunks_rest}
use Rattle.str_indices.specs.Kinds.{HasNoWideLead}
use Rattle.str_indices.proofs.kinds.no_wide_lead.Given as goal

abbrev pub invariant-loop-block : goal.invariant-loop-block
invariant-loop-block l =
    goal.iterator-loop-block.can_next l.block-iterator
    × goal.iterator-loop-block.is_finite l.block-iterator
    × (HasNoWideLead l.bytes ↔ HasNoWideLead (chunks_rest l.block-iterator))
