use Rattle.idx.proofs.Common.{conversion_named, sym, ap, option_map, conversions}
use Rattle.idx.proofs.Names.{entry_named-no_row}
use Rattle.idx.proofs.calls.Call.find_conversion.Goals as goal

pub returns-in_default : goal.returns-in_default
unfolding conversion_named
returns-in_default c = sym (ap (option_map (λ conversion. conversion c.args.index))
    (entry_named-no_row c.args.name.now conversions (assumption c.in_default)))
