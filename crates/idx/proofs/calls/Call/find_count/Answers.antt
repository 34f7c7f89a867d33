use Rattle.idx.proofs.Common.{counting_named, sym, counting_calls}
use Rattle.idx.proofs.Names.{entry_named-no_row}
use Rattle.idx.proofs.calls.Call.find_count.Goals as goal

pub returns-in_default : goal.returns-in_default
unfolding counting_named
returns-in_default c = sym (entry_named-no_row c.args.name.now counting_calls (assumption c.in_default))
