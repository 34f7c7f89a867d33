use Rattle.text_summary.proofs.lemmas.{starts_by_first, edges_of_none}
use Rattle.text_summary.proofs.summaries.starts_lf.Goals as goal

pub returns-in-Some : goal.returns-in-Some
returns-in-Some c = starts_by_first c.args.text.now _ c.utf8.text c.as_bytes.ensures.value _
    c.in-Some.ensures.item.0 c.in-Some.ensures.item.1

pub returns-in-None : goal.returns-in-None
returns-in-None c = (edges_of_none c.args.text.now _ c.as_bytes.ensures.value c.in-None.ensures.item.0).0
