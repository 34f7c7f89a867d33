use Rattle.text_rope.proofs.lemmas.{ap, arith, length, joined_size, takes_log}
use Rattle.text_rope.proofs.edits.replace_text.Goals as goal

pub returns-in-Some-clause-work : goal.returns-in-Some-clause-work
returns-in-Some-clause-work c =
    let subtree = c.in-Some.subtree.now in
    takes_log subtree.height (length subtree.texts) (joined_size c.args.tree.now) 53 240 (length c.args.more.now) c.args.work.now
    c.replace_text_in.new.work c.height-height.ensures.many
    (omega (arith, ap joined_size c.in-Some.ensures.chunks, c.summary-summary.ensures.few)) (record {
      nodes_at_most = omega (arith, c.replace_text_in.ensures.work.nodes_at_most);
      chunks_at_most = omega (arith, c.replace_text_in.ensures.work.chunks_at_most);
      nodes_kept = c.replace_text_in.ensures.work.nodes_kept;
      chunks_kept = c.replace_text_in.ensures.work.chunks_kept;
    })
