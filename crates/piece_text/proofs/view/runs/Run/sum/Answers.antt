use Rattle.piece_text.proofs.lemmas.{◌+◌, [], get_or_default, ◌∙◌, ap, arith, sym, take, size, size-append, joined, piece_at, summary_of, joined-take, joined_size-take}
use Rattle.piece_text.proofs.view.runs.Run.sum.Goals as goal

pub join_summaries-whole-requires : goal.join_summaries-whole-requires
join_summaries-whole-requires c =
    let texts = c.args.pieces.now in
    let i = c.loop-i.i in
    let more = ap size (joined-take texts i c.loop-i-test.true) ∙ size-append (joined (take i texts)) (piece_at texts i) in
    record {
      a = joined (take i texts);
      b = piece_at texts i;
      front_is = c.loop-i.invariant;
      after_is = c.summary.ensures.summary ∙ ap summary_of (c.index-pieces-i.is ∙ get_or_default texts i c.index-pieces-i.result [] c.loop-i-test.true);
      short = omega (arith, more, joined_size-take texts (i + 1), c.requires.short);
    }

pub loop-i-preserved : goal.loop-i-preserved
loop-i-preserved c =
    let texts = c.args.pieces.now in
    let i = c.loop-i.i in
    let after = c.summary.ensures.summary ∙ ap summary_of (c.index-pieces-i.is ∙ get_or_default texts i c.index-pieces-i.result [] c.loop-i-test.true) in
    c.join_summaries-whole.ensures (joined (take i texts)) (piece_at texts i) c.loop-i.invariant after
    ∙ ap summary_of (sym (joined-take texts i c.loop-i-test.true))
