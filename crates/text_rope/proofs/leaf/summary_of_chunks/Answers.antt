use Rattle.text_rope.proofs.lemmas.{◌≡◌, ◌+◌, ◌++◌, ◌∙◌, ap, sym, arith, take, [], size, size-append, summary_of, joined, joined-take, joined_size-take, piece_at, get_or_default, take_all}
use Rattle.std.proofs.lemmas.List.Elements.{All-more}
use Rattle.text_rope.specs.Leaves.{HasBytes}
use Rattle.text_rope.proofs.leaf.summary_of_chunks.Goals as goal

pub join_summaries-whole-requires : goal.join_summaries-whole-requires
join_summaries-whole-requires c =
    let chunks = c.args.chunks.now in
    let i = c.loop-chunk.chunk-index in
    let own : c.chunk-item.result ≡ piece_at chunks i =
    c.chunk-item.is ∙ get_or_default chunks i c.chunk-item.result [] c.loop-chunk-test.true in
    let more = ap size (joined-take chunks i c.loop-chunk-test.true) ∙ size-append (joined (take i chunks)) (piece_at chunks i) in
    record {
      a = joined (take i chunks);
      b = c.chunk-item.result;
      front_is = c.loop-chunk.invariant.whole;
      after_is = c.summary.ensures.summary;
      short = omega (arith, more, ap size own, joined_size-take chunks (i + 1), c.requires);
    }

pub loop-chunk-preserved : goal.loop-chunk-preserved
loop-chunk-preserved c =
    let chunks = c.args.chunks.now in
    let i = c.loop-chunk.chunk-index in
    let own : c.chunk-item.result ≡ piece_at chunks i =
    c.chunk-item.is ∙ get_or_default chunks i c.chunk-item.result [] c.loop-chunk-test.true in
    let more = joined-take chunks i c.loop-chunk-test.true in
    record {
      whole = c.join_summaries-whole.ensures (joined (take i chunks)) c.chunk-item.result c.loop-chunk.invariant.whole c.summary.ensures.summary
          ∙ ap (λ r. summary_of (joined (take i chunks) ++ r)) own ∙ ap summary_of (sym more);
      each = All-more HasBytes chunks i [] c.loop-chunk-test.true c.loop-chunk.invariant.each (λ none. c.summary.ensures.some (own ∙ none));
    }

pub returns : goal.returns
returns c =
    let chunks = c.args.chunks.now in
    let all : take c.loop-chunk.chunk-index chunks ≡ chunks = take_all c.loop-chunk.chunk-index chunks c.loop-chunk-test.false in
    record {
      summary = rw all at c.loop-chunk.invariant.whole;
      each = rw all at c.loop-chunk.invariant.each;
    }
