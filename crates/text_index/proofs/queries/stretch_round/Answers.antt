use Rattle.text_index.proofs.lemmas.{◌+◌, ◌/◌, arith, not_last}
use Rattle.text_index.proofs.queries.stretch_round.Goals as goal

pub end_by-requires-clause-within : goal.end_by-requires-clause-within
end_by-requires-clause-within c =
    let more = not_last c.args.m.now.text c.args.b (c.args.b / 1024 + 1) c.end_by-next.result.now c.end_by-next.ensures.mark
    c.requires c.if-b-next.false in
    rw c.end_by-next.ensures.text (omega (arith, more))

pub returns-else-b-next-clause-start : goal.returns-else-b-next-clause-start
returns-else-b-next-clause-start c =
    let more = not_last c.args.m.now.text c.args.b (c.args.b / 1024 + 1) c.end_by-next.result.now c.end_by-next.ensures.mark
    c.requires c.if-b-next.false in
    omega (arith, c.end_by-next.ensures.mark.near more, c.if-b-next.false)
