use Rattle.positions.proofs.lemmas.{inl, arith, part_within, next_in_part, last_inside, return_within, end_is}
use Rattle.positions.proofs.starts.end_before.Goals as goal

pub overflow_sub-next : goal.overflow_sub-next
overflow_sub-next g c =
    let cs = (g.P.Parts.state c.args.parts.now).text in
    let next = c.args.next.now in
    next_in_part cs c.args.lines c.args.encoding next.part c.requires.part c.args.line next.offset c.requires.round c.requires.place c.requires.boundary c.requires.more

pub overflow_add-result : goal.overflow_add-result
overflow_add-result g c =
    let cs = (g.P.Parts.state c.args.parts.now).text in
    let next = c.args.next.now in
    omega (
      arith,
      part_within cs c.args.lines c.args.encoding next.part c.requires.part,
      last_inside cs c.args.lines c.args.encoding next.part c.requires.part c.args.line next.offset c.requires.round c.requires.place c.requires.boundary c.requires.more c.char_start-last.result c.char_start-last.ensures,
      c.len-len.ensures.short,
    )

pub overflow_sub-result : goal.overflow_sub-result
overflow_sub-result g c =
    let cs = (g.P.Parts.state c.args.parts.now).text in
    let next = c.args.next.now in
    let behind = c.crlf_offset.ensures cs c.args.lines c.args.encoding c.requires.part
    (inl (last_inside cs c.args.lines c.args.encoding next.part c.requires.part c.args.line next.offset c.requires.round c.requires.place c.requires.boundary c.requires.more c.char_start-last.result c.char_start-last.ensures)) in
    return_within cs c.args.lines c.args.encoding next.part c.requires.part c.args.line next.offset c.requires.round c.requires.place c.requires.boundary c.requires.more c.char_start-last.result c.char_start-last.ensures c.crlf_offset.result behind

pub returns : goal.returns
returns g c =
    let cs = (g.P.Parts.state c.args.parts.now).text in
    let next = c.args.next.now in
    let behind = c.crlf_offset.ensures cs c.args.lines c.args.encoding c.requires.part
    (inl (last_inside cs c.args.lines c.args.encoding next.part c.requires.part c.args.line next.offset c.requires.round c.requires.place c.requires.boundary c.requires.more c.char_start-last.result c.char_start-last.ensures)) in
    end_is cs c.args.lines c.args.encoding next.part c.requires.part c.args.line next.offset c.requires.round c.requires.place c.requires.boundary c.requires.more c.char_start-last.result c.char_start-last.ensures c.crlf_offset.result behind
