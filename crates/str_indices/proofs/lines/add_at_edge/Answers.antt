use Rattle.str_indices.proofs.lemmas.{◌≡◌, ◌-◌, ◌+◌, add_comm, get_or, take, arith, ap, ◌∙◌, get_or-take, flag, lane_small, separator_crosses, separator_kept, wide_crosses, wide_kept}
use Rattle.str_indices.proofs.lines.add_at_edge.Goals as goal

pub returns-then-is_separator-clause-lanes : goal.returns-then-is_separator-clause-lanes
returns-then-is_separator-clause-lanes g c =
    let least = g.met.T.ByteChunk.lawful.least in
    let bytes = take c.args.end c.args.probe.now.text in
    let seen = get_or-take c.args.end c.args.probe.now.text in
    let last = c.args.at + (g.T.ByteChunk.SIZE - 1) in
    let same_place = add_comm c.args.at (g.T.ByteChunk.SIZE - 1) in
    let same = ap (λ p. p.text) c.peek-byte.ensures.state in
    let same' = ap (λ p. p.text) c.peek-last_but_one.ensures.state ∙ same in
    let before : c.peek-last_but_one.result ≡ get_or bytes (last - 1) 0 =
    cc (rw (c.SIZE.ensures, same) at c.peek-last_but_one.ensures.byte, seen (last - 1) 0 (omega (arith, least)), same_place)
    in
    let next : c.peek_ahead.result ≡ get_or bytes (1 + last) 0 =
    cc (rw (c.SIZE.ensures, same') at c.peek_ahead.ensures.byte, same_place) in
    separator_crosses bytes _ _ least c.requires.counted
    (cc (seen last 0 (omega (arith, least)), same_place)) before next (cc) c.inc_nth_from_end_lex_byte.ensures

pub returns-else-is_separator-clause-lanes : goal.returns-else-is_separator-clause-lanes
returns-else-is_separator-clause-lanes g c =
    let least = g.met.T.ByteChunk.lawful.least in
    let bytes = take c.args.end c.args.probe.now.text in
    let seen = get_or-take c.args.end c.args.probe.now.text in
    let last = c.args.at + (g.T.ByteChunk.SIZE - 1) in
    let same_place = add_comm c.args.at (g.T.ByteChunk.SIZE - 1) in
    let same = ap (λ p. p.text) c.peek-byte.ensures.state in
    let same' = ap (λ p. p.text) c.peek-last_but_one.ensures.state ∙ same in
    let before : c.peek-last_but_one.result ≡ get_or bytes (last - 1) 0 =
    cc (rw (c.SIZE.ensures, same) at c.peek-last_but_one.ensures.byte, seen (last - 1) 0 (omega (arith, least)), same_place)
    in
    let next : c.peek_ahead.result ≡ get_or bytes (1 + last) 0 =
    cc (rw (c.SIZE.ensures, same') at c.peek_ahead.ensures.byte, same_place) in
    separator_kept bytes _ _ least c.requires.counted
    (cc (seen last 0 (omega (arith, least)), same_place)) before next (cc)

pub returns-then-is_wide_break-clause-lanes : goal.returns-then-is_wide_break-clause-lanes
returns-then-is_wide_break-clause-lanes g c =
    let law = g.met.T.ByteChunk.lawful in
    let seen = get_or-take c.args.end c.args.probe.now.text (c.args.at + (g.T.ByteChunk.SIZE - 1)) 0 (omega arith) in
    let same = ap (λ p. p.text) c.peek-byte.ensures.state in
    let same_place = add_comm c.args.at (g.T.ByteChunk.SIZE - 1) in
    wide_crosses (take c.args.end c.args.probe.now.text) _ _ law.least c.requires.counted
    (λ second. c.if-byte.false (cc same_place)) (cc (ap flag c.if-is_wide_break.true, same_place))
    c.inc_nth_from_end_lex_byte-then-is_wide_break.ensures

pub returns-else-is_wide_break-clause-lanes : goal.returns-else-is_wide_break-clause-lanes
returns-else-is_wide_break-clause-lanes g c =
    let law = g.met.T.ByteChunk.lawful in
    let seen = get_or-take c.args.end c.args.probe.now.text (c.args.at + (g.T.ByteChunk.SIZE - 1)) 0 (omega arith) in
    let same = ap (λ p. p.text) c.peek-byte.ensures.state in
    let same_place = add_comm c.args.at (g.T.ByteChunk.SIZE - 1) in
    wide_kept (take c.args.end c.args.probe.now.text) _ _ law.least c.requires.counted
    (λ second. c.if-byte.false (cc same_place)) (cc (ap flag c.if-is_wide_break.false, same_place))

pub inc_nth_from_end_lex_byte-requires-then-is_wide_break-clause-room :
    goal.inc_nth_from_end_lex_byte-requires-then-is_wide_break-clause-room
inc_nth_from_end_lex_byte-requires-then-is_wide_break-clause-room g c =
    let least = g.met.T.ByteChunk.lawful.least in
    lane_small (take c.args.end c.args.probe.now.text) c.args.at _ least c.requires.counted _ (omega (arith, least))
