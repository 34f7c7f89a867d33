use Rattle.str_indices.proofs.lemmas.{◌≡◌, ◌-◌, ◌∙◌, length, sym, ap, arith, not_from_false, IsUtf8-follows, is_open, leading_bytes, one_chunk_more, open_start, open_start-near, valid_len-at_fault}
use Rattle.std.proofs.lemmas.Bool.{false≢true, not-true}
use Rattle.str_indices.proofs.utf8.is_utf8_impl.Goals as goal

pub returns-in-Ok-clause-answer : goal.returns-in-Ok-clause-answer
returns-in-Ok-clause-answer g c =
    let text = c.args.probe.now.text in
    let iff = IsUtf8-follows text in
    let goes_on : c.is_open.result ≡ is_open text (length text) =
    c.is_open.ensures.open ∙ ap (λ t. is_open t c.len-len.result) c.first_fault.ensures.reads.text_kept
    ∙ ap (λ k. is_open text k) c.len-len.ensures.len in
    (λ shut. iff.1 (c.in-Ok.ensures.ok, sym goes_on ∙ not-true _ shut), λ utf8. not_from_false _ (goes_on ∙ (iff.0 utf8).1))

pub returns-in-Err-clause-answer : goal.returns-in-Err-clause-answer
returns-in-Err-clause-answer g c =
    let fault = c.in-Err.ensures.err in
    let iff = IsUtf8-follows c.args.probe.now.text in (
      λ no. absurd (false≢true no),
      λ utf8. absurd (false≢true (sym fault.stops ∙ (iff.0 utf8).0 c.in-Err.field-0.at (omega arith) fault.within)),
    )

pub returns-in-Ok-clause-early : goal.returns-in-Ok-clause-early
returns-in-Ok-clause-early g c =
    let text = c.args.probe.now.text in
    let n = length text in
    let size = g.T.ByteChunk.SIZE in
    let least = g.met.T.ByteChunk.lawful.least in
    let few = one_chunk_more (n - leading_bytes c.args.lead n) (open_start text n) size least (omega (arith, least, open_start-near text n)) in
    rw (valid_len-at_fault text n (omega arith) c.in-Ok.ensures.ok (λ past. absurd (omega arith)))
    (omega (arith, few, c.first_fault.ensures.reads.loads_within.within, c.is_open.ensures.reads.loads_within.within))

pub returns-in-Err-clause-early : goal.returns-in-Err-clause-early
returns-in-Err-clause-early g c =
    let text = c.args.probe.now.text in
    let fault = c.in-Err.ensures.err in
    let at = c.in-Err.field-0.at in
    let size = g.T.ByteChunk.SIZE in
    let least = g.met.T.ByteChunk.lawful.least in
    let few = one_chunk_more at (open_start text at) size least (omega (arith, least, open_start-near text at)) in
    rw (valid_len-at_fault text at (omega (arith, fault.within)) fault.follow (λ l yes. false≢true (sym fault.stops ∙ yes)))
    (omega (arith, few, c.in-Err.ensures.loads))
