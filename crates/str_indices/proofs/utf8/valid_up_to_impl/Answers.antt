use Rattle.str_indices.proofs.lemmas.{◌≡◌, ◌+◌, ◌-◌, ◌/◌, ◌∙◌, length, sym, ap, arith, open_start, fewer_loads, leading_bytes, one_chunk_more, open_start-near, then_, unloaded, valid_len-at_fault, weaken}
use Rattle.std.proofs.lemmas.Bool.{false≢true}
use Rattle.str_indices.proofs.utf8.valid_up_to_impl.Goals as goal

pub returns-in-Ok-clause-answer : goal.returns-in-Ok-clause-answer
returns-in-Ok-clause-answer g c =
    let text = c.args.probe.now.text in
    let start : c.open_start.result ≡ open_start text (length text) =
    c.open_start.ensures.start ∙ ap (λ t. open_start t c.len-len.result) c.first_fault.ensures.reads.text_kept
    ∙ ap (λ k. open_start text k) c.len-len.ensures.len in
    start ∙ sym (valid_len-at_fault text (length text) (omega arith) c.in-Ok.ensures.ok (λ past. absurd (omega arith)))

pub returns-in-Err-clause-answer : goal.returns-in-Err-clause-answer
returns-in-Err-clause-answer g c =
    let text = c.args.probe.now.text in
    let fault = c.in-Err.ensures.err in
    let at = c.in-Err.fault.at in
    let start : c.open_start-in-Err.result ≡ open_start text at =
    c.open_start-in-Err.ensures.start ∙ ap (λ t. open_start t at) c.first_fault.ensures.reads.text_kept in
    start ∙ sym (valid_len-at_fault text at (omega (arith, fault.within)) fault.follow (λ l yes. false≢true (sym fault.stops ∙ yes)))

pub returns-in-Ok-clause-pass : goal.returns-in-Ok-clause-pass
returns-in-Ok-clause-pass g c =
    let size = g.T.ByteChunk.SIZE in
    let text = c.args.probe.now.text in
    let n = length text in
    let first = leading_bytes c.args.lead n in
    let start : c.open_start.result ≡ open_start text n =
    c.open_start.ensures.start ∙ ap (λ t. open_start t c.len-len.result) c.first_fault.ensures.reads.text_kept
    ∙ ap (λ k. open_start text k) c.len-len.ensures.len in
    let least = g.met.T.ByteChunk.lawful.least in
    let few = one_chunk_more (n - first) c.open_start.result size least (omega (arith, start, open_start-near text n)) in
    weaken (then_ c.first_fault.ensures.reads (unloaded first c.open_start.ensures.reads)) (omega arith) (omega arith)
    (omega (arith, few)) (omega arith)

pub returns-in-Err-clause-pass : goal.returns-in-Err-clause-pass
returns-in-Err-clause-pass g c =
    let size = g.T.ByteChunk.SIZE in
    let text = c.args.probe.now.text in
    let at = c.in-Err.fault.at in
    let first = leading_bytes c.args.lead (length text) in
    let start : c.open_start-in-Err.result ≡ open_start text at =
    c.open_start-in-Err.ensures.start ∙ ap (λ t. open_start t at) c.first_fault.ensures.reads.text_kept in
    let few = one_chunk_more at c.open_start-in-Err.result size g.met.T.ByteChunk.lawful.least
    (omega (arith, start, open_start-near text at, g.met.T.ByteChunk.lawful.least)) in
    let reads = fewer_loads (c.open_start-in-Err.result / size + 5) (omega (arith, few, c.in-Err.ensures.loads)) c.first_fault.ensures.reads in
    weaken (then_ reads (unloaded first c.open_start-in-Err.ensures.reads)) (omega arith) (omega arith) (omega arith) (omega arith)
