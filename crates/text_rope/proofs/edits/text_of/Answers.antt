use Rattle.text_rope.proofs.lemmas.{◌≡◌, ◌++◌, ◌∙◌, ap, sym, append_assoc, chars, chars-append, string_bytes}
use Rattle.text_rope.proofs.edits.text_of.Goals as goal

pub returns-clause-text : goal.returns-clause-text
returns-clause-text c =
    let a = c.args.before.now in
    let b = c.args.head.now in
    let m = c.args.more.now in
    let d = c.args.tail.now in
    let e = c.args.after.now in
    let bytes : string_bytes c.push_str-5.new.self ≡ (((a ++ b) ++ m) ++ d) ++ e =
    c.in_ok-push_str-5.ensures.bytes ∙ ap (λ x. x ++ e) (c.in_ok-push_str-4.ensures.bytes
    ∙ ap (λ x. x ++ d) (c.in_ok-push_str-3.ensures.bytes ∙ ap (λ x. x ++ m) (c.in_ok-push_str-2.ensures.bytes
    ∙ ap (λ x. x ++ b) (c.in_ok-push_str.ensures.bytes ∙ ap (λ x. x ++ a) c.in_ok-text.ensures.bytes)))) in
    let whole : (((a ++ b) ++ m) ++ d) ++ e ≡ a ++ (b ++ (m ++ (d ++ e))) = simp append_assoc in
    ap chars (bytes ∙ whole) ∙ chars-append a (b ++ (m ++ (d ++ e))) c.utf8.before
    ∙ ap (λ r. chars a ++ r) (chars-append b (m ++ (d ++ e)) c.utf8.head
    ∙ ap (λ r. chars b ++ r) (chars-append m (d ++ e) c.utf8.more ∙ ap (λ r. chars m ++ r) (chars-append d e c.utf8.tail)))
    ∙ sym (append_assoc (chars a) (chars b) (chars m ++ (chars d ++ chars e)))
