use Rattle.text_summary.proofs.lemmas.{◌≡◌, ◌-◌, ◌∙◌, ap, arith, count, seam_loss, sym, size-append, count-le-size, is_joined, count_of, count_of-summary, ends_in_return-append}
use Rattle.text_summary.proofs.fronts.Front.step.Goals as goal

pub count_before-reached-requires : goal.count_before-reached-requires
count_before-reached-requires c = record {
  a = c.requires.a;
  b = c.requires.b;
  front_is = c.requires.front_is;
  starts_is = ap (λ p. p.starts_lf) c.requires.piece_is;
}

pub overflow_add-len : goal.overflow_add-len
overflow_add-len c = omega (arith, c.requires.front_is.len, ap (λ p. p.len) c.requires.piece_is, c.requires.short)

pub overflow_add-total : goal.overflow_add-total
overflow_add-total c =
    let s = c.args.s in
    let is = c.requires in
    let reached = c.count_before-reached.ensures is.a is.b is.front_is (ap (λ p. p.starts_lf) is.piece_is) in
    let own = c.count.ensures ∙ ap (λ p. count_of p s) is.piece_is ∙ count_of-summary s is.b in
    omega (arith, reached, own, count-le-size s is.a, count-le-size s is.b, is.short)

pub returns : goal.returns
returns c a b front_is piece_is some =
    let s = c.args.s in
    let reached : c.count_before-reached.result ≡ count s a - seam_loss s a b =
    c.count_before-reached.ensures a b front_is (ap (λ p. p.starts_lf) piece_is) in
    let own = c.count.ensures ∙ ap (λ p. count_of p s) piece_is ∙ count_of-summary s b in
    let seam = is_joined s a b in
    record {
      reached = reached;
      after = record {
        len = omega (arith, front_is.len, ap (λ p. p.len) piece_is, size-append a b);
        total = omega (arith, reached, own, seam.counts, seam.loss_within);
        ends_cr = ap (λ p. p.ends_cr) piece_is ∙ sym (ends_in_return-append a b some);
      };
    }
