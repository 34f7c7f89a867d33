use Rattle.text_summary.proofs.lemmas.{◌≡◌, ℕ, ◌++◌, ◌∙◌, refl, ap, sym, arith, append_assoc, chars, Text, size, size-append, size-chars, size-replaced, IsBoundary, IsReplaced, ends_in_return, starts_with_feed-append, ends_in_return-append, summary_of, boundary-le, boundary_upto, parts_of, same_replaced}
use Rattle.text_summary.proofs.changes.summary_after.Goals as goal

-- a text cut at two places, with another one for what is between them
abbrev cut : (whole front a m b t : Text) (from to : ℕ) → whole ≡ front ++ b → size front ≡ to → front ≡ a ++ m
    → size a ≡ from → IsReplaced whole (a ++ (t ++ b)) from to t
cut whole front a m b t from to split end inner start = record {
  front = a;
  middle = m;
  back = b;
  was = split ∙ ap (λ x. x ++ b) inner ∙ append_assoc a m b;
  start = start;
  end = omega (arith, ap size inner, size-append a m, end);
  is = refl;
}

-- the first boundary is one of the text up to the second
pub halves-requires-2 : goal.halves-requires-2
halves-requires-2 c =
    let front = chars c.halves.result.0.now in
    let back = chars c.halves.result.1.now in
    let start : IsBoundary (front ++ back) c.args.from = rw c.halves.ensures.parts at c.requires.start in
    boundary_upto front back c.args.from (omega (arith, c.halves.ensures.place, c.requires.order)) start

-- and the second one is within the text
pub overflow_sub-whole : goal.overflow_sub-whole
overflow_sub-whole c =
    omega (arith, boundary-le (chars c.args.text.now) c.args.to c.requires.end, ap (λ s. s.len) c.requires.whole)

pub apply_update-requires : goal.apply_update-requires
apply_update-requires c =
    let text = c.args.text.now in
    let more = c.args.inserted.now in
    let a = chars c.halves-2.result.0.now in
    let m = chars c.halves-2.result.1.now in
    let b = chars c.halves.result.1.now in
    let r = cut (chars text) (chars c.halves.result.0.now) a m b (chars more) c.args.from c.args.to c.halves.ensures.parts
    c.halves.ensures.place c.halves-2.ensures.parts c.halves-2.ensures.place in
    let sizes = size-replaced (chars text) (a ++ (chars more ++ b)) c.args.from c.args.to (chars more) r in
    let bytes = size-chars text c.utf8.text in
    record {
      a = a;
      m = m;
      b = b;
      t = chars more;
      whole_is = c.requires.whole ∙ ap summary_of r.was;
      update_is = record { ends_cr = c.ends_cr.ensures; starts_lf = c.starts_lf.ensures; removed = c.of.ensures; inserted = c.requires.own };
      short_old = omega (arith, ap size r.was, bytes);
      short_new = omega (arith, sizes, bytes, size-chars more c.utf8.inserted, c.requires.short);
    }

pub returns-clause-summary : goal.returns-clause-summary
returns-clause-summary c new other =
    let text = c.args.text.now in
    let more = c.args.inserted.now in
    let a = chars c.halves-2.result.0.now in
    let m = chars c.halves-2.result.1.now in
    let b = chars c.halves.result.1.now in
    let t = chars more in
    let r = cut (chars text) (chars c.halves.result.0.now) a m b t c.args.from c.args.to c.halves.ensures.parts
    c.halves.ensures.place c.halves-2.ensures.parts c.halves-2.ensures.place in
    let whole = c.requires.whole ∙ ap summary_of r.was in
    let own = c.requires.own in
    let own_starts = c.joined_starts_lf-own_starts.ensures t b (ap (λ s. s.len) own) (λ some. ap (λ s. s.starts_lf) own)
    c.starts_lf.ensures in
    let starts = c.joined_starts_lf-starts_lf.ensures a (t ++ b) (sym r.start)
    (λ some. ap (λ s. s.starts_lf) whole ∙ starts_with_feed-append a (m ++ b) some) own_starts in
    let own_ends = c.joined_ends_cr-own_ends.ensures a t c.ends_cr.ensures (ap (λ s. s.len) own)
    (λ some. ap (λ s. s.ends_cr) own) in
    let ends = c.joined_ends_cr-ends_cr.ensures (a ++ t) b own_ends
    (omega (arith, ap (λ s. s.len) whole, size-append a (m ++ b), size-append m b, r.end))
    (λ some. ap (λ s. s.ends_cr) whole ∙ ap ends_in_return (sym (append_assoc a m b)) ∙ ends_in_return-append (a ++ m) b some) in
    c.apply_update.ensures a m b t whole
    (record { ends_cr = c.ends_cr.ensures; starts_lf = c.starts_lf.ensures; removed = c.of.ensures; inserted = own })
    starts (ends ∙ ap ends_in_return (append_assoc a t b))
    ∙ ap summary_of (same_replaced (chars text) (a ++ (t ++ b)) new c.args.from c.args.to t r other)

pub returns-clause-len : goal.returns-clause-len
returns-clause-len c =
    let text = c.args.text.now in
    let more = c.args.inserted.now in
    let p = parts_of (chars text) c.args.from c.args.to c.requires.order c.requires.start c.requires.end in
    let new = p.front ++ (chars more ++ p.back) in
    let r : IsReplaced (chars text) new c.args.from c.args.to (chars more) =
    record { front = p.front; middle = p.middle; back = p.back; was = p.parts; start = p.start; end = p.end; is = refl } in
    let is = returns-clause-summary c new r in
    let sizes = size-replaced (chars text) new c.args.from c.args.to (chars more) r in
    omega (arith, ap (λ s. s.len) is, sizes, size-chars text c.utf8.text, size-chars more c.utf8.inserted)
