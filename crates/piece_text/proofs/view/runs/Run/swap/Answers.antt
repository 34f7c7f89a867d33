use Rattle.piece_text.proofs.lemmas.{◌∙◌, ap, sym, arith, refl, length, take_all, size, joined, summary_of, run_swap}
use Rattle.str_indices.specs.Joins.{starts_with_feed, ends_in_return}
use Rattle.piece_text.proofs.view.runs.Run.swap.Goals as goal

pub apply_update-requires : goal.apply_update-requires
apply_update-requires c =
    let is = c.requires.swapped in
    let sw = is.swap_is in
    let same = run_swap c.args.self c.args.own.now c.args.at c.args.swap is in
    record {
      a = joined sw.before;
      m = joined sw.gone;
      b = joined sw.after;
      t = joined sw.come;
      whole_is = is.is.whole ∙ ap summary_of same.old_joined;
      update_is = record {
        ends_cr = c.ends_before.ensures.ends ∙ ap (λ ts. ends_in_return (joined ts)) same.before;
        starts_lf = c.starts_from.ensures ∙ ap (λ ts. starts_with_feed (joined ts)) same.after;
        removed = sw.out;
        inserted = sw.own;
      };
      short_old = omega (arith, is.short, ap size same.old_joined);
      short_new = omega (arith, c.requires.short, ap size same.new_joined);
    }

pub returns : goal.returns
returns c =
    let is = c.requires.swapped in
    let sw = is.swap_is in
    let new = c.args.own.now in
    let same = run_swap c.args.self new c.args.at c.args.swap is in
    let all = take_all (length new) new (omega arith) in
    record {
      count = refl;
      whole = c.apply_update.ensures (joined sw.before) (joined sw.gone) (joined sw.after) (joined sw.come)
          (is.is.whole ∙ ap summary_of same.old_joined)
          (record {
            ends_cr = c.ends_before.ensures.ends ∙ ap (λ ts. ends_in_return (joined ts)) same.before;
            starts_lf = c.starts_from.ensures ∙ ap (λ ts. starts_with_feed (joined ts)) same.after;
            removed = sw.out;
            inserted = sw.own;
          })
          (c.starts_from-starts_lf.ensures ∙ ap starts_with_feed same.new_joined)
          (c.ends_before-ends_cr.ensures.ends ∙ ap (λ ts. ends_in_return (joined ts)) all ∙ ap ends_in_return same.new_joined)
          ∙ ap summary_of (sym same.new_joined);
      some = λ none. c.ends_before-ends_cr.ensures.some c.requires.some (ap joined all ∙ none);
    }
