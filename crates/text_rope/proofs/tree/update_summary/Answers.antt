use Rattle.text_rope.proofs.lemmas.{ap, sym, ◌∙◌, arith, size, summary_of}
use Rattle.text_rope.proofs.tree.update_summary.Goals as goal

pub shift_by-requires : goal.shift_by-requires
shift_by-requires c = record {
  fits = record {
    x = c.requires.x;
    old = c.requires.chunk;
    new = c.requires.own;
    y = c.requires.y;
    whole_is = c.requires.whole_is;
    shift_is = c.requires.shift_is;
    short_old = c.requires.short_old;
    short_new = omega (arith, ap size c.requires.new_is, c.requires.short_new);
  };
  starts = c.keeps_ends.ensures.starts c.if-keeps_ends.true;
  ends = c.keeps_ends.ensures.ends c.if-keeps_ends.true;
}

pub returns-then-keeps_ends : goal.returns-then-keeps_ends
returns-then-keeps_ends c =
    c.shift_by.ensures c.requires.x c.requires.chunk c.requires.own c.requires.y c.requires.whole_is c.requires.shift_is
    ∙ ap summary_of (sym c.requires.new_is)
