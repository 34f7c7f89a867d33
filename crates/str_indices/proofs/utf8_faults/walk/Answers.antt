use Rattle.str_indices.proofs.lemmas.{◌∙◌, arith, ap, sym, get_or, after_zeros, byte_after_zeros, follows_is, one_follows}
use Rattle.str_indices.proofs.utf8_faults.walk.Goals as goal

pub returns-then-not-may_follow-clause-err : goal.returns-then-not-may_follow-clause-err
returns-then-not-may_follow-clause-err g c =
    let so_far = c.loop-i.invariant in
    let text = c.args.probe.now.text in
    let byte = rw so_far.reads.text_kept at c.turn-byte.ensures.byte in
    let is = follows_is text c.loop-i.i so_far.x so_far.y so_far.z byte in
    record {
      within = omega (arith, c.requires, c.loop-i-test.true);
      follow = so_far.follow;
      stops = sym is ∙ sym c.may_follow.ensures ∙ c.if-not-may_follow.true;
    }

pub loop-i-preserved : goal.loop-i-preserved
loop-i-preserved g c =
    let so_far = c.loop-i.invariant in
    let text = c.args.probe.now.text in
    let all = after_zeros text in
    let byte = rw so_far.reads.text_kept at c.turn-byte.ensures.byte in
    let is = follows_is text c.loop-i.i so_far.x so_far.y so_far.z byte in
    record {
      follow = one_follows text so_far.follow (sym is ∙ sym c.may_follow.ensures ∙ c.if-not-may_follow.false);
      x = so_far.y;
      y = so_far.z ∙ ap (λ k. get_or all k 0) (omega arith);
      z = byte ∙ sym (byte_after_zeros text c.loop-i.i) ∙ ap (λ k. get_or all k 0) (omega arith);
      reads = rw c.turn-byte.ensures.state (grind (arith, so_far.reads));
    }
