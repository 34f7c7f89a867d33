use Rattle.str_indices.proofs.lemmas.{◌≡◌, ◌+◌, ◌-◌, ◌*◌, ◌/◌, ◌≤◌, ◌∙◌, sym, ap, arith, subst, true, AllFollow, AreFour, is_open, ascii_follow, both_follow, four_more, group_and_more, group_ascii, group_made, open_ascii, weaken}
use Rattle.std.specs.Prelude.{IsFalse, IfNone, Option, None, Some}
use Rattle.std.proofs.lemmas.Option.{IfSome_then}
use Rattle.str_indices.proofs.utf8_faults.next_group.Goals as goal

pub returns-then-is_open-clause-err : goal.returns-then-is_open-clause-err
returns-then-is_open-clause-err g c =
    let text = c.args.probe.now.text in
    let at = c.args.at in
    let least = g.met.T.ByteChunk.lawful.least in
    let group = c.load_group-group.ensures in
    let ascii = group_ascii text group.four (c.is_ascii.ensures.0 c.if-not-is_ascii.false) in
    let opened = subst (λ t. is_open t at ≡ true) group.reads.text_kept (sym c.is_open.ensures.open ∙ c.if-is_open.true) in (
      record {
        within = omega (arith, c.requires.within, least);
        follow = c.requires.follow;
        stops = open_ascii text at opened (ascii at (omega arith) (omega (arith, least)));
      },
      group_made group.reads group.loads group.peeks c.is_open.ensures.reads,
    )

pub skip_ascii-at-requires-clause-follow : goal.skip_ascii-at-requires-clause-follow
skip_ascii-at-requires-clause-follow g c =
    let text = c.args.probe.now.text in
    let at = c.args.at in
    let group = c.load_group-group.ensures in
    let kept = c.is_open.ensures.reads.text_kept ∙ group.reads.text_kept in
    let ascii = group_ascii text group.four (c.is_ascii.ensures.0 c.if-not-is_ascii.false) in
    let shut = subst (λ t. IsFalse (is_open t at)) group.reads.text_kept (sym c.is_open.ensures.open ∙ c.if-is_open.false) in
    subst (λ t. AllFollow t 0 (at + 4 * c.SIZE-2.result)) (sym kept)
    (subst (λ k. AllFollow text 0 (at + 4 * k)) (sym c.SIZE-2.ensures)
    (both_follow text c.requires.follow (ascii_follow text at (4 * g.T.ByteChunk.SIZE) shut ascii).0))

pub skip_ascii-at-requires-clause-shut : goal.skip_ascii-at-requires-clause-shut
skip_ascii-at-requires-clause-shut g c =
    let text = c.args.probe.now.text in
    let at = c.args.at in
    let group = c.load_group-group.ensures in
    let kept = c.is_open.ensures.reads.text_kept ∙ group.reads.text_kept in
    let ascii = group_ascii text group.four (c.is_ascii.ensures.0 c.if-not-is_ascii.false) in
    let shut = subst (λ t. IsFalse (is_open t at)) group.reads.text_kept (sym c.is_open.ensures.open ∙ c.if-is_open.false) in
    rw (kept, c.SIZE-2.ensures) (ascii_follow text at (4 * g.T.ByteChunk.SIZE) shut ascii).1

pub returns-clause-some : goal.returns-clause-some
returns-clause-some g c =
    let text = c.args.probe.now.text in
    let at = c.args.at in
    let size = g.T.ByteChunk.SIZE in
    let lanes = g.T.ByteChunk.lanes in
    let to = c.skip_ascii-at.result.0 in
    let group = c.load_group-group.ensures in
    let kept = c.is_open.ensures.reads.text_kept ∙ group.reads.text_kept in
    let from : at + 4 * c.SIZE-2.result ≡ at + 4 * size = ap (λ k. at + 4 * k) c.SIZE-2.ensures in
    let low : at + 4 * size ≤ to = omega (arith, from, c.skip_ascii-at.ensures.within.0) in
    IfSome_then c.skip_ascii-at.result.1 c.skip_ascii-at.ensures.some (λ found all.
    let reads = group_and_more (omega (arith, c.skip_ascii-at.ensures.within.0)) group.reads group.loads group.peeks c.is_open.ensures.reads all.1
    c.bytes_before.ensures.reads in (
      subst (λ t. AreFour size t to (lanes found.first) (lanes found.second) (lanes found.third) (lanes found.fourth)) kept all.0,
      weaken reads (omega arith) (omega arith)
          (omega (arith, four_more at to size g.met.T.ByteChunk.lawful.least low, ap (λ k. (to - k) / size) from)) (omega arith),
    ))

pub returns-clause-none : goal.returns-clause-none
returns-clause-none g c =
    let at = c.args.at in
    let size = g.T.ByteChunk.SIZE in
    let to = c.skip_ascii-at.result.0 in
    let group = c.load_group-group.ensures in
    let from : at + 4 * c.SIZE-2.result ≡ at + 4 * size = ap (λ k. at + 4 * k) c.SIZE-2.ensures in
    let low : at + 4 * size ≤ to = omega (arith, from, c.skip_ascii-at.ensures.within.0) in
    none_then c.skip_ascii-at.result.1 c.skip_ascii-at.ensures.none (λ all.
    weaken (group_and_more (omega (arith, c.skip_ascii-at.ensures.within.0)) group.reads group.loads group.peeks c.is_open.ensures.reads all
    c.bytes_before.ensures.reads) (omega arith) (omega arith)
    (omega (arith, four_more at to size g.met.T.ByteChunk.lawful.least low, ap (λ k. (to - k) / size) from)) (omega arith))
  where
    none_then : {X : Type 0} {P Q : Type 0} (r : Option X) → IfNone r P → (P → Q) → IfNone r Q
    none_then None h f = f h
    none_then (Some x) h f = tt
