use Rattle.str_indices.proofs.lemmas.{◌≡◌, arith, sym, ◌∙◌, true, ascii_follow, both_follow, is_open, open_ascii, window_ascii}
use Rattle.std.specs.Prelude.{IsFalse}
use Rattle.str_indices.proofs.utf8_faults.check_alone.Goals as goal

pub returns-then-goes_on-clause-err : goal.returns-then-goes_on-clause-err
returns-then-goes_on-clause-err g c =
    let text = c.args.probe.now.text in
    let at = c.args.at in
    let some = g.met.T.ByteChunk.lawful.least in
    let opened : is_open text at ≡ true = sym c.goes_on.ensures.open ∙ c.if-goes_on.true in
    let ascii = window_ascii text c.requires.chunk (c.is_ascii.ensures.0 c.if-is_ascii.true) in
    record {
      within = omega (arith, c.requires.within, some);
      follow = c.requires.follow;
      stops = open_ascii text at opened (ascii at (omega arith) (omega (arith, some)));
    }

pub returns-then-is_ascii-clause-ok : goal.returns-then-is_ascii-clause-ok
returns-then-is_ascii-clause-ok g c =
    let text = c.args.probe.now.text in
    let shut : IsFalse (is_open text c.args.at) = sym c.goes_on.ensures.open ∙ c.if-goes_on.false in
    let ascii = window_ascii text c.requires.chunk (c.is_ascii.ensures.0 c.if-is_ascii.true) in
    let all = ascii_follow text c.args.at g.T.ByteChunk.SIZE shut ascii in (
      both_follow text c.requires.follow all.0,
      λ _. all.1,
    )
