use Rattle.std.specs.Prelude.{min}
use Rattle.str_indices.specs.Starts.{IsGreatestBoundary}
use Rattle.str_indices.specs.declared.Scheme.TheVariants.{Chars}
use Rattle.positions.proofs.lemmas.Callers.{ascii_weighed, weighed_by_bytes, weighed_by_scheme}
use Rattle.piece_text.proofs.lemmas.{◌≡◌, ◌∙◌, ap, sym, subst, size, count, from_byte_idx, joined, summary_of, took_byte, took_none}
use Rattle.piece_text.specs.Parts.{Asks}
use Rattle.piece_text.proofs.parts.PiecePartsParts.units_of_byte.Goals as goal

pub returns-then-self-clause-answer : goal.returns-then-self-clause-answer
returns-then-self-clause-answer c =
    let view : c.self.inside.pieces ≡ c.args.self.now = c.self.view_is in
    let cs = joined c.args.self.now.texts in
    let whole : c.self.inside.whole ≡ summary_of cs = c.self.invariant ∙ ap (λ v. summary_of (joined v.texts)) view in
    let ascii : count Chars cs ≡ size cs = sym (ap (λ w. w.chars) whole) ∙ c.if-self.true ∙ ap (λ w. w.len) whole in
    c.min.ensures ∙ ap (λ w. min c.args.byte w.len) whole ∙ ascii_weighed c.args.encoding cs ascii c.args.byte

pub returns-then-self-clause-cost : goal.returns-then-self-clause-cost
returns-then-self-clause-cost c = took_none c.args.self.now

pub returns-in-None-clause-answer : goal.returns-in-None-clause-answer
returns-in-None-clause-answer c =
    let view : c.self.inside.pieces ≡ c.args.self.now = c.self.view_is in
    weighed_by_bytes c.args.encoding (joined c.args.self.now.texts) c.args.byte c.char_start_in.result (sym c.unit_scheme.ensures ∙ c.in-None.is)
    (subst (λ v. IsGreatestBoundary (joined v.texts) c.args.byte c.char_start_in.result) view c.char_start_in.ensures.answer)

pub returns-in-None-clause-cost : goal.returns-in-None-clause-cost
returns-in-None-clause-cost c =
    let view : c.self.inside.pieces ≡ c.args.self.now = c.self.view_is in
    took_byte (subst (λ v. Asks v c.char_start_in.new.p) view c.char_start_in.ensures.cost)

pub returns-in-Some-clause-answer : goal.returns-in-Some-clause-answer
returns-in-Some-clause-answer c =
    let view : c.self.inside.pieces ≡ c.args.self.now = c.self.view_is in
    c.from_in.ensures.answer ∙ ap (λ v. from_byte_idx c.in-Some.s (joined v.texts) c.args.byte) view
    ∙ weighed_by_scheme c.args.encoding (joined c.args.self.now.texts) c.args.byte c.in-Some.s (sym c.unit_scheme.ensures ∙ c.in-Some.is)

pub returns-in-Some-clause-cost : goal.returns-in-Some-clause-cost
returns-in-Some-clause-cost c =
    let view : c.self.inside.pieces ≡ c.args.self.now = c.self.view_is in
    let took = c.from_in.ensures in
    let asks : Asks c.self.inside.pieces c.from_in.new.p = record {
      texts = took.texts;
      looks = took.looks;
      looks_kept = took.looks_kept;
      reads = took.reads;
      reads_kept = took.reads_kept;
    } in
    took_byte (subst (λ v. Asks v c.from_in.new.p) view asks)
