use Rattle.text_rope.proofs.lemmas.{rules, ◌≡◌, subst, ◌+◌, ◌-◌, ◌∷◌, ◌∙◌, ap, sym, arith, refl, chars, inl, inr, cases_lt, size, joined, boundary_end, boundary_in_chunk, part_of_chunk, boundary_of_part, chunk_of_rest, in_text, rest_after, asked_after, asked_within, none_asked, one_asked}
use Rattle.text_rope.specs.Chunks.{EndsWithChunk, HasChunkAt, IsPartAt}
use Rattle.text_rope.specs.Rests.{IsOnWay}
use Rattle.text_rope.proofs.iter.Chunks.next_chunk.Goals as goal

pub text_between-part-requires-clause-start : goal.text_between-part-requires-clause-start
text_between-part-requires-clause-start c =
    let at = c.self.inside.at in
    let chunk = in_text (chunk_of_rest c.rest_of-rest.ensures.rest c.in-Some.ensures.cases.0 c.read-text.ensures.text) in
    boundary_in_chunk at (at - c.rest_of-rest.result.start) chunk c.self.invariant.within.start (omega (arith, chunk.after))
    (omega (arith, chunk.after, chunk.inside))

pub text_between-part-requires-clause-end : goal.text_between-part-requires-clause-end
text_between-part-requires-clause-end c =
    let start = c.rest_of-rest.result.start in
    let end = c.self.inside.end in
    let text = chars c.read-text.result.now in
    let to = c.min-to.result in
    let is = c.read-text.ensures in
    let len = ap size is.text in
    let chunk = in_text (chunk_of_rest c.rest_of-rest.ensures.rest c.in-Some.ensures.cases.0 is.text) in
    elim (cases_lt (end - start) (size text)) [
      | inl before ↦ boundary_in_chunk end to chunk c.self.invariant.within.stop
          (omega (arith, chunk.after, c.self.invariant.within.order, is.len, len, c.min-to.ensures))
          (omega (arith, is.len, len, c.min-to.ensures))
      | inr past ↦ boundary_end text to (omega (arith, is.len, len, c.min-to.ensures))
    ]

pub invariant_of-self : goal.invariant_of-self
invariant_of-self c =
    let at = c.self.inside.at in
    let start = c.rest_of-rest.result.start in
    let to = start + c.min-to.result in
    let within = c.self.invariant.within in
    let is = c.read-text.ensures in
    let old = c.self.inside.view.texts in
    let left = c.prefetch_first-self-inside in
    let same : left.new.v.texts ≡ old = left.ensures.cost.texts ∙ ap (λ v. v.texts) is.state ∙ c.rest_of-rest.ensures.texts in
    let chunk = in_text (chunk_of_rest c.rest_of-rest.ensures.rest c.in-Some.ensures.cases.0 is.text) in
    let here : IsOnWay old left.result.now to c.self.inside.end = record {
      within = record {
        order = omega (arith, chunk.after, within.order, c.min-to.ensures);
        start = boundary_of_part (part_of_chunk at to chunk c.text_between-part.ensures (omega (arith, chunk.after)) refl);
        stop = within.stop;
      };
      chunks_are = λ before some. rest_after c.rest_of-rest.ensures.rest
          (c.in-Some.ensures.cases.0 ∙ ap (λ chunks. c.in-Some.chunk.now ∷ chunks) (sym c.prefetch_first-self-inside.ensures.chunks))
          (omega (arith, chunk.after, within.order, is.len, c.min-to.ensures));
    } in
    subst (λ t. IsOnWay t left.result.now to c.self.inside.end) (sym same) here

pub returns : goal.returns
returns c =
    let at = c.self.inside.at in
    let texts = c.self.inside.view.texts in
    let start = c.rest_of-rest.result.start in
    let to = start + c.min-to.result in
    let rest = c.rest_of-rest.ensures in
    let is = c.read-text.ensures in
    let len = ap size is.text in
    let has : HasChunkAt texts (chars c.read-text.result.now) start at = chunk_of_rest rest.rest c.in-Some.ensures.cases.0 is.text in
    let part : IsPartAt (joined texts) (chars c.text_between-part.result.now) at to =
    part_of_chunk at to (in_text has) c.text_between-part.ensures (omega (arith, has.after)) refl in
    let whole : EndsWithChunk texts at to c.self.inside.end = record {
      chunk = chars c.read-text.result.now;
      start = start;
      has = has;
      stop = omega (arith, has.after, c.self.invariant.within.order, is.len, len, c.min-to.ensures);
    } in
    let texts_are = ap (λ s. s.view.texts) c.self.view_is in
    let at_is = ap (λ s. s.at) c.self.view_is in
    record {
      none = search rules;
      part = rw (texts_are, at_is) at part;
      whole = rw (texts_are, at_is, ap (λ s. s.end) c.self.view_is) at whole;
      on = search rules;
      within = search rules;
      piece = search rules;
      ended = search rules;
      cost = rw (ap (λ s. s.view) c.self.view_is) at (asked_after
          (one_asked rest.texts rest.looks rest.looks_kept rest.reads is.state) c.prefetch_first-self-inside.ensures.cost);
      end = search rules;
    }

pub returns-then-self : goal.returns-then-self
returns-then-self c = record {
  none = search rules;
  part = search rules;
  whole = search rules;
  on = search rules;
  within = search rules;
  piece = search rules;
  ended = search rules;
  cost = asked_within (omega arith) (none_asked _);
  end = search rules;
}
