use Rattle.positions.proofs.lemmas.{add-zero, ◌≡◌, ◌∙◌, ap, sym, subst, refl, chars, units_of, weighed, to_byte_idx, scheme_of, byte_at, IsBoundary, boundary_within, IsBoundary-byte_at, line_within, exact_made, none_made, taken_after}
use Rattle.positions.proofs.queries.exact_byte_after.Goals as goal

pub units_up_to-before_line-requires : goal.units_up_to-before_line-requires
units_up_to-before_line-requires g c =
    λ k. (
      (refl, tt),
      (
        c.requires.part,
        (c.requires.units, boundary_within (chars c.args.start.now.part.text.now) c.args.start.now.offset c.requires.boundary),
      ),
    )

pub overflow_sub-units : goal.overflow_sub-units
overflow_sub-units g c =
    let cs = (g.P.Parts.state c.args.parts.now).text in
    let l = c.args.lines in
    let e = c.args.encoding in
    let byte = c.byte_after-byte in
    let text = byte.ensures.cost.text ∙ c.units_up_to-before_line.ensures.cost.text in
    let before : c.units_up_to-before_line.result ≡ weighed (units_of e) cs (to_byte_idx (scheme_of l) cs c.args.position.line) =
    c.units_up_to-before_line.ensures.answer ∙ ap (weighed (units_of e) cs) c.requires.place in
    let is = byte.ensures.answer ∙ ap (λ t. byte_at l e t c.args.position) c.units_up_to-before_line.ensures.cost.text in
    let units : c.units_of_byte-units.result ≡ weighed (units_of e) cs byte.result =
    c.units_of_byte-units.ensures.answer ∙ ap (λ t. weighed (units_of e) t byte.result) text in
    line_within l e cs c.args.position byte.result c.units_up_to-before_line.result c.units_of_byte-units.result is before units

pub returns-then-units-before_line-clause-answer : goal.returns-then-units-before_line-clause-answer
returns-then-units-before_line-clause-answer g c =
    let cs = (g.P.Parts.state c.args.parts.now).text in
    let l = c.args.lines in
    let e = c.args.encoding in
    let byte = c.byte_after-byte in
    let text = byte.ensures.cost.text ∙ c.units_up_to-before_line.ensures.cost.text in
    let before : c.units_up_to-before_line.result ≡ weighed (units_of e) cs (to_byte_idx (scheme_of l) cs c.args.position.line) =
    c.units_up_to-before_line.ensures.answer ∙ ap (weighed (units_of e) cs) c.requires.place in
    let is = byte.ensures.answer ∙ ap (λ t. byte_at l e t c.args.position) c.units_up_to-before_line.ensures.cost.text in
    let units : c.units_of_byte-units.result ≡ weighed (units_of e) cs byte.result =
    c.units_of_byte-units.ensures.answer ∙ ap (λ t. weighed (units_of e) t byte.result) text in
    none_made l e cs c.args.position byte.result c.units_up_to-before_line.result c.units_of_byte-units.result is before units c.if-units-before_line.true

pub returns-then-units-before_line-clause-cost : goal.returns-then-units-before_line-clause-cost
returns-then-units-before_line-clause-cost g c =
    let first = c.units_up_to-before_line.ensures.cost in
    rw (add-zero) at (taken_after (taken_after first c.byte_after-byte.ensures.cost) c.units_of_byte-units.ensures.cost)

pub returns-clause-answer : goal.returns-clause-answer
returns-clause-answer g c =
    let cs = (g.P.Parts.state c.args.parts.now).text in
    let l = c.args.lines in
    let e = c.args.encoding in
    let byte = c.byte_after-byte in
    let text = byte.ensures.cost.text ∙ c.units_up_to-before_line.ensures.cost.text in
    let before : c.units_up_to-before_line.result ≡ weighed (units_of e) cs (to_byte_idx (scheme_of l) cs c.args.position.line) =
    c.units_up_to-before_line.ensures.answer ∙ ap (weighed (units_of e) cs) c.requires.place in
    let is = byte.ensures.answer ∙ ap (λ t. byte_at l e t c.args.position) c.units_up_to-before_line.ensures.cost.text in
    let units : c.units_of_byte-units.result ≡ weighed (units_of e) cs byte.result =
    c.units_of_byte-units.ensures.answer ∙ ap (λ t. weighed (units_of e) t byte.result) text in
    exact_made l e cs c.args.position byte.result c.units_up_to-before_line.result c.units_of_byte-units.result is before units c.requires.has c.if-units-before_line.false

pub returns-clause-boundary : goal.returns-clause-boundary
returns-clause-boundary g c =
    let cs = (g.P.Parts.state c.args.parts.now).text in
    let l = c.args.lines in
    let e = c.args.encoding in
    let is = c.byte_after-byte.ensures.answer
    ∙ ap (λ t. byte_at l e t c.args.position) c.units_up_to-before_line.ensures.cost.text in
    subst (IsBoundary cs) (sym is) (IsBoundary-byte_at l e cs c.args.position)

pub returns-clause-cost : goal.returns-clause-cost
returns-clause-cost g c =
    let first = c.units_up_to-before_line.ensures.cost in
    rw (add-zero) at (taken_after (taken_after first c.byte_after-byte.ensures.cost) c.units_of_byte-units.ensures.cost)
