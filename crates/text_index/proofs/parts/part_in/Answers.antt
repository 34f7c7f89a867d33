use Rattle.str_indices.specs.declared.Scheme.TheVariants as schemes
use Rattle.positions.specs.Lines.{scheme_of}
use Rattle.text_index.proofs.lemmas.{◌≡◌, ◌∙◌, refl, ap, arith, chars, count_at, adds_up, part_of_stretch, units_between}
use Rattle.text_index.proofs.parts.part_in.Goals as goal

pub overflow_sub-result : goal.overflow_sub-result
overflow_sub-result c =
    let adds = adds_up c.args.m.now.text (chars c.read.result.now) c.args.stretch.now c.requires c.read.ensures.part in
    omega (arith, adds.counts schemes.Chars, c.count.ensures, c.count-2.ensures)

pub overflow_sub-result-2 : goal.overflow_sub-result-2
overflow_sub-result-2 c =
    let text = c.args.m.now.text in
    omega (
      arith,
      units_between c.args.encoding text (chars c.read.result.now) c.args.stretch.now c.requires c.read.ensures.part,
      c.units-units.ensures text c.requires.start,
      c.units.ensures text c.requires.end,
    )

pub overflow_sub-result-3 : goal.overflow_sub-result-3
overflow_sub-result-3 c =
    let adds = adds_up c.args.m.now.text (chars c.read.result.now) c.args.stretch.now c.requires c.read.ensures.part in
    omega (arith, adds.counts schemes.Lf, c.count-3.ensures, c.count-4.ensures)

pub overflow_sub-result-4 : goal.overflow_sub-result-4
overflow_sub-result-4 c =
    let adds = adds_up c.args.m.now.text (chars c.read.result.now) c.args.stretch.now c.requires c.read.ensures.part in
    omega (arith, adds.counts c.scheme-s.result, c.count-breaks.ensures, c.count-5.ensures)

pub returns-clause-part : goal.returns-clause-part
returns-clause-part c =
    let text = c.args.m.now.text in
    let stretch = c.args.stretch.now in
    let own = chars c.read.result.now in
    let part = c.read.ensures.part in
    let s = scheme_of c.args.lines in
    let adds = adds_up text own stretch c.requires part in
    let first : c.count-breaks.result ≡ count_at stretch.start.now s =
    c.count-breaks.ensures ∙ ap (count_at stretch.start.now) c.scheme-s.ensures in
    let last : c.count-5.result ≡ count_at stretch.end.now s = c.count-5.ensures ∙ ap (count_at stretch.end.now) c.scheme-s.ensures in
    let first_units = c.units-units.ensures text c.requires.start in
    let last_units = c.units.ensures text c.requires.end in
    part_of_stretch c.args.lines c.args.encoding text stretch _ c.requires part refl first _ refl first_units refl _ refl (record {
      chars = omega (arith, adds.counts schemes.Chars, c.count.ensures, c.count-2.ensures);
      units = omega (arith, units_between c.args.encoding text own stretch c.requires part, first_units, last_units);
      lf = omega (arith, adds.counts schemes.Lf, c.count-3.ensures, c.count-4.ensures);
      breaks = omega (arith, adds.counts s, first, last);
    })
