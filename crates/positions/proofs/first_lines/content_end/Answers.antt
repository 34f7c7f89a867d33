use Rattle.positions.proofs.lemmas.{◌≡◌, ◌-◌, ◌<◌, ◌∙◌, sym, true, true≢false, arith, chars, size, size-chars, count, scheme_of, is_break, carriage_return, to_byte_idx, IsCrlfMiddle, first_line_end, some_in_back, some_before_end, none_at_end, middle_above, ends_before_return, ends_before_last}
use Rattle.positions.proofs.first_lines.content_end.Goals as goal
use Rattle.positions.proofs.first_lines.content_end.Goals.{else-next-text-via-then-next-text+else-count-eq0, else-next-text-via-else-next-text, else-ends_at_return-via-then-ends_at_return+else-is_middle, else-ends_at_return-via-else-ends_at_return}

pub returns-then-count-eq0 : goal.returns-then-count-eq0
returns-then-count-eq0 g c =
    let l = c.args.lines in
    let text = c.args.text.now in
    let is = rw c.scheme.ensures at c.to_byte_idx-next.ensures.answer in
    let last : to_byte_idx (scheme_of l) (chars text) 1 ≡ size (chars text) =
    omega (arith, is, c.if-next-text.true, size-chars text c.utf8.text) in
    let before : c.saturating_sub.result ≡ size (chars text) - 1 =
    omega (arith, c.saturating_sub.ensures, c.if-next-text.true, size-chars text c.utf8.text) in
    let none = sym (rw c.scheme-then-next-text.ensures at c.count.ensures) ∙ c.if-count-eq0.true in
    let all = none_at_end l (chars text) (chars c.from_byte.result.now) c.char_start-last.result c.from_byte.ensures last
    (rw before at c.char_start-last.ensures) none in
    omega (arith, is, last, all)

pub overflow_sub-result : goal.overflow_sub-result
overflow_sub-result g c =
    omega (arith, middle_above (chars c.args.text.now) c.char_start-last.result (c.is_middle.ensures.0 c.if-is_middle.true))

pub returns-then-is_middle : goal.returns-then-is_middle
returns-then-is_middle g c =
    let l = c.args.lines in
    let cs = chars c.args.text.now in
    let is = rw c.scheme.ensures at c.to_byte_idx-next.ensures.answer in
    let more : 0 < count (scheme_of l) cs = elim c.else-next-text.branch [
      | else-next-text-via-then-next-text+else-count-eq0 w ↦
          let some = rw w.scheme-then-next-text.ensures at w.count.ensures in
          some_in_back l cs (chars w.from_byte.result.now) c.char_start-last.result w.from_byte.ensures
          (omega (arith, some, w.if-count-eq0.false))
      | else-next-text-via-else-next-text w ↦
          some_before_end l cs (λ same. w.if-next-text.false (is ∙ same ∙ size-chars c.args.text.now c.utf8.text))
    ] in
    let before : c.saturating_sub.result ≡ to_byte_idx (scheme_of l) cs 1 - 1 = omega (arith, c.saturating_sub.ensures, is) in
    let ends = ends_before_return l cs 0 more c.char_start-last.result (rw before at c.char_start-last.ensures)
    (sym c.ends_at_return.ensures ∙ c.if-ends_at_return.true) (c.is_middle.ensures.0 c.if-is_middle.true) in
    omega (arith, ends, first_line_end l cs)

pub returns-else-ends_at_return : goal.returns-else-ends_at_return
returns-else-ends_at_return g c =
    let l = c.args.lines in
    let cs = chars c.args.text.now in
    let is = rw c.scheme.ensures at c.to_byte_idx-next.ensures.answer in
    let more : 0 < count (scheme_of l) cs = elim c.else-next-text.branch [
      | else-next-text-via-then-next-text+else-count-eq0 w ↦
          let some = rw w.scheme-then-next-text.ensures at w.count.ensures in
          some_in_back l cs (chars w.from_byte.result.now) c.char_start-last.result w.from_byte.ensures
          (omega (arith, some, w.if-count-eq0.false))
      | else-next-text-via-else-next-text w ↦
          some_before_end l cs (λ same. w.if-next-text.false (is ∙ same ∙ size-chars c.args.text.now c.utf8.text))
    ] in
    let before : c.saturating_sub.result ≡ to_byte_idx (scheme_of l) cs 1 - 1 = omega (arith, c.saturating_sub.ensures, is) in
    let other : is_break l carriage_return ≡ true → IsCrlfMiddle cs c.char_start-last.result → ⊥ =
    elim c.else-ends_at_return.branch [
      | else-ends_at_return-via-then-ends_at_return+else-is_middle w ↦
          λ _ middle. true≢false (sym (w.is_middle.ensures.1 middle) ∙ w.if-is_middle.false)
      | else-ends_at_return-via-else-ends_at_return w ↦
          λ breaks _. true≢false (sym breaks ∙ sym c.ends_at_return.ensures ∙ w.if-ends_at_return.false)
    ] in
    let ends = ends_before_last l cs 0 more c.char_start-last.result (rw before at c.char_start-last.ensures) other in
    omega (arith, ends, first_line_end l cs)
