use Rattle.text_index.proofs.lemmas.{◌≡◌, ℕ, ◌+◌, ◌*◌, ◌/◌, ◌<◌, ◌≤◌, chars, length, slice_index_or, stretch_size, IsMark, IsMarkAt, Mark}
use Rattle.text_index.proofs.marking.fill.Given as goal

-- the marks up to here
abbrev pub invariant-marks : goal.invariant-marks
invariant-marks l = record {
  each : (j : ℕ) (d : Mark) → j < l.i → IsMarkAt (chars l.fn.text) (j + 1) (slice_index_or l.room j d);
  many : length l.room ≡ length l.fn.text / stretch_size;
  last : IsMark (chars l.fn.text) l.last;
  before : l.last.byte ≤ l.i * stretch_size;
}
