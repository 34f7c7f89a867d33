use Rattle.text_rope.proofs.lemmas.{arith, Chars, Utf16, Lf, Crlf, Lines, shifted_count, shifted_numbers}
use Rattle.text_rope.proofs.shifts.shift_by.Goals as goal

pub overflow_add-whole-2 : goal.overflow_add-whole-2
overflow_add-whole-2 c =
    omega (arith, (shifted_count Chars c.args.whole.now c.args.shift.now c.requires.fits c.requires.starts c.requires.ends).fits, c.requires.fits.short_old, c.requires.fits.short_new)

pub overflow_sub-whole-2 : goal.overflow_sub-whole-2
overflow_sub-whole-2 c = omega (arith, (shifted_count Chars c.args.whole.now c.args.shift.now c.requires.fits c.requires.starts c.requires.ends).out_le)

pub overflow_add-whole-3 : goal.overflow_add-whole-3
overflow_add-whole-3 c =
    omega (arith, (shifted_count Utf16 c.args.whole.now c.args.shift.now c.requires.fits c.requires.starts c.requires.ends).fits, c.requires.fits.short_old, c.requires.fits.short_new)

pub overflow_sub-whole-3 : goal.overflow_sub-whole-3
overflow_sub-whole-3 c = omega (arith, (shifted_count Utf16 c.args.whole.now c.args.shift.now c.requires.fits c.requires.starts c.requires.ends).out_le)

pub overflow_add-whole-4 : goal.overflow_add-whole-4
overflow_add-whole-4 c =
    omega (arith, (shifted_count Lf c.args.whole.now c.args.shift.now c.requires.fits c.requires.starts c.requires.ends).fits, c.requires.fits.short_old, c.requires.fits.short_new)

pub overflow_sub-whole-4 : goal.overflow_sub-whole-4
overflow_sub-whole-4 c = omega (arith, (shifted_count Lf c.args.whole.now c.args.shift.now c.requires.fits c.requires.starts c.requires.ends).out_le)

pub overflow_add-whole-5 : goal.overflow_add-whole-5
overflow_add-whole-5 c =
    omega (arith, (shifted_count Crlf c.args.whole.now c.args.shift.now c.requires.fits c.requires.starts c.requires.ends).fits, c.requires.fits.short_old, c.requires.fits.short_new)

pub overflow_sub-whole-5 : goal.overflow_sub-whole-5
overflow_sub-whole-5 c = omega (arith, (shifted_count Crlf c.args.whole.now c.args.shift.now c.requires.fits c.requires.starts c.requires.ends).out_le)

pub overflow_add-whole-6 : goal.overflow_add-whole-6
overflow_add-whole-6 c =
    omega (arith, (shifted_count Lines c.args.whole.now c.args.shift.now c.requires.fits c.requires.starts c.requires.ends).fits, c.requires.fits.short_old, c.requires.fits.short_new)

pub overflow_sub-whole-6 : goal.overflow_sub-whole-6
overflow_sub-whole-6 c = omega (arith, (shifted_count Lines c.args.whole.now c.args.shift.now c.requires.fits c.requires.starts c.requires.ends).out_le)

pub returns : goal.returns
returns c x old new y whole_is is = shifted_numbers c.args.whole.now c.args.shift.now x old new y whole_is is c.requires.starts
    c.requires.ends
