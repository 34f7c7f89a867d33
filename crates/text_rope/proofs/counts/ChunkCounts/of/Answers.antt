use Rattle.text_rope.proofs.lemmas.{ap, arith, Chars, Utf16, Lf, Crlf, Lines, count-le-size}
use Rattle.text_rope.proofs.counts.ChunkCounts.of.Goals as goal

pub overflow_cast-result-2 : goal.overflow_cast-result-2
overflow_cast-result-2 c =
    omega (arith, ap (λ s. s.chars) c.requires.right, count-le-size Chars c.requires.text, c.requires.short)

pub overflow_cast-result-3 : goal.overflow_cast-result-3
overflow_cast-result-3 c =
    omega (arith, ap (λ s. s.utf16) c.requires.right, count-le-size Utf16 c.requires.text, c.requires.short)

pub overflow_cast-result-4 : goal.overflow_cast-result-4
overflow_cast-result-4 c =
    omega (arith, ap (λ s. s.lf) c.requires.right, count-le-size Lf c.requires.text, c.requires.short)

pub overflow_cast-result-5 : goal.overflow_cast-result-5
overflow_cast-result-5 c =
    omega (arith, ap (λ s. s.crlf) c.requires.right, count-le-size Crlf c.requires.text, c.requires.short)

pub overflow_cast-result-6 : goal.overflow_cast-result-6
overflow_cast-result-6 c =
    omega (arith, ap (λ s. s.lines) c.requires.right, count-le-size Lines c.requires.text, c.requires.short)
