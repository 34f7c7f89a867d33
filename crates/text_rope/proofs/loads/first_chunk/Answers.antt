use Rattle.std.proofs.Math.Nat.{div-mul-le_self}
use Rattle.std.proofs.lemmas.Nat.{le-div}
use Rattle.text_rope.proofs.lemmas.{◌<◌, ◌≤◌, ◌*◌, ◌/◌, mul-le-mul, length, goes_far, refl, arith, append-nil, chars, chars-nil, size-chars, chars-some, IsCharBoundary-from_boundary, boundary_start, goes_on, chars-cut, size-part, some-part}
use Rattle.text_rope.proofs.loads.first_chunk.Goals as goal

pub returns-then-text-le-MAX_CHUNK-clause-parts : goal.returns-then-text-le-MAX_CHUNK-clause-parts
returns-then-text-le-MAX_CHUNK-clause-parts c = rw (chars-nil, append-nil) refl

pub returns-then-text-le-MAX_CHUNK-clause-some : goal.returns-then-text-le-MAX_CHUNK-clause-some
returns-then-text-le-MAX_CHUNK-clause-some c = chars-some c.args.text.now c.utf8.text c.requires.some

pub returns-then-text-le-MAX_CHUNK-clause-piece : goal.returns-then-text-le-MAX_CHUNK-clause-piece
returns-then-text-le-MAX_CHUNK-clause-piece c =
    omega (arith, size-chars c.args.text.now c.utf8.text, c.if-text-le-MAX_CHUNK.true)

pub returns-clause-parts : goal.returns-clause-parts
returns-clause-parts c =
    let end = c.end_near-end in
    rw (c.split_at.ensures.front, c.split_at.ensures.back) (chars-cut c.args.text.now c.utf8.text end.result end.ensures.boundary)

pub returns-clause-some : goal.returns-clause-some
returns-clause-some c =
    let bytes = c.args.text.now in
    let end = c.end_near-end in
    let first = IsCharBoundary-from_boundary bytes c.utf8.text 0 (boundary_start (chars bytes)) in
    let above : 0 < end.result = goes_on bytes c.utf8.text 0 end.result c.clamp-each.result first c.requires.some
    (omega (arith, c.clamp-each.ensures)) (λ i past within. end.ensures.nearest i past (omega (arith, within))) in
    rw c.split_at.ensures.front (some-part bytes c.utf8.text end.result end.ensures.boundary above)

pub returns-clause-piece : goal.returns-clause-piece
returns-clause-piece c =
    let end = c.end_near-end in
    rw c.split_at.ensures.front (omega (
      arith,
      size-part c.args.text.now c.utf8.text end.result end.ensures.boundary,
      end.ensures.bound,
      c.clamp-each.ensures,
    ))

pub returns-clause-less : goal.returns-clause-less
returns-clause-less c =
    let bytes = c.args.text.now in
    let end = c.end_near-end in
    let first = IsCharBoundary-from_boundary bytes c.utf8.text 0 (boundary_start (chars bytes)) in
    let above : 0 < end.result = goes_on bytes c.utf8.text 0 end.result c.clamp-each.result first c.requires.some
    (omega (arith, c.clamp-each.ensures)) (λ i past within. end.ensures.nearest i past (omega (arith, within))) in
    omega (arith, above, c.split_at.ensures.back_len)

pub returns-clause-whole : goal.returns-clause-whole
returns-clause-whole c short = absurd (omega (arith, short, c.if-text-le-MAX_CHUNK.false))

pub returns-clause-enough : goal.returns-clause-enough
returns-clause-enough c some =
    let bytes = c.args.text.now in
    let len = length bytes in
    let chunks = c.div_ceil-chunks.result in
    let end = c.end_near-end in
    let wide : 512 ≤ len / chunks = le-div 512 len chunks (omega (arith, c.div_ceil-chunks.ensures))
    (omega (arith, c.div_ceil-chunks.ensures, c.if-text-le-MAX_CHUNK.false)) in
    let far = goes_far bytes c.utf8.text end.result c.clamp-each.result end.ensures.boundary (omega (arith, c.split_at.ensures.back_len, some))
    end.ensures.nearest in
    rw c.split_at.ensures.front (omega (arith, size-part bytes c.utf8.text end.result end.ensures.boundary, far, wide, c.clamp-each.ensures))

pub returns-clause-rest : goal.returns-clause-rest
returns-clause-rest c some =
    let len = length c.args.text.now in
    let chunks = c.div_ceil-chunks.result in
    let two : 2 ≤ chunks = omega (arith, c.div_ceil-chunks.ensures, c.if-text-le-MAX_CHUNK.false) in
    let each : len / chunks * 2 ≤ len / chunks * chunks = mul-le-mul (omega arith) two in
    omega (
      arith,
      each,
      div-mul-le_self len chunks,
      c.clamp-each.ensures,
      c.end_near-end.ensures.bound,
      c.split_at.ensures.back_len,
      c.if-text-le-MAX_CHUNK.false,
    )

pub returns-then-text-le-MAX_CHUNK-clause-len : goal.returns-then-text-le-MAX_CHUNK-clause-len
returns-then-text-le-MAX_CHUNK-clause-len c = omega (arith, size-chars c.args.text.now c.utf8.text)

pub returns-clause-len : goal.returns-clause-len
returns-clause-len c =
    let end = c.end_near-end in
    rw c.split_at.ensures.front (omega (
      arith,
      size-part c.args.text.now c.utf8.text end.result end.ensures.boundary,
      end.ensures.boundary.0,
      c.split_at.ensures.back_len,
    ))
