use Rattle.idx.proofs.Common.{◌∙◌, ◌+◌, ◌-◌, ◌≡◌, ℕ, List, ◌++◌, length, ap, arith, subst, sym, take, drop, take_all, length-drop, take-add, Appends}
use Rattle.std.proofs.KnownBytes.{Appends-trans}
use Rattle.idx.proofs.output.write_text.Goals as goal

-- the slice from a place on is the bytes without those before it
rest_of : (bytes : List ℕ) (written : ℕ) → take (length bytes - written) (drop written bytes) ≡ drop written bytes
rest_of bytes written = take_all _ (drop written bytes) (omega (arith, length-drop written bytes))

-- bytes taken of the rest go on where the bytes before it end
taken_on : (bytes : List ℕ) (written count : ℕ)
    → take written bytes ++ take count (take (length bytes - written) (drop written bytes)) ≡ take (written + count)
    bytes
taken_on bytes written count = ap (λ rest. take written bytes ++ take count rest) (rest_of bytes written)
    ∙ sym (take-add written count bytes)

pub loop-written-preserved : goal.loop-written-preserved
loop-written-preserved g c =
    let l = c.loop-written in
    let bytes = c.args.bytes.now in
    let count = c.in-Ok.count in
    let sent = Appends-trans _ _ _ _ _ l.invariant.1 c.in-Ok.ensures.bytes in (
      omega (arith, c.in-Ok.ensures.bound, ap length (rest_of bytes l.written), length-drop l.written bytes),
      subst
          (Appends _ _) (taken_on bytes l.written count) sent,
    )
