use Rattle.std.specs.Prelude.{slice_index}
use Rattle.std.specs.Str.{IsAscii}
use Rattle.std.proofs.lemmas.Str.{chars-IsAscii}
use Rattle.text_summary.proofs.lemmas.{◌≡◌, ◌∙◌, ℕ, zero, suc, ◌<◌, List, [], ◌∷◌, ap, sym, arith, chars, length, chars-none, summary_of}
use Rattle.text_summary.proofs.summaries.Summary.of.Goals as goal

-- a byte below 128 is a char by itself
ascii_alone : (byte : ℕ) → byte < 128 → IsAscii (byte ∷ [])
ascii_alone byte low zero = low
ascii_alone byte low (suc i) = omega arith

char_alone : (bytes : List ℕ) → length bytes ≡ 1 → slice_index bytes 0 < 128 → slice_index bytes 0 ∷ [] ≡ chars bytes
char_alone [] one low = absurd (omega (arith, one))
char_alone (byte ∷ []) one low = sym (chars-IsAscii (byte ∷ []) (ascii_alone byte low))
char_alone (byte ∷ next ∷ bytes) one low = absurd (omega (arith, one))

pub returns-in-empty : goal.returns-in-empty
returns-in-empty c =
    let none : length c.args.text.now ≡ 0 = omega (arith, ap length c.as_bytes.ensures.value, c.in-empty.len_below) in
    c.none.ensures ∙ ap summary_of (sym (chars-none c.args.text.now none))

pub returns-in-len1 : goal.returns-in-len1
returns-in-len1 c =
    let one : length c.as_bytes.result.now ≡ 1 = omega (arith, c.in-len1.len_at_least, c.in-len1.len_below) in
    c.of_ascii.ensures ∙ ap summary_of (char_alone c.as_bytes.result.now one c.if-byte-lt128.true)
    ∙ ap (λ b. summary_of (chars b)) c.as_bytes.ensures.value
