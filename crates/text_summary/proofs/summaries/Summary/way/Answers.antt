use Rattle.text_summary.proofs.lemmas.{◌∙◌, ap, sym, characters_are_bytes, units_are_bytes, units_by_characters, crlf_by_lf, lines_by_lf, lines_by_crlf}
use Rattle.text_summary.proofs.summaries.Summary.way.Goals as goal

pub returns-in-Chars : goal.returns-in-Chars
returns-in-Chars c = λ t is. let same = c.if-self.true in
    rw c.in-Chars.is (characters_are_bytes t (sym (ap (λ m. m.chars) is) ∙ same ∙ ap (λ m. m.len) is))

pub returns-in-Utf16 : goal.returns-in-Utf16
returns-in-Utf16 c = λ t is. let same = c.if-self-2.true in
    rw c.in-Utf16.is (units_are_bytes t (sym (ap (λ m. m.chars) is) ∙ same ∙ ap (λ m. m.len) is))

pub returns-in-Utf16-2 : goal.returns-in-Utf16-2
returns-in-Utf16-2 c = λ t is. let same = c.if-self-3.true in
    rw c.in-Utf16-2.is (units_by_characters t (sym (ap (λ m. m.utf16) is) ∙ same ∙ ap (λ m. m.chars) is))

pub returns-in-Crlf : goal.returns-in-Crlf
returns-in-Crlf c = λ t is. let same = c.if-self-4.true in
    rw c.in-Crlf.is (crlf_by_lf t (sym (ap (λ m. m.crlf) is) ∙ same ∙ ap (λ m. m.lf) is))

pub returns-in-Lines : goal.returns-in-Lines
returns-in-Lines c = λ t is. let same = c.if-self-5.true in
    rw c.in-Lines.is (lines_by_lf t (sym (ap (λ m. m.lines) is) ∙ same ∙ ap (λ m. m.lf) is))

pub returns-in-Lines-2 : goal.returns-in-Lines-2
returns-in-Lines-2 c = λ t is. let same = c.if-self-6.true in
    rw c.in-Lines-2.is (lines_by_crlf t (sym (ap (λ m. m.lines) is) ∙ same ∙ ap (λ m. m.crlf) is))
