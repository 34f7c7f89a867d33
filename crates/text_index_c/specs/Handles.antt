-- The index of a text as C holds it.
--     text_of handle     its text
--     IsIndex handle     it was made: its text is UTF-8, and its marks are that text's
use Rattle.std.specs.Prelude.{IsUtf8, chars}
use Rattle.str_indices.specs.Text.{Text}
use Rattle.text_index.specs.Marks.{AreMarks}
use Rattle.text_index_c.specs.declared.handle.IndexHandle.{IndexHandle}

-- its text
abbrev pub text_of : IndexHandle → Text
text_of handle = chars handle.text.now

-- its text is UTF-8, and its marks are that text's
pub record IsIndex (handle : IndexHandle) : Type 0 where
  pub utf8 : IsUtf8 handle.text.now
  pub marks : AreMarks (chars handle.text.now) handle.marks.now handle.whole
