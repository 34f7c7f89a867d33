-- The chunks of a text as the parts in which positions are searched.
--     parts_of state    what contracts see of a view as a text in parts
use Rattle.std.specs.Prelude.{◌+◌, ◌*◌, length}
use Rattle.text_summary.specs.Pieces.{joined}
use Rattle.positions.specs.Parts.{PartsState}
use Rattle.text_rope.specs.States.{RopeState}

-- a search takes as many looks as a question, and the units before a chunk another one
abbrev pub parts_of : RopeState → PartsState
parts_of state = record {
  text = joined state.texts;
  pieces = state.texts;
  latest_start = λ byte. byte;
  byte_choices = (length state.texts + 1) * (length state.texts + 1);
  count_choices = (length state.texts + 1) * (length state.texts + 1);
  unit_searches = 1;
  looks = state.looks;
  reads = state.reads;
}
