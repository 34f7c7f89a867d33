-- What was given so far stands at the beginning of the room, but for what is skipped.
use Rattle.text_rope.proofs.lemmas.{◌≡◌, ◌-◌, ◌≤◌, joined}
use Rattle.text_rope.specs.Chunks.{IsPartRead}
use Rattle.text_rope.proofs.copies.read_chunks.Given as goal

abbrev pub invariant-loop-written : goal.invariant-loop-written
invariant-loop-written l = record {
  read : IsPartRead (joined l.initial.chunks.view.texts) l.initial.chunks.at l.chunks.at l.initial.skip l.written l.initial.room l.room;
  skip : l.skip ≡ l.initial.skip - (l.chunks.at - l.initial.chunks.at);
  within : l.chunks.at ≤ l.chunks.end;
  after : l.initial.chunks.at ≤ l.chunks.at;
  texts : l.chunks.view.texts ≡ l.initial.chunks.view.texts;
  end : l.chunks.end ≡ l.initial.chunks.end;
}

abbrev pub decreases-loop-written : goal.decreases-loop-written
decreases-loop-written l = l.chunks.end - l.chunks.at
