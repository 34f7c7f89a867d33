use Rattle.text_index.proofs.lemmas.{◌≡◌, ◌-◌, ◌<◌, ◌≤◌, ◌⊎◌, size, IsMarkAt, EndsBy, IsHalved, count_at, stretches_of}
use Rattle.text_index.proofs.queries.stretch_for.Given as goal

-- where the stretch starts the count is not reached, and where it ends it is, or the text ends there
abbrev pub invariant-halves : goal.invariant-halves
invariant-halves l = record {
  order : l.low < l.high;
  within : l.high ≤ stretches_of l.fn.m.text;
  start : IsMarkAt l.fn.m.text l.low l.found.start.now;
  end : EndsBy l.fn.m.text l.high l.found.end.now;
  past : count_at l.found.start.now l.s < l.k;
  reached : (l.k ≤ count_at l.found.end.now l.s) ⊎ (l.found.end.now.byte ≡ size l.fn.m.text);
  text : l.m.text ≡ l.fn.m.text;
  reads : l.m.reads ≡ l.fn.m.reads;
  looks_kept : l.fn.m.looks ≤ l.m.looks;
  halved : IsHalved (l.m.looks - l.fn.m.looks) (l.high - l.low) (stretches_of l.fn.m.text);
}

abbrev pub decreases-halves : goal.decreases-halves
decreases-halves l = l.high - l.low
