use denote.Shadow.{shadow}
use denote.Text.{Utf8}
use Rattle.text_rope.proofs.lemmas.{◌≡◌, ◌+◌, ◌*◌, ◌++◌, ◌<◌, ◌≤◌, ◌^◌, length, chars, joined}
use Rattle.text_rope.specs.ChunkSizes.{max_chunk, min_chunk, AreLongEnough}
use Rattle.text_rope.proofs.loads.chunks_of.Given as goal

-- the chunks so far, and what is after them
abbrev pub invariant-loop-rest : goal.invariant-loop-rest
invariant-loop-rest l = record {
  utf8 : shadow (Utf8 l.rest);
  parts : chars l.text ≡ joined l.chunks.items ++ chars l.rest;
  short : length l.rest < 2 ^ 63;
  few : min_chunk * length l.chunks.items + length l.rest ≤ length l.text + min_chunk;
  before_last : 0 < length l.rest → min_chunk * length l.chunks.items + length l.rest ≤ length l.text;
  full : min_chunk ≤ length l.text → AreLongEnough l.chunks.items;
  enough : 0 < length l.rest → min_chunk ≤ length l.text → min_chunk ≤ length l.rest;
  one : length l.text ≤ max_chunk → length l.chunks.items ≤ 1;
  none : length l.text ≤ max_chunk → 0 < length l.rest → length l.chunks.items ≡ 0;
  less : length l.rest ≤ length l.text;
  empty : length l.text ≡ 0 → length l.chunks.items ≡ 0;
}

abbrev pub decreases-loop-rest : goal.decreases-loop-rest
decreases-loop-rest l = length l.rest
