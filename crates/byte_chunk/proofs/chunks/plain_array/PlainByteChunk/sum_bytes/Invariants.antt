use Rattle.byte_chunk.proofs.lemmas.{◌≡◌, ◌*◌, ◌≤◌, take, sum}
use Rattle.byte_chunk.proofs.chunks.plain_array.PlainByteChunk.sum_bytes.Given as goal

abbrev pub invariant-loop-lane : goal.invariant-loop-lane
invariant-loop-lane l = record {
  is : l.total ≡ sum (take l.lane-index l.lane-items);
  within : l.total ≤ 255 * l.lane-index;
}
