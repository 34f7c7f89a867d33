use denote.Param.Send.{sendable}
use Rattle.std.proofs.Crossing.{crosses}
use Rattle.text_rope.proofs.lemmas.Callers.{chunks_send, chunks_sync}
use Rattle.rope_tests.proofs.ropes.calls.may_cross.Goals as goal

pub crosses-requires-2-send-T : goal.crosses-requires-2-send-T
crosses-requires-2-send-T c κs = search (sendable, crosses, chunks_send)

pub crosses-requires-2-sync-T : goal.crosses-requires-2-sync-T
crosses-requires-2-sync-T c κs = search (sendable, crosses, chunks_sync)
