-- A handle may go to another thread, as its rope may.
use denote.Exit.{Exit, unchanged, leaves, hidden, under}
use denote.RawPtr.{Ptr, block_ptr, null_ptr}
use denote.Struct.Struct.{exits_of}
use denote.Struct.Owning.{shape, fields, to}
use denote.Builtin.{RawPtr}
use denote.Memory.{lone}
use mir.Raw.{raw}
use base.Fraction.{full_share}
use base.Shift.{Keyless}
use denote.Param.Send.{IsSend, AllSend, Quiet, part_keyless, owning_send, struct_send, sendable}
use Rattle.std.proofs.Crossing.{frees}
use Rattle.str_indices.specs.Text.{Text}
use Rattle.text_rope.specs.contracts.rope.Rope as rope
use Rattle.text_rope.proofs.lemmas.Callers.{rope_send}
use Rattle.text_rope_c.specs.Kept.{heap, kept}
use Rattle.text_rope_c.specs.contracts.slot.Slot.{the_row, the_type}

quiet : {D X : Type 0} (f : D → X) (e : Exit X) → Quiet e → Quiet (hidden (under f e))
quiet f unchanged q = λ x w. tt
quiet f (leaves L l S s r₀) q = λ d. q (f d)

kept_keyless : (p : Ptr) (t : Text) → Keyless (kept p t)
kept_keyless null_ptr t = tt
kept_keyless (block_ptr b o) t = (part_keyless rope.the_row rope_send full_share t b o, frees.frees heap (raw (lone rope.the_row.mir)) (block_ptr b o))

pointer_send : IsSend RawPtr
pointer_send = search sendable

pub send : IsSend the_row
send =
    let all : AllSend (fields the_type) = (pointer_send, tt) in
    owning_send the_type all (λ d. kept_keyless d.at d.text) (λ k. quiet (to the_type) (exits_of k (fields the_type)) ((struct_send (shape the_type) all).leaving k))
